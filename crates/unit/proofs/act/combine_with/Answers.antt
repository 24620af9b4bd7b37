-- `unit::act::combine_with` meets its contract: after i turns the bytes are what they were with the first i combined ones pasted.
use Rattle.unit.proofs.ActLaws.{combined_next, combined_end}
use lib.Seq.{paste-zero}
use Rattle.unit.specs.Act.{combined}
use Rattle.std.proofs.Common.{◌≡◌, length, refl, arith, length-set}
use Rattle.unit.proofs.act.combine_with.Goals as goal

pub loop-i-init : goal.loop-i-init
loop-i-init c =
    let a = c.args in
    (paste-zero a.read.now 0 (combined a.read.now a.bytes.now a.masks.now), refl)

pub loop-i-preserved : goal.loop-i-preserved
loop-i-preserved c =
    let a = c.args in
    let l = c.loop-i in (
      combined_next a.read.now a.bytes.now a.masks.now c.requires.0 c.requires.1 l.i (omega arith) l.invariant.0 c.combine_byte.ensures,
      simp length-set l.invariant.1,
    )

pub returns : goal.returns
returns c =
    let a = c.args in
    let l = c.loop-i in
    let n : l.i ≡ length a.read.now = omega arith in
    combined_end a.read.now a.bytes.now a.masks.now c.requires.0 c.requires.1 (rw n at l.invariant.0)
