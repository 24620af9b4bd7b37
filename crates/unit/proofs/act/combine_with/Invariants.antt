-- `unit::act::combine_with` meets its contract: after i turns the bytes are what they were with the first i combined ones pasted.
use lib.Seq.{paste}
use Rattle.unit.specs.Act.{combined}
use Rattle.std.proofs.Common.{◌≡◌, length}
use Rattle.unit.proofs.act.combine_with.Given as goal

abbrev pub invariant-loop-i : goal.invariant-loop-i
invariant-loop-i l = (l.read ≡ paste l.initial.read 0 (combined l.initial.read l.bytes l.masks) l.i) × (length l.read ≡ length l.initial.read)
