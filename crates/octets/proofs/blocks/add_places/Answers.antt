-- `octets::blocks::add_places` meets its contract: at each test, the places from j on added to what is there are those from the first on, added to what was there.
use native.Mathlib.Omega.{arith}
use mathlib.Core.Path.{◌≡◌, ◌∙◌}
use borrow.Author.Rules.{rules}
use Rattle.octets.proofs.BlockLaws.{added_next}
use Rattle.octets.proofs.blocks.add_places.Goals as goal

pub loop-j-preserved : goal.loop-j-preserved
loop-j-preserved c =
    added_next c.loop-j.sum c.args.block.now c.loop-j.j (search rules) (search rules) ∙ c.loop-j.invariant

pub returns : goal.returns
returns c =
    let at = c.loop-j in
    let end : at.j ≡ c.args.to = omega arith in
    rw (← end) at.invariant
