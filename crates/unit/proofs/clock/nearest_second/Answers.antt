-- `unit::clock::nearest_second` meets its contract: below half a second the same one, from there the next.
use Rattle.unit.proofs.ClockLaws.{nearest_same, nearest_next}
use Rattle.unit.proofs.clock.nearest_second.Goals as goal

pub returns-then-et-lt-HALF : goal.returns-then-et-lt-HALF
returns-then-et-lt-HALF c = rw (nearest_same _ c.if-et-lt-HALF.true)

pub returns : goal.returns
returns c = rw (nearest_next _ c.if-et-lt-HALF.false)
