-- `unit::clock::Clock::add_ticks` meets its contract: the sum modulo 2^56, all else as it was.
use Rattle.unit.specs.Clock.{after_ticks}
use Rattle.unit.proofs.clock.Clock.add_ticks.Goals as goal

pub returns : goal.returns
unfolding after_ticks
returns c = rw c.sum56.ensures
