-- `unit::clock::Clock::set_time` meets its contract: at once or at the wrap.
use Rattle.unit.specs.Clock.{after_time}
use Rattle.unit.proofs.clock.Clock.set_time.Goals as goal

pub returns-in-AtWrap : goal.returns-in-AtWrap
unfolding after_time
returns-in-AtWrap c = rw c.in-AtWrap.is

pub returns-in-AtOnce : goal.returns-in-AtOnce
unfolding after_time
returns-in-AtOnce c = rw c.in-AtOnce.is
