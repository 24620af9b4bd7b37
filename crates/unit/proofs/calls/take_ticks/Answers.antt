-- `unit::calls::take_ticks` meets its contract: a small call, with the clock after the ticks.
use Rattle.unit.specs.Calls.{take_ticks}
use Rattle.unit.proofs.calls.take_ticks.Goals as goal

pub returns : goal.returns
unfolding take_ticks
returns c = rw (← c.add_ticks.ensures) c.small_call.ensures
