-- `unit::calls::take_time_code` meets its contract: a small call, with the clock after the code.
use Rattle.unit.specs.Calls.{take_time_code}
use Rattle.unit.proofs.calls.take_time_code.Goals as goal

pub returns : goal.returns
unfolding take_time_code
returns c = rw (← c.take_code.ensures) c.small_call.ensures
