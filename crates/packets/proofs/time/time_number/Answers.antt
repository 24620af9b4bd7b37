-- `packets::time::time_number` meets its contract: what is thrown away is 16, what is taken 19.
use Rattle.std.proofs.Common.{rules}
use Rattle.packets.proofs.time.time_number.Goals as goal

pub returns-in-None : goal.returns-in-None
returns-in-None c = search rules

pub returns-in-Some : goal.returns-in-Some
returns-in-Some c = search rules
