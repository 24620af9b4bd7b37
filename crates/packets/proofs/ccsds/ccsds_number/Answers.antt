-- `packets::ccsds::ccsds_number` meets its contract: what is taken is 21, what is thrown away 22.
use Rattle.std.proofs.Common.{rules}
use Rattle.packets.proofs.ccsds.ccsds_number.Goals as goal

pub returns-in-Some : goal.returns-in-Some
returns-in-Some c = search rules

pub returns-in-None : goal.returns-in-None
returns-in-None c = search rules
