-- `unit::fields::link_information` meets its contract: the same sum; an address is one byte, so nothing of it is cut.
use Rattle.unit.specs.Fields.{link_information}
use Rattle.std.proofs.Common.{arith}
use Rattle.unit.proofs.fields.link_information.Goals as goal

pub returns : goal.returns
unfolding link_information
returns c = rw c.size.ensures.answers (omega arith)
