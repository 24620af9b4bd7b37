-- `octets::numbers::U32Octets3::to_octets` meets its contract: its bytes are the last three of four.
use borrow.Author.Rules.{rules}
use Rattle.octets.proofs.numbers.U32Octets3.to_octets.Goals as goal

pub returns : goal.returns
returns c = search rules
