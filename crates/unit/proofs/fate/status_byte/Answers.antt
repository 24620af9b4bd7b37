-- `unit::fate::status_byte` meets its contract: success is 0, and what a command offends is its number.
use borrow.Author.Rules.{rules}
use Rattle.unit.proofs.fate.status_byte.Goals as goal

pub returns-in-Ok : goal.returns-in-Ok
returns-in-Ok c = search rules
