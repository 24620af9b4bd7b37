-- `unit::unit::Unit::change` meets its contract: action by action: a swap changes the owner, a write a field, the others nothing.
use Rattle.std.proofs.Common.{arith}
use Rattle.std.proofs.lemmas.Grind.{common_steps}
use Rattle.unit.specs.Act.{changed}
use Rattle.unit.proofs.unit.Unit.change.Goals as goal

pub returns-in-Nothing : goal.returns-in-Nothing
unfolding changed
returns-in-Nothing c = grind (arith, common_steps)

pub returns-in-Swap : goal.returns-in-Swap
unfolding changed
returns-in-Swap c = rw (c.in-Swap.is, c.swap-owner.ensures)

pub returns-in-WriteField : goal.returns-in-WriteField
unfolding changed
returns-in-WriteField c = rw c.in-WriteField.is c.write_field.ensures
