-- `unit::fields::right_of` meets its contract: a row of our table is below 15.
use Rattle.std.proofs.Common.{sym}
use Rattle.unit.proofs.FieldLaws.{in_table}
use Rattle.unit.proofs.fields.right_of.Goals as goal

pub bounds-row-row : goal.bounds-row-row
bounds-row-row c = (in_table c.args.address (sym c.in_ok-row.ensures)).1
