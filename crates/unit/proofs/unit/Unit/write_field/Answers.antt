-- `unit::unit::Unit::write_field` meets its contract: the rows of the two fields that are written, one after the other.
use Rattle.std.proofs.Common.{sym, ◌∙◌, ne_eqb}
use Rattle.unit.specs.Act.{field_written}
use Rattle.unit.proofs.FieldLaws.{in_table, off_table}
use Rattle.unit.proofs.unit.Unit.write_field.Goals as goal

pub returns-in-Some-eq11 : goal.returns-in-Some-eq11
unfolding field_written
returns-in-Some-eq11 c =
    rw ((in_table c.args.address (sym c.in-Some-eq11.ensures)).0, c.in-Some-eq11.field-0-test, ← c.write_time_code-clock.ensures)

pub returns-in-Some-eq14 : goal.returns-in-Some-eq14
unfolding field_written
returns-in-Some-eq14 c =
    rw ((in_table c.args.address (sym c.in-Some-eq14.ensures)).0, c.in-Some-eq14.field-0-test, ← c.write_divider-fields.ensures)

pub returns-in_default : goal.returns-in_default
unfolding field_written
returns-in_default c = rw ((in_table c.args.address (sym c.in_default.ensures)).0, ne_eqb _ _ c.in_default.field-0-test.0.1, ne_eqb _ _ c.in_default.field-0-test.1)

pub returns-in_default-2 : goal.returns-in_default-2
unfolding field_written
returns-in_default-2 c = rw (off_table c.args.address (sym c.row_of.ensures ∙ c.in_default.is))
