-- `unit::decide::Asked::names_fields` meets its contract: the same tests.
use Rattle.unit.specs.Decide.{names_fields}
use Rattle.unit.proofs.FieldLaws.{field_count_most}
use Rattle.std.proofs.Common.{arith}
use Rattle.unit.proofs.decide.Asked.names_fields.Goals as goal

pub overflow_add-result : goal.overflow_add-result
overflow_add-result c =
    let m = field_count_most c.args.self.kind c.args.self.command.header.length in
    omega (arith, m, c.field_count.ensures)

pub returns : goal.returns
unfolding names_fields
returns c =
    rw (c.field_count.ensures, c.is_field_length.ensures, c.args.self.kind_is, c.code-code.ensures)
