-- `unit::decide::Asked::fields_status` meets its contract: the checks in their order; the sum of address and count does not pass 2^32.
use Rattle.unit.specs.Decide.{fields_status}
use Rattle.unit.proofs.FieldLaws.{named_room}
use Rattle.unit.proofs.DecideLaws.{one_is_missing, none_is_missing}
use Rattle.std.proofs.lemmas.Result.{err_from_is_err_and}
use Rattle.std.proofs.Common.{sym, ◌∙◌, arith}
use Rattle.unit.proofs.decide.Asked.fields_status.Goals as goal

pub returns-then-not-names_fields : goal.returns-then-not-names_fields
unfolding fields_status
returns-then-not-names_fields c = rw (sym c.names_fields.ensures ∙ c.if-not-names_fields.true)

pub invariant_of-named : goal.invariant_of-named
invariant_of-named c =
    let small = named_room c.args.self.command.header (sym c.names_fields.ensures ∙ c.if-not-names_fields.false) (omega arith) in
    record { last = rw (c.field_count.ensures, c.args.self.kind_is) small }

pub returns-then-any_missing : goal.returns-then-any_missing
returns-then-any_missing c =
    one_is_missing _ c.args.self.command.header _ _ c.args.self.kind_is c.field_count.ensures (sym c.names_fields.ensures ∙ c.if-not-names_fields.false)
    (sym c.any_missing.ensures ∙ c.if-any_missing.true)

pub returns-in_err-offence_in : goal.returns-in_err-offence_in
returns-in_err-offence_in c =
    let p = err_from_is_err_and c.from_residual.result c.from_residual.ensures.1 in
    rw (p.1, p.2)
    (none_is_missing _ c.args.self.command.header _ _ c.args.self.kind_is c.field_count.ensures (sym c.names_fields.ensures ∙ c.if-not-names_fields.false)
    (sym c.any_missing.ensures ∙ c.if-any_missing.false) c.in_err-offence_in.ensures)

pub returns-then-not-is_allowed : goal.returns-then-not-is_allowed
returns-then-not-is_allowed c =
    rw (rw c.of.ensures at (sym c.is_allowed.ensures ∙ c.if-not-is_allowed.true)) at
    (none_is_missing c.args.owner c.args.self.command.header c.args.self.command.path c.args.link c.args.self.kind_is c.field_count.ensures (sym c.names_fields.ensures ∙ c.if-not-names_fields.false)
    (sym c.any_missing.ensures ∙ c.if-any_missing.false) c.in_ok-offence_in.ensures)

pub returns : goal.returns
returns c =
    rw (rw c.of.ensures at (sym c.is_allowed.ensures ∙ c.if-not-is_allowed.false)) at
    (none_is_missing c.args.owner c.args.self.command.header c.args.self.command.path c.args.link c.args.self.kind_is c.field_count.ensures (sym c.names_fields.ensures ∙ c.if-not-names_fields.false)
    (sym c.any_missing.ensures ∙ c.if-any_missing.false) c.in_ok-offence_in.ensures)
