-- `unit::decide::Asked::header_status` meets its contract: the protocol, then the opening, then the rest.
use Rattle.unit.specs.Decide.{header_status}
use Rattle.std.proofs.lemmas.Result.{err_from_is_err_and}
use Rattle.std.proofs.Common.{eq-eqb, ne_eqb}
use Rattle.unit.proofs.decide.Asked.header_status.Goals as goal

pub returns-in_err-opening_status : goal.returns-in_err-opening_status
unfolding header_status
returns-in_err-opening_status c =
    let p = err_from_is_err_and c.from_residual.result c.from_residual.ensures.1 in
    rw (p.1, p.2, eq-eqb _ _ c.if-self-eq1.true, ← c.in_err-opening_status.ensures)

pub returns-then-self-eq1 : goal.returns-then-self-eq1
unfolding header_status
returns-then-self-eq1 c = rw (eq-eqb _ _ c.if-self-eq1.true, ← c.in_ok-opening_status.ensures) c.span_status.ensures

pub returns-in_err-opening_status-2 : goal.returns-in_err-opening_status-2
unfolding header_status
returns-in_err-opening_status-2 c =
    let r = c.from_residual-in_err-opening_status-2 in
    let p = err_from_is_err_and r.result r.ensures.1 in
    rw (p.1, p.2, ne_eqb _ _ c.if-self-eq1.false, ← c.in_err-opening_status-2.ensures)

pub returns : goal.returns
unfolding header_status
returns c = rw (ne_eqb _ _ c.if-self-eq1.false, ← c.in_ok-opening_status-2.ensures) c.fields_status.ensures
