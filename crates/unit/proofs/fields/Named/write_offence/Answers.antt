-- `unit::fields::Named::write_offence` meets its contract: what is left from i on has the same answer.
use Rattle.std.proofs.lemmas.List.FromFn.{get_or-range_with_len, length-range_with_len}
use Rattle.unit.proofs.FieldLaws.{offence_found, offence_none, offence_end}
use Rattle.unit.specs.Fields.{named, right_of, offence_of}
use Rattle.std.proofs.lemmas.Result.{err_from_is_err_and}
use Rattle.std.proofs.Common.{ℕ, sym, refl, ap, ◌∙◌, arith}
use Rattle.unit.proofs.fields.Named.write_offence.Goals as goal

pub loop-i-init : goal.loop-i-init
loop-i-init c = refl

pub returns-in_err-offence_of : goal.returns-in_err-offence_of
returns-in_err-offence_of c =
    let a = c.args.self in
    let i = c.loop-i.i in
    let e = ap (λ (x : ℕ). offence_of (right_of x)) (get_or-range_with_len a.address a.count i 0 (omega arith)) ∙ sym c.in_err-offence_of.ensures in
    let p = err_from_is_err_and c.from_residual.result c.from_residual.ensures.1 in
    rw (p.1, p.2) (sym (offence_found (named a.address a.count) i (rw (length-range_with_len a.address a.count) (omega arith)) e) ∙ c.loop-i.invariant)

pub loop-i-preserved : goal.loop-i-preserved
loop-i-preserved c =
    let a = c.args.self in
    let i = c.loop-i.i in
    let e = ap (λ (x : ℕ). offence_of (right_of x)) (get_or-range_with_len a.address a.count i 0 (omega arith)) ∙ sym c.in_ok-offence_of.ensures in
    sym (offence_none (named a.address a.count) i (rw (length-range_with_len a.address a.count) (omega arith)) e)
    ∙ c.loop-i.invariant

pub returns : goal.returns
returns c =
    let a = c.args.self in
    let i = c.loop-i.i in
    sym (offence_end (named a.address a.count) i (rw (length-range_with_len a.address a.count) (omega arith))) ∙ c.loop-i.invariant
