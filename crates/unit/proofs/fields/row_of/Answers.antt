-- `unit::fields::row_of` meets its contract: the same tests; no row of the table is 15.
use Rattle.std.proofs.Common.{◌+◌, ◌/◌, ◌%◌, eqb, ltb, arith, ltb-true, ne_eqb}
use Rattle.octets.proofs.PlaceLaws.{second_true}
use Rattle.unit.specs.Fields.{row_of}
use Rattle.unit.proofs.fields.row_of.Goals as goal

pub returns-then-set-field : goal.returns-then-set-field
unfolding row_of
returns-then-set-field c =
    let a = c.args.address in
    let low = ltb-true (a % 0x4000) 11 (second_true (eqb (a / 0x4000) 0) (ltb (a % 0x4000) 11) c.if-set-field.true) in
    rw (c.if-set-field.true, ne_eqb (a % 0x4000) 15 (λ e. omega (arith, low, e)))

pub returns-then-set-field-2 : goal.returns-then-set-field-2
unfolding row_of
returns-then-set-field-2 c =
    let a = c.args.address in
    let low = ltb-true (a % 0x4000) 4 (second_true (eqb (a / 0x4000) 0x20) (ltb (a % 0x4000) 4) c.if-set-field-2.true) in
    rw (c.if-set-field.false, c.if-set-field-2.true, ne_eqb (11 + a % 0x4000) 15 (λ e. omega (arith, low, e)))

pub returns : goal.returns
unfolding row_of
returns c = rw (c.if-set-field.false, c.if-set-field-2.false)
