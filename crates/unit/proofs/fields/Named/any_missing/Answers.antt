-- `unit::fields::Named::any_missing` meets its contract: what is left from i on has the same answer.
use Rattle.std.proofs.lemmas.List.FromFn.{get_or-range_with_len, length-range_with_len}
use Rattle.unit.proofs.FieldLaws.{off_test}
use Rattle.unit.proofs.SomeLaws.{some_hit, some_miss, some_end}
use Rattle.unit.specs.Fields.{named, is_missing}
use Rattle.std.proofs.Common.{◌≡◌, ◌+◌, sym, refl, ap, ◌∙◌, arith}
use Rattle.unit.proofs.fields.Named.any_missing.Goals as goal

pub loop-i-init : goal.loop-i-init
loop-i-init c = refl

pub returns-then-missing : goal.returns-then-missing
returns-then-missing c = let a = c.args.self in
    let i = c.loop-i.i in
    let l = named a.address a.count in
    let place = ap is_missing (get_or-range_with_len a.address a.count i 0 (omega arith)) in
    let test : c.eq-missing.result ≡ is_missing (a.address + i) = rw c.row_of.ensures at c.eq-missing.ensures ∙ off_test (a.address + i) in
    sym (some_hit is_missing l i 0 (rw (length-range_with_len a.address a.count) (omega arith)) (place ∙ sym test ∙ c.if-missing.true)) ∙ c.loop-i.invariant

pub loop-i-preserved : goal.loop-i-preserved
loop-i-preserved c =
    let a = c.args.self in
    let i = c.loop-i.i in
    let l = named a.address a.count in
    let place = ap is_missing (get_or-range_with_len a.address a.count i 0 (omega arith)) in
    let test : c.eq-missing.result ≡ is_missing (a.address + i) = rw c.row_of.ensures at c.eq-missing.ensures ∙ off_test (a.address + i) in
    sym (some_miss is_missing l i 0 (rw (length-range_with_len a.address a.count) (omega arith)) (place ∙ sym test ∙ c.if-missing.false)) ∙ c.loop-i.invariant

pub returns : goal.returns
returns c =
    let a = c.args.self in
    let i = c.loop-i.i in
    sym (some_end is_missing (named a.address a.count) i (rw (length-range_with_len a.address a.count) (omega arith)))
    ∙ c.loop-i.invariant
