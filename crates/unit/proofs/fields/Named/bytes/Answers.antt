-- `unit::fields::Named::bytes` meets its contract: after i turns the first i fields stand at the start.
use Rattle.std.proofs.Common.{◌≡◌, ℕ, ◌+◌, ◌<◌, length, get_or, sym, refl, ap, ◌∙◌, arith, take_all}
use Rattle.octets.specs.Numbers.{bytes_of}
use Rattle.std.proofs.lemmas.List.FromFn.{get_or-range_with_len, length-range_with_len}
use Rattle.unit.proofs.FieldLaws.{bytes_next, row_or_missing}
use Rattle.unit.specs.Fields.{named, row_of, field_bytes}
use Rattle.unit.proofs.fields.Named.bytes.Goals as goal

pub loop-i-init : goal.loop-i-init
loop-i-init c = refl

pub offset_bounds-values-row : goal.offset_bounds-values-row
offset_bounds-values-row c =
    let small = (row_or_missing (c.args.self.address + c.loop-i.i) (rw c.row_of.ensures at c.unwrap_or-row.ensures)).1 in
    record { fits = omega (arith, small) }

pub bounds-values-row : goal.bounds-values-row
bounds-values-row c = (row_or_missing (c.args.self.address + c.loop-i.i) (rw c.row_of.ensures at c.unwrap_or-row.ensures)).1

pub loop-i-preserved : goal.loop-i-preserved
loop-i-preserved c =
    let a = c.args.self in
    let l = named a.address a.count in
    let i = c.loop-i.i in
    let row = (row_or_missing (a.address + i) (rw c.row_of.ensures at c.unwrap_or-row.ensures)).0 in
    let place = row ∙ ap row_of (sym (get_or-range_with_len a.address a.count i 0 (omega arith))) in
    let word = c.to_octets-word.ensures ∙ ap (λ (x : ℕ). bytes_of 4 (get_or c.args.values x 0)) place in
    let put = c.copy_from_slice.ensures.after ∙ word in
    let there : i < length l = rw (length-range_with_len a.address a.count) (omega arith) in
    bytes_next c.args.values l c.loop-i.out i _ there (omega (arith, c.to_octets-word.array_long)) c.loop-i.invariant put

pub returns : goal.returns
returns c = let a = c.args.self in
    let e : c.loop-i.i ≡ a.count = omega arith in
    let all = take_all a.count (named a.address a.count) (rw (length-range_with_len a.address a.count) (omega arith)) in
    rw e at c.loop-i.invariant ∙ ap (field_bytes c.args.values) all
