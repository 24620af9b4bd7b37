-- `script::fields::rest` meets its contract: what is dropped is the field with its bar, or all.
use native.Mathlib.Omega.{arith}
use native.Mathlib.Numerals.{add-one}
use mathlib.Core.Path.{◌≡◌, sym, ap, ◌∙◌}
use Prim.Native.Nat.{ℕ, suc, ◌+◌, ◌-◌}
use lib.ListN.{length, drop, length-drop, drop_of_length-le}
use lib.Seq.{take_all}
use Rattle.script.specs.Fields.{bar, field_of}
use Rattle.script.proofs.FieldLaws.{size_from_place}
use Rattle.script.proofs.fields.rest.Goals as goal

pub returns-in-Some : goal.returns-in-Some
returns-in-Some c =
    let s = c.args.s.now in
    let at = c.in-Some.bar in
    let size : at ≡ length (field_of s) = size_from_place bar s _ (sym c.in-Some.is ∙ c.place.ensures) in
    take_all (length s - (at + 1)) (drop (at + 1) s) (omega (arith, length-drop (at + 1) s)) ∙ ap (λ (k : ℕ). drop k s) (add-one at ∙ ap suc size)

pub returns-in-None : goal.returns-in-None
returns-in-None c =
    let s = c.args.s.now in
    let size : length s ≡ length (field_of s) = size_from_place bar s _ (sym c.in-None.is ∙ c.place.ensures) in
    sym (drop_of_length-le s {i = suc (length (field_of s))} (omega (arith, size)))
