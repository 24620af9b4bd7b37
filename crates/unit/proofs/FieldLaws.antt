-- Laws of fields.
use Rattle.std.proofs.Common.{◌≡◌, ℕ, zero, suc, ◌+◌, ◌-◌, ◌*◌, ◌/◌, ◌^◌, ◌<◌, ◌≤◌, Bool, true, false, cond, ◌&&◌, ◌||◌, eqb, ltb, leb, ◌⊎◌, List, [], ◌∷◌, ◌++◌, length, get_or, take, take_all, drop, sym, refl, ap, ◌∙◌, inl, inr, append_assoc, append-nil, add-one, arith, length-append, drop_of_length-le, drop-cons, ltb-true, eqb-true, leb-true, Option, Some, None, is_some, unwrap_or, Ok, Err}
use Rattle.std.specs.Option.{option_eq}
use mathlib.Core.Bool.{false≢true}
use borrow.Author.Tests.{eqb-false}
use Rattle.packets.specs.Instruction.{code_of}
use Rattle.packets.specs.declared.header.Header.{Header}
use borrow.Rule.Slice.PartMut.{put_mid}
use Rattle.std.proofs.lemmas.Slice.{take-put_mid}
use Rattle.octets.specs.Numbers.{bytes_of}
use Rattle.octets.specs.Places.{part, placed, copied}
use Rattle.octets.proofs.PlaceLaws.{copied_done, put_placed, first_true, second_true}
use Rattle.octets.proofs.Tabulate.{at}
use Rattle.packets.specs.declared.instruction.Kind.{Kind}
use Rattle.packets.specs.declared.instruction.Kind.TheVariants.{Unused, Read, ReadModifyWrite, Write}
use Rattle.unit.specs.Fate.{is_success, or_else}
use Rattle.unit.specs.Fields.{above_field, field_of, named, device_id, time_code_counter, divider, missing, row_of, is_missing, row_in_table, row_right, right_of, offence_of, write_offence, swap_offence, field_bytes}
use Rattle.packets.specs.Header.{kind_in}
use Rattle.unit.specs.Decide.{field_count, is_field_length, names_fields}
use Rattle.unit.specs.declared.fate.Offence.{Offence}
use Rattle.unit.specs.declared.fields.Right.TheVariants.{ReadOnly, Swapped, Written}
use Rattle.unit.proofs.FateLaws.{or_else_law}

-- what a command that names fields has shown
pub named_last : (h : Header) → names_fields h ≡ true → field_of h.address + field_count (kind_in h) h.length ≤ 2 ^ 14
unfolding names_fields
named_last h e =
    let n = field_count (kind_in h) h.length in
    let c = code_of h.instruction in
    leb-true (field_of h.address + n) (2 ^ 14)
    (second_true (eqb h.extended 0 && (eqb c 0b1111 || eqb c 0b0011 || eqb c 0b0111) && is_field_length (kind_in h) h.length) (leb (field_of h.address + n) (2 ^ 14)) e)

pub named_room : (h : Header) → names_fields h ≡ true → h.address < 2 ^ 32 → h.address + field_count (kind_in h) h.length ≤ 2 ^ 32
named_room h e small = let r = named_last h e in omega (arith, r)

pub field_count_most : (kind : Kind) (n : ℕ) → field_count kind n ≤ n / 4 + 1
field_count_most Unused n = omega arith
field_count_most Read n = omega arith
field_count_most ReadModifyWrite n = omega arith
field_count_most Write n = omega arith

-- ---- the lowest field that offends, from a place on

module _ (l : List ℕ) where
  offence_at : (i : ℕ) → i < length l → write_offence (drop i l) ≡ or_else (offence_of (right_of (get_or l i 0))) (write_offence (drop (i + 1) l))
  offence_at i h = rw (drop-cons l i 0 h, add-one)

  pub offence_found : (i : ℕ) {offence : Offence} → i < length l → offence_of (right_of (get_or l i 0)) ≡ Err offence → write_offence (drop i l) ≡ Err offence
  offence_found i h e = offence_at i h ∙ rw e

  pub offence_none : (i : ℕ) → i < length l → offence_of (right_of (get_or l i 0)) ≡ Ok tt → write_offence (drop i l) ≡ write_offence (drop (i + 1) l)
  offence_none i h e = offence_at i h ∙ rw e

  pub offence_end : (i : ℕ) → length l ≤ i → write_offence (drop i l) ≡ Ok tt
  offence_end i h = rw (drop_of_length-le l {i = i} h)

-- ---- the bytes of fields, one field after the other

bytes_more : (v l : List ℕ) (i : ℕ) → i < length l
    → field_bytes v (take (suc i) l) ≡ field_bytes v (take i l) ++ bytes_of 4 (get_or v (row_of (get_or l i 0)) 0)
bytes_more v [] i h = absurd (omega arith)
bytes_more v (x ∷ l) zero h = append-nil (bytes_of 4 (get_or v (row_of x) 0))
bytes_more v (x ∷ l) (suc i) h =
    ap (λ (b : List ℕ). bytes_of 4 (get_or v (row_of x) 0) ++ b) (bytes_more v l i (omega arith))
    ∙ sym (append_assoc (bytes_of 4 (get_or v (row_of x) 0)) (field_bytes v (take i l)) (bytes_of 4 (get_or v (row_of (get_or l i 0)) 0)))

-- the next one was written behind those that are there
pub bytes_next : (v l out : List ℕ) {word : List ℕ} (i k : ℕ) → i < length l → 4 * i ≤ length out
    → take (4 * i) out ≡ field_bytes v (take i l) → word ≡ bytes_of 4 (get_or v (row_of (get_or l i 0)) 0)
    → take (4 * (i + 1)) (put_mid (4 * i) k out word) ≡ field_bytes v (take (i + 1) l)
bytes_next v l out {word} i k h room e f =
    let four : length word ≡ 4 = ap length f in
    take-put_mid (4 * i) k out word (4 * (i + 1)) (omega (arith, four)) room ∙ rw (e, f, add-one) (sym (bytes_more v l i h))

-- or was copied there
pub bytes_copied : (v l out : List ℕ) {word then : List ℕ} (i : ℕ) → i < length l → 4 * i + 4 ≤ length out
    → take (4 * i) out ≡ field_bytes v (take i l) → word ≡ bytes_of 4 (get_or v (row_of (get_or l i 0)) 0)
    → then ≡ copied word 0 4 out (4 * i) → take (4 * (i + 1)) then ≡ field_bytes v (take (i + 1) l)
bytes_copied v l out {word} {then} i h room e f g =
    let four : length word ≡ 4 = ap length f in
    let whole : part 0 4 word ≡ word = take_all 4 word (omega (arith, four)) in
    let put : then ≡ put_mid (4 * i) (4 * i + 4 - 4 * i) out word =
    g ∙ copied_done word 0 4 out (4 * i) (omega (arith, four)) room ∙ ap (λ (w : List ℕ). placed (4 * i) w out) whole ∙ sym (put_placed (4 * i) 4 word out four) in
    ap (take (4 * (i + 1))) put ∙ bytes_next v l out i (4 * i + 4 - 4 * i) h (omega (arith, room)) e f

-- ---- an obeyed write names one field: the two that are written are no neighbours

-- only their rows let a write pass
passes : (row : ℕ) → row < 16 → is_success (offence_of (row_right row)) ≡ (eqb row time_code_counter || eqb row divider)
passes row h =
    sym (at false (λ (k : ℕ). is_success (offence_of (row_right k))) 16 row h)
    ∙ at false (λ (k : ℕ). eqb k time_code_counter || eqb k divider) 16 row h

-- a row of the second set has one address
row_address : (a : ℕ) → (row_of a < 16) × (row_of a ≡ time_code_counter → a ≡ 0x80000) × (row_of a ≡ divider → a ≡ 0x80003)
unfolding row_of
row_address a = go (eqb (above_field a) 0 && ltb (field_of a) 11) (eqb (above_field a) 32 && ltb (field_of a) 4) refl refl
  where
    go : (t v : Bool) → (eqb (above_field a) 0 && ltb (field_of a) 11) ≡ t → (eqb (above_field a) 32 && ltb (field_of a) 4) ≡ v
        → (cond t (field_of a) (cond v (11 + field_of a) 15) < 16)
        × (cond t (field_of a) (cond v (11 + field_of a) 15) ≡ time_code_counter → a ≡ 0x80000)
        × (cond t (field_of a) (cond v (11 + field_of a) 15) ≡ divider → a ≡ 0x80003)
    go true v e f =
        let l = ltb-true (field_of a) 11 (second_true (eqb (above_field a) 0) (ltb (field_of a) 11) e) in
        (omega (arith, l), λ h. absurd (omega (arith, l, h)), λ h. absurd (omega (arith, l, h)))
    go false true e f =
        let s = eqb-true (above_field a) 32 (first_true (eqb (above_field a) 32) (ltb (field_of a) 4) f) in
        let l = ltb-true (field_of a) 4 (second_true (eqb (above_field a) 32) (ltb (field_of a) 4) f) in
        (omega (arith, l), λ h. omega (arith, s, l, h), λ h. omega (arith, s, l, h))
    go false false e f = (omega arith, λ h. absurd (omega (arith, h)), λ h. absurd (omega (arith, h)))

-- in our table is what has a row below 15
pub in_table : (a : ℕ) {row : ℕ} → row_in_table a ≡ Some row → (row_of a ≡ row) × (row < missing)
in_table a {row} e = go (eqb (row_of a) missing) refl e
  where
    go : (t : Bool) → eqb (row_of a) missing ≡ t → cond t None (Some (row_of a)) ≡ Some row → (row_of a ≡ row) × (row < missing)
    go true f g = absurd (false≢true (ap is_some g))
    go false f g =
        let same : row_of a ≡ row = ap (λ (o : Option ℕ). unwrap_or o 0) g in
        let other = eqb-false (row_of a) missing f in
        (same, omega (arith, (row_address a).0, other, same))

-- and what has no row there reads the row behind it
pub row_or_missing : (a : ℕ) {row : ℕ} → row ≡ unwrap_or (row_in_table a) missing → (row ≡ row_of a) × (row < 16)
row_or_missing a {row} e = let same = e ∙ go (eqb (row_of a) missing) refl in (same, omega (arith, same, (row_address a).0))
  where
    go : (t : Bool) → eqb (row_of a) missing ≡ t → unwrap_or (cond t None (Some (row_of a))) missing ≡ row_of a
    go true f = sym (eqb-true (row_of a) missing f)
    go false f = refl

pub off_table : (a : ℕ) → row_in_table a ≡ None → row_of a ≡ missing
off_table a e = go (eqb (row_of a) missing) refl e
  where
    go : (t : Bool) → eqb (row_of a) missing ≡ t → cond t None (Some (row_of a)) ≡ None → row_of a ≡ missing
    go true f g = eqb-true (row_of a) missing f
    go false f g = absurd (false≢true (sym (ap is_some g)))

pub off_test : (a : ℕ) → option_eq eqb (row_in_table a) None ≡ is_missing a
off_test a = go (is_missing a)
  where
    go : (t : Bool) → option_eq eqb (cond t None (Some (row_of a))) None ≡ t
    go true = refl
    go false = refl

written_address : (a : ℕ) → is_success (offence_of (right_of a)) ≡ true → (a ≡ 0x80000) ⊎ (a ≡ 0x80003)
written_address a e =
    let r = row_address a in
    go (eqb (row_of a) time_code_counter) refl (sym (passes (row_of a) r.0) ∙ e) r
  where
    go : (t : Bool) → eqb (row_of a) time_code_counter ≡ t → (eqb (row_of a) time_code_counter || eqb (row_of a) divider) ≡ true
        → (row_of a < 16) × (row_of a ≡ time_code_counter → a ≡ 0x80000) × (row_of a ≡ divider → a ≡ 0x80003) → (a ≡ 0x80000) ⊎ (a ≡ 0x80003)
    go true f g r = inl (r.1 (eqb-true (row_of a) time_code_counter f))
    go false f g r = inr (r.2 (eqb-true (row_of a) divider (rw f at g)))

-- so two neighbours never pass together
pub one_field : (a n : ℕ) → is_success (write_offence (named a n)) ≡ true → n ≤ 1
one_field a zero e = omega arith
one_field a (suc zero) e = omega arith
one_field a (suc (suc n)) e =
    let x = or_else_law (offence_of (right_of a)) (write_offence (named (a + 1) (suc n))) e in
    let y = or_else_law (offence_of (right_of (a + 1))) (write_offence (named (a + 1 + 1) n)) x.1 in
    apart (written_address a x.0) (written_address (a + 1) y.0)
  where
    apart : (a ≡ 0x80000) ⊎ (a ≡ 0x80003) → (a + 1 ≡ 0x80000) ⊎ (a + 1 ≡ 0x80003) → suc (suc n) ≤ 1
    apart (inl p) (inl q) = absurd (omega (arith, p, q))
    apart (inl p) (inr q) = absurd (omega (arith, p, q))
    apart (inr p) (inl q) = absurd (omega (arith, p, q))
    apart (inr p) (inr q) = absurd (omega (arith, p, q))

-- ---- how many bytes fields have

pub length_fields : (v l : List ℕ) → length (field_bytes v l) ≡ 4 * length l
length_fields v [] = refl
length_fields v (x ∷ l) =
    length-append (bytes_of 4 (get_or v (row_of x) 0)) (field_bytes v l) ∙ omega (arith, length_fields v l)

-- ---- a swap that offends nothing is on Device ID

pub swapped_row : (address : ℕ) → is_success (swap_offence (right_of address)) ≡ true → row_of address ≡ device_id
swapped_row address = go (eqb row missing) (eqb row device_id) (eqb row time_code_counter || eqb row divider) refl
  where
    row : ℕ
    row = row_of address

    go : (a b c : Bool) → eqb row device_id ≡ b → is_success (swap_offence (cond a None (Some (cond b Swapped (cond c Written ReadOnly))))) ≡ true → row ≡ device_id
    go true b c e f = absurd (false≢true f)
    go false true c e f = eqb-true row device_id e
    go false false true e f = absurd (false≢true f)
    go false false false e f = absurd (false≢true f)
