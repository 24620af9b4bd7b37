-- Names are kept: a command that passed the checks has named fields of the table only, and its span is one window's.
use Rattle.std.proofs.Common.{Option, Some, None, Err, Ok}
use Rattle.std.specs.Prelude.{Ok, Err}
use mathlib.Core.Path.{◌≡◌, refl, sym, ◌∙◌, ap}
use mathlib.Core.Bool.{Bool, true, false, cond, ◌&&◌, false≢true, or-true}
use mathlib.Core.Logic.{◌≢◌}
use Prim.Native.Nat.{ℕ, zero, suc, ◌+◌, ◌^◌, ◌<◌}
use native.Mathlib.Omega.{arith}
use native.Mathlib.Nat.{add-zero}
use borrow.Author.Tests.{eqb-true, eq-eqb, ne_eqb, ltb-true}
use lib.Dec.{eqb, ltb}
use lib.ListN.{length}
use Rattle.octets.proofs.PlaceLaws.{first_true, second_true}
use Rattle.packets.specs.Header.{kind_in}
use Rattle.packets.specs.declared.header.Header.{Header}
use Rattle.packets.specs.declared.path.Path.{Path}
use Rattle.packets.specs.declared.reading.Packet.TheVariants.{Time}
use Rattle.packets.proofs.ReadingLaws.{not_command, one_command}
use Rattle.unit.proofs.FateLaws.{success_byte}
use Rattle.unit.specs.Some.{some}
use Rattle.unit.specs.Fate.{Status, byte_of, is_success, fate_number, fate_status}
use Rattle.unit.specs.Fields.{field_of, above_field, above, named, missing, row_of, is_missing}
use Rattle.unit.specs.Given.{Arrived, as_read, Lent}
use Rattle.unit.specs.Decide.{opening_status, field_count, names_fields, fields_status, header_status}
use Rattle.unit.specs.Plan.{unanswered_fate}
use Rattle.unit.specs.Calls.{Outcome, take_packet}
use Rattle.unit.specs.declared.fate.Offence.TheVariants.{NoSuchField}
use Rattle.unit.specs.declared.fate.Fate.TheVariants.{Replied}
use Rattle.unit.specs.declared.unit.Unit.{Unit as TheUnit}
use Rattle.unit.proofs.DecideLaws.{memory_passed, fields_passed, span_passed, named_passed}
use Rattle.unit.proofs.CommandLaws.{take_command, packet_is, command_is}
use Rattle.unit.proofs.GrantLaws.{authorised_window, authorised_extended}
use Rattle.demands.proofs.Below.{below}
use Rattle.demands.proofs.NumbersHold.{one_two_three}
use Rattle.demands.specs.Terminal.{ours, read_of, IsCommand, path_in}
use Rattle.demands.specs.Refusals.{length_due}
use Rattle.demands.specs.Names.{register, RowsKept, NamesMissing, MissingRefused, MissingIsF1, WindowWithRight, ObeyedInWindow}

pub rows_kept : RowsKept
unfolding row_of
rows_kept = refl

-- ---- what is not in the register is missing

-- an address in one of the two rows of fields is in it
first_rows : (address : ℕ) → address < 11 → some (eqb address) register ≡ true
first_rows = below (λ k. some (eqb k) register) 11 refl

second_rows : (field : ℕ) → field < 4 → some (eqb (2 ^ 19 + field)) register ≡ true
second_rows = below (λ k. some (eqb (2 ^ 19 + k)) register) 4 refl

not_there : (address : ℕ) → some (eqb address) register ≡ false → is_missing address ≡ true
unfolding row_of
not_there address e =
    go (eqb (above_field address) (above 0 0 0) && ltb (field_of address) 11) (eqb (above_field address) (above 0 1 0) && ltb (field_of address) 4) refl refl
  where
    there : some (eqb address) register ≡ true → {A : Type 0} → A
    there f = absurd (false≢true (sym e ∙ f))

    go : (a b : Bool) → (eqb (above_field address) (above 0 0 0) && ltb (field_of address) 11) ≡ a
        → (eqb (above_field address) (above 0 1 0) && ltb (field_of address) 4) ≡ b → eqb (cond a (field_of address) (cond b (11 + field_of address) missing)) missing ≡ true
    go true b f g =
        let x = eqb-true (above_field address) 0 (first_true (eqb (above_field address) 0) (ltb (field_of address) 11) f) in
        let y = ltb-true (field_of address) 11 (second_true (eqb (above_field address) 0) (ltb (field_of address) 11) f) in
        there (first_rows address (omega (arith, x, y)))
    go false true f g =
        let x = eqb-true (above_field address) 32 (first_true (eqb (above_field address) 32) (ltb (field_of address) 4) g) in
        let y = ltb-true (field_of address) 4 (second_true (eqb (above_field address) 32) (ltb (field_of address) 4) g) in
        let z : 2 ^ 19 + field_of address ≡ address = omega (arith, x) in
        there (rw z at (second_rows (field_of address) y))
    go false false f g = refl

some_missing : (a n k : ℕ) → k < n → is_missing (a + k) ≡ true → some is_missing (named a n) ≡ true
some_missing a zero k h e = absurd (omega (arith, h))
some_missing a (suc n) zero h e = let f : is_missing a ≡ true = rw (add-zero a) at e in rw f
some_missing a (suc n) (suc k) h e =
    let x : a + suc k ≡ a + 1 + k = omega arith in
    rw (some_missing (a + 1) n k (omega (arith, h)) (rw x at e)) (or-true (is_missing a))

names_missing : (h : Header) → NamesMissing h → some is_missing (named h.address (field_count (kind_in h) h.length)) ≡ true
names_missing h n = some_missing h.address (field_count (kind_in h) h.length) n.0 n.1 (not_there (h.address + n.0) n.2)

-- ---- status 0

abbrev pub byte_in : Option ℕ → ℕ
byte_in t = elim t [ None ↦ 1 | Some b ↦ b ]

-- what a header refused, or what has no status, has not status 0
pub refused_other : (s : Status) → is_success s ≡ false → fate_status (Replied s) ≢ Some 0
refused_other s e z = false≢true (sym e ∙ success_byte s ∙ eq-eqb (byte_of s) 0 (ap byte_in z))

pub silent_other : (s : Status) → is_success s ≡ false → fate_status (unanswered_fate s) ≢ Some 0
silent_other (Ok done) e = absurd (false≢true (sym e))
silent_other (Err offence) e = refused_other (Err offence) e

pub no_status : ◌≢◌ {A = Option ℕ} None (Some 0)
no_status z = omega (arith, ap byte_in z)

-- ---- memory

pub obeyed_in_window : ObeyedInWindow ours
obeyed_in_window u p lent h is rmap =
    packet_is u p lent Q (λ e z. absurd (no_status z)) (λ e f z. absurd (no_status z)) (λ e f why g z. absurd (no_status z)) (λ e f g z. absurd (no_status z))
    (λ e f g t z. absurd (no_status z))
    (λ e f k g. command k (one_command (read_of u p) h k is g))
  where
    path : Path
    path = path_in u p

    Q : Outcome → Type 0
    Q o = fate_status o.answer.fate ≡ Some 0 → WindowWithRight u h

    command : (k : Header) → k ≡ h → Q (take_command u k path (as_read p) lent)
    command k e = rw e (
        command_is u h path (as_read p) lent Q (λ z. absurd (no_status z))
        (λ a. (λ w z. absurd (refused_other (header_status u h path p.link) a z), λ w z. absurd (silent_other (header_status u h path p.link) a z)))
        (λ q a. let held = window a in (λ w z. held, λ w z. held)) (λ q a. absurd (q rmap)))
      where
        window : is_success (header_status u h path p.link) ≡ true → WindowWithRight u h
        window a =
            let authorised = (span_passed u.windows h (memory_passed u h path p.link rmap a)).1 in
            (authorised_extended u.windows h authorised, authorised_window u.windows h authorised)

-- ---- fields

module _ (u : TheUnit) (p : Arrived) (lent : Lent) (h : Header) (is : IsCommand u p h)
    (fields : h.protocol ≡ 0x03) (lacks : NamesMissing h) where
  abbrev path : Path
  path = path_in u p

  other : h.protocol ≡ 0x01 → ⊥
  other e = omega (arith, sym e ∙ fields)

  -- its header is refused
  lacking : is_success (header_status u h path p.link) ≡ true → ⊥
  lacking a =
      false≢true (sym (named_passed u.owner h path p.link (fields_passed u h path p.link other a)).1 ∙ names_missing h lacks)

  abbrev NotZero : Outcome → Type 0
  NotZero o = fate_status o.answer.fate ≢ Some 0

  command_refused : NotZero (take_command u h path (as_read p) lent)
  command_refused =
      command_is u h path (as_read p) lent NotZero no_status
      (λ a. (λ w. refused_other (header_status u h path p.link) a, λ w. silent_other (header_status u h path p.link) a)) (λ q a. absurd (other q)) (λ q a. absurd (lacking a))

  -- by F1, if nothing before it refused it
  abbrev SaysF1 : Outcome → Type 0
  SaysF1 o = (fate_number o.answer.fate ≡ 3 → ⊥) → fate_status o.answer.fate ≡ Some 0xF1

  is_f1 : is_success (opening_status h 0x00 0xFE) ≡ true → names_fields h ≡ true → header_status u h path p.link ≡ Err NoSuchField
  unfolding header_status fields_status
  is_f1 o n = rw (ne_eqb h.protocol 0x01 other, o, n, names_missing h lacks)

  command_f1 : is_success (opening_status h 0x00 0xFE) ≡ true → names_fields h ≡ true → SaysF1 (take_command u h path (as_read p) lent)
  command_f1 o n =
      let f = is_f1 o n in
      command_is u h path (as_read p) lent SaysF1 (λ room. absurd (room refl)) (λ a. (λ w room. rw f, λ w room. rw f)) (λ q a. absurd (other q)) (λ q a. absurd (lacking a))

pub missing_refused : MissingRefused ours
missing_refused u p lent h is fields lacks =
    packet_is u p lent (λ o. fate_status o.answer.fate ≢ Some 0) (λ e. no_status) (λ e f. no_status) (λ e f why g. no_status) (λ e f g. no_status)
    (λ e f g t. no_status)
    (λ e f k g. rw (one_command (read_of u p) h k is g) (command_refused u p lent h is fields lacks))

pub missing_is_f1 : MissingIsF1 ours
missing_is_f1 u p lent h is fields lacks works there o n fits =
    packet_is u p lent (SaysF1 u p lent h is fields lacks) (λ e. absurd (false≢true (sym e ∙ works))) (λ e f. absurd (false≢true (sym f ∙ there)))
    (λ e f why g. absurd (not_command (Err why) (omega arith) (sym g ∙ is))) (λ e f g. absurd (not_command (Ok Time) (omega arith) (sym g ∙ is)))
    (λ e f g t. absurd (not_command (Ok Time) (omega arith) (sym g ∙ is)))
    (λ e f k g. rw (one_command (read_of u p) h k is g) (command_f1 u p lent h is fields lacks o n)) room
  where
    room : fate_number (take_packet u p lent).answer.fate ≡ 3 → ⊥
    room three =
        let due = ((one_two_three u p lent).2.0 three).2 in
        let same = one_command (read_of u p) h due.0 is due.1 in
        let long : length lent.reply < length_due u p h = rw same at due.3 in
        let short = fits (rw same at due.2) in
        omega (arith, long, short)
