-- Laws of time packets: what one has passed, and when it is to be taken.
use Rattle.std.specs.Prelude.{Option, Some, None}
use mathlib.Core.Path.{◌≡◌, refl, sym, ap, ◌∙◌}
use mathlib.Core.Bool.{Bool, true, false, cond, ◌&&◌, ◌||◌, or-true, false≢true}
use mathlib.Core.Logic.{◌⊎◌, inl, inr, ⊎_elim}
use mathlib.Core.List.{List, [], ◌∷◌}
use Prim.Native.Nat.{ℕ, zero, suc, ◌+◌, ◌*◌, ◌^◌, ◌<◌}
use native.Mathlib.Omega.{arith}
use native.Mathlib.Nat.{zero-mul, zero-add, mul-pos}
use borrow.Author.Tests.{eqb-true, eq-eqb, ne_eqb}
use lib.Dec.{eqb}
use lib.ListN.{length, get_or}
use Rattle.std.specs.List.{list_all}
use Rattle.octets.specs.Crc.{crc}
use Rattle.octets.specs.Places.{part}
use Rattle.octets.specs.Numbers.{number, Digits}
use Rattle.octets.proofs.NumberLaws.{pow_some, number_below}
use Rattle.packets.specs.Reading.{is_eop}
use Rattle.packets.specs.Time.{when_number, when_of, preamble_bits, added_seconds, added_fraction, is_time_packet, time_at, read_time}
use Rattle.packets.specs.declared.reading.End.{End}
use Rattle.packets.specs.declared.reading.End.TheVariants.{Eop, Eep}
use Rattle.packets.specs.declared.time.Time.{Time as TheTime}
use Rattle.packets.specs.declared.time.When.{When}
use Rattle.packets.specs.declared.time.When.TheVariants.{AtWrap, AtOnce}

-- ---- tests

-- one of two numbers
pub one_of : (a b c : ℕ) → (eqb a b || eqb a c) ≡ true → (a ≡ b) ⊎ (a ≡ c)
one_of a b c = go (eqb a b) refl
  where
    go : (t : Bool) → eqb a b ≡ t → (t || eqb a c) ≡ true → (a ≡ b) ⊎ (a ≡ c)
    go true e w = inl (eqb-true a b e)
    go false e w = inr (eqb-true a c w)

pub is_one_of : (a b c : ℕ) → (a ≡ b) ⊎ (a ≡ c) → (eqb a b || eqb a c) ≡ true
is_one_of a b c (inl e) = rw (eq-eqb a b e)
is_one_of a b c (inr e) = rw (eq-eqb a c e) (or-true (eqb a b))

pub ends_well : (end : End) → is_eop end ≡ true → end ≡ Eop
ends_well Eop w = refl
ends_well Eep w = absurd (false≢true w)

-- ---- what a time packet has passed

module _ (p : List ℕ) (end : End) (logical n : ℕ) where
  pub record Passed : Type 0 where
    pub size : length p ≡ 12 + added_seconds p + added_fraction p
    pub eop : end ≡ Eop
    pub address : (get_or p 0 0 ≡ logical) ⊎ (get_or p 0 0 ≡ 0xFE)
    pub protocol : get_or p 1 0 ≡ n
    pub epoch : (get_or p 2 0 ≡ 0x9F) ⊎ (get_or p 2 0 ≡ 0xAF)
    pub bit_0 : preamble_bits 0 0 p ≡ 0
    pub bit_6 : preamble_bits 6 6 p ≡ 0
    pub nothing : number (part 4 (added_seconds p) p) ≡ 0
    pub sum : crc p ≡ 0

  all_of : (a b c d e f g h i : Bool) → (a && b && c && d && e && (f && g) && h && i) ≡ true
      → (a ≡ true) × (b ≡ true) × (c ≡ true) × (d ≡ true) × (e ≡ true) × (f ≡ true) × (g ≡ true) × (h ≡ true) × (i ≡ true)
  all_of true true true true true true true true true w = (refl, refl, refl, refl, refl, refl, refl, refl, refl)
  all_of true true true true true true true true false w = absurd (false≢true w)
  all_of true true true true true true true false i w = absurd (false≢true w)
  all_of true true true true true true false h i w = absurd (false≢true w)
  all_of true true true true true false g h i w = absurd (false≢true w)
  all_of true true true true false f g h i w = absurd (false≢true w)
  all_of true true true false e f g h i w = absurd (false≢true w)
  all_of true true false d e f g h i w = absurd (false≢true w)
  all_of true false c d e f g h i w = absurd (false≢true w)
  all_of false b c d e f g h i w = absurd (false≢true w)

  pub time_passed : is_time_packet p end logical n ≡ true → Passed
  time_passed w =
      let t = all_of (eqb (length p) (12 + added_seconds p + added_fraction p)) (is_eop end) (eqb (get_or p 0 0) logical || eqb (get_or p 0 0) 0xFE)
      (eqb (get_or p 1 0) n) (eqb (get_or p 2 0) 0x9F || eqb (get_or p 2 0) 0xAF) (eqb (preamble_bits 0 0 p) 0) (eqb (preamble_bits 6 6 p) 0)
      (eqb (number (part 4 (added_seconds p) p)) 0) (eqb (crc p) 0) w in
      record {
        size = eqb-true _ _ t.0;
        eop = ends_well end t.1;
        address = one_of (get_or p 0 0) logical 0xFE t.2;
        protocol = eqb-true _ _ t.3;
        epoch = one_of (get_or p 2 0) 0x9F 0xAF t.4;
        bit_0 = eqb-true _ _ t.5;
        bit_6 = eqb-true _ _ t.6;
        nothing = eqb-true _ _ t.7;
        sum = eqb-true _ _ t.8;
      }

  pub passed_time : Passed → is_time_packet p end logical n ≡ true
  passed_time t =
      rw (
        eq-eqb _ _ t.size,
        t.eop,
        is_one_of (get_or p 0 0) logical 0xFE t.address,
        eq-eqb _ _ t.protocol,
        is_one_of (get_or p 2 0) 0x9F 0xAF t.epoch,
        eq-eqb _ _ t.bit_0,
        eq-eqb _ _ t.bit_6,
        eq-eqb _ _ t.nothing,
        eq-eqb _ _ t.sum,
      )

  abbrev is_taken : Option TheTime → ℕ
  is_taken r = elim r [ None ↦ 0 | Some s ↦ 1 ]

  abbrev time_in : Option TheTime → TheTime
  time_in r = elim r [ None ↦ time_at p | Some s ↦ s ]

  -- what is taken has passed, and says what stands in it
  pub taken_passed : (t : TheTime) → read_time p end logical n ≡ Some t → Passed × (time_at p ≡ t)
  unfolding read_time
  taken_passed t = go (is_time_packet p end logical n) refl
    where
      go : (b : Bool) → is_time_packet p end logical n ≡ b → cond b (Some (time_at p)) None ≡ Some t → Passed × (time_at p ≡ t)
      go true f e = (time_passed f, ap time_in e)
      go false f e = absurd (omega (arith, ap is_taken e))

  -- and what has not is thrown away
  pub thrown_away : (Passed → ⊥) → read_time p end logical n ≡ None
  unfolding read_time
  thrown_away not = go (is_time_packet p end logical n) refl
    where
      go : (b : Bool) → is_time_packet p end logical n ≡ b → cond b (Some (time_at p)) None ≡ None
      go true f = absurd (not (time_passed f))
      go false f = refl

  -- a time packet of bytes has a T below 2^56
  pub taken_below : (t : TheTime) → Digits 256 p → read_time p end logical n ≡ Some t → t.value < 2 ^ 56
  taken_below t d e =
      let w = taken_passed t e in
      rw (ap (λ (s : TheTime). s.value) w.1) at (number_below p (4 + added_seconds p) 7 d (omega (arith, w.0.size)))

  -- one that is taken is addressed to the unit or to FE
  pub taken_addressed : (t : TheTime) → read_time p end logical n ≡ Some t → (get_or p 0 0 ≡ logical → ⊥) → (get_or p 0 0 ≡ 0xFE → ⊥) → ⊥
  taken_addressed t e unit all = ⊎_elim unit all (taken_passed t e).0.address

-- ---- bytes that are worth nothing are those that are all zero

pub zeros_worth : (s : List ℕ) → list_all (λ (b : ℕ). eqb b 0) s ≡ eqb (number s) 0
zeros_worth [] = refl
zeros_worth (zero ∷ s) = simp (zero-mul, zero-add) (zeros_worth s)
zeros_worth (suc b ∷ s) =
    let some : eqb (suc b) 0 ≡ false = ne_eqb (suc b) 0 (λ z. omega (arith, z)) in
    let weight = 256 ^ length s in
    let more : 0 < suc b * weight = mul-pos (omega arith) (pow_some 256 (omega arith) (length s)) in
    rw some (sym (ne_eqb (suc b * weight + number s) 0 (λ z. omega (arith, more, z))))

-- ---- when the time is to be taken, as a case and as its number

-- from a case to its number and back
pub when_back : (w : When) → when_of (when_number w) ≡ w
when_back AtWrap = refl
when_back AtOnce = refl

-- and from a number that document 01 has
pub number_back : (b : ℕ) → b < 2 → when_number (when_of b) ≡ b
number_back b small = go (eqb b 1) refl
  where
    go : (t : Bool) → eqb b 1 ≡ t → when_number (cond t AtOnce AtWrap) ≡ b
    go true e = sym (eqb-true b 1 e)
    go false e = let differs : b ≡ 1 → ⊥ = λ f. false≢true (sym e ∙ eq-eqb b 1 f) in omega (arith, differs)

-- so that a time packet is read as the case whose number its last bit is
pub when_told : (p : List ℕ) → when_number (time_at p).when ≡ preamble_bits 7 7 p
when_told p = number_back (preamble_bits 7 7 p) (omega arith)
