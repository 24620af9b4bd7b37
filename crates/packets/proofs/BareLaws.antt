-- Laws of the zero in front: where it is taken off, and that it is taken off once.
use mathlib.Core.Path.{◌≡◌, refl, sym, ◌∙◌, ap}
use mathlib.Core.Bool.{Bool, true, false, cond, ◌&&◌, false≢true}
use mathlib.Core.List.{List, [], ◌∷◌}
use Prim.Native.Nat.{ℕ}
use native.Mathlib.Omega.{arith}
use borrow.Author.Tests.{eqb-true}
use lib.Dec.{eqb}
use lib.ListN.{get_or, drop}
use Rattle.octets.specs.Numbers.{Digits}
use Rattle.octets.proofs.PlaceLaws.{first_true, second_true}
use Rattle.packets.specs.Reading.{has_zero, bare}

-- ---- by the test

pub bare_lacks : (p : List ℕ) → has_zero p ≡ false → p ≡ bare p
unfolding bare
bare_lacks p e = rw e

-- ---- by what the packet begins with: these two leave no room

pub bare_zero : (q : List ℕ) → bare (0x00 ∷ 0xFE ∷ 0x03 ∷ q) ≡ 0xFE ∷ 0x03 ∷ q
unfolding bare
bare_zero q = refl

pub bare_begins : (p q : List ℕ) → p ≡ 0x00 ∷ 0xFE ∷ 0x03 ∷ q → drop 1 p ≡ bare p
bare_begins p q e = ap (drop 1) e ∙ sym (ap bare e ∙ bare_zero q)

pub has_zero_law : (p : List ℕ) → has_zero p ≡ true → p ≡ 0x00 ∷ 0xFE ∷ 0x03 ∷ drop 3 p
has_zero_law [] e = absurd (false≢true e)
has_zero_law (a ∷ []) e = absurd (false≢true (second_true (eqb a 0x00 && false) false e))
has_zero_law (a ∷ b ∷ []) e = absurd (false≢true (second_true (eqb a 0x00 && eqb b 0xFE) false e))
has_zero_law (a ∷ b ∷ c ∷ q) e =
    let two = first_true (eqb a 0x00 && eqb b 0xFE) (eqb c 0x03) e in
    let x = eqb-true a 0x00 (first_true (eqb a 0x00) (eqb b 0xFE) two) in
    let y = eqb-true b 0xFE (second_true (eqb a 0x00) (eqb b 0xFE) two) in
    let z = eqb-true c 0x03 (second_true (eqb a 0x00 && eqb b 0xFE) (eqb c 0x03) e) in
    rw (x, y, z)

module _ (p : List ℕ) where
  -- what holds of the rest behind a zero, and of a packet without one, holds of a packet as it is read
  bare_is : (Q : List ℕ → Type 0) → ((q : List ℕ) → p ≡ 0x00 ∷ 0xFE ∷ 0x03 ∷ q → Q (0xFE ∷ 0x03 ∷ q)) → (has_zero p ≡ false → Q p) → Q (bare p)
  unfolding bare
  bare_is Q rest same = go (has_zero p) refl
    where
      go : (t : Bool) → has_zero p ≡ t → Q (cond t (drop 1 p) p)
      go true e = let f = has_zero_law p e in rw (ap (drop 1) f) (rest (drop 3 p) f)
      go false e = same e

  pub bare_other : ((q : List ℕ) → p ≡ 0x00 ∷ 0xFE ∷ 0x03 ∷ q → ⊥) → bare p ≡ p
  bare_other none = bare_is (λ b. b ≡ p) (λ q e. absurd (none q e)) (λ e. refl)

  -- a packet whose protocol is 01 has no zero
  pub bare_rmap : get_or p 1 0 ≡ 0x01 → bare p ≡ p
  bare_rmap rmap = bare_other (λ q e. omega (arith, sym rmap ∙ ap (λ (b : List ℕ). get_or b 1 0) e))

  -- bytes stay bytes
  pub bare_bytes : Digits 256 p → Digits 256 (bare p)
  bare_bytes bytes = bare_is (Digits 256) (λ q e. let b : Digits 256 (0x00 ∷ 0xFE ∷ 0x03 ∷ q) = rw e at bytes in b.1) (λ e. bytes)

  -- doing it again changes nothing
  pub bare_once : bare (bare p) ≡ bare p
  bare_once = bare_is (λ b. bare b ≡ b) (λ q e. sym (bare_lacks (0xFE ∷ 0x03 ∷ q) refl)) (λ e. sym (bare_lacks p e))
