-- Laws of lines and fields: what stands before a byte is a first part, and how it goes on from a place of a list.
use mathlib.Core.Path.{◌≡◌, refl, ap}
use mathlib.Core.Bool.{Bool, true, false, cond}
use mathlib.Core.List.{List, [], ◌∷◌, reverse}
use Prim.Native.Nat.{ℕ, ◌+◌, ◌<◌, ◌≤◌}
use native.Mathlib.Omega.{arith}
use borrow.Author.Tests.{lt-ltb, le-ltb}
use Rattle.std.proofs.Common.{◌==◌, position, unwrap_or, Option, Some, None, sym, ◌∙◌}
use Rattle.std.proofs.lemmas.List.{length-reverse}
use Rattle.std.specs.List.{position_or_len}
use Rattle.std.proofs.lemmas.List.Recursion.{is_position_or_len}
use lib.Dec.{eqb, ltb}
use native.Mathlib.Decide.{dec_lt}
use native.Mathlib.Nat.{lt_of_not-le}
use lib.ListN.{length-take, length, take}
use Rattle.script.specs.Fields.{up_to, field_of, rest_of, whole_lines, runnable}

-- `a|b` is the field `a` with `b` behind it; of `a`, a line end and `b`, two bytes are whole lines
pub a_field : field_of (0x61 ∷ 0x7c ∷ 0x62 ∷ []) ≡ 0x61 ∷ []
unfolding up_to
a_field = refl

pub a_rest : rest_of (0x61 ∷ 0x7c ∷ 0x62 ∷ []) ≡ 0x62 ∷ []
unfolding up_to
a_rest = refl

pub a_line : whole_lines (0x61 ∷ 0x0a ∷ 0x62 ∷ []) ≡ 2
unfolding up_to
a_line = refl

-- and of a last block all
pub a_last_line : runnable true (0x61 ∷ 0x0a ∷ 0x62 ∷ []) ≡ 3
a_last_line = refl

-- lines that can be run are of the bytes that are there
pub runnable_inside : (last : Bool) (s : List ℕ) → runnable last s ≤ length s
runnable_inside true s = omega arith
runnable_inside false s = omega arith

-- what stands before a byte is a first part
pub up_to_take : (stop : ℕ) (s : List ℕ) → take (length (up_to stop s)) s ≡ up_to stop s
unfolding up_to
up_to_take stop [] = refl
up_to_take stop (b ∷ s) = go (eqb b stop) (up_to_take stop s)
  where
    go : (t : Bool) → take (length (up_to stop s)) s ≡ up_to stop s → take (length (cond t [] (b ∷ up_to stop s))) (b ∷ s) ≡ cond t [] (b ∷ up_to stop s)
    go true e = refl
    go false e = ap (λ (l : List ℕ). b ∷ l) e

up_to_size : (stop : ℕ) (s : List ℕ) → length (up_to stop s) ≤ length s
up_to_size stop s = let e = simp length-take at (ap length (up_to_take stop s)) in omega (arith, e)

-- it is as long as the place of the first such byte says, or all where there is none
up_to_place : (stop : ℕ) (s : List ℕ) → length (up_to stop s) ≡ position_or_len (λ b. b == stop) s
unfolding up_to
up_to_place stop = is_position_or_len (λ l. length (up_to stop l)) (λ b. b == stop) refl (λ b s. more (up_to stop s) b (b == stop))
  where
    more : (l : List ℕ) (b : ℕ) (t : Bool) → length (cond t [] (b ∷ l)) ≡ cond t 0 (1 + length l)
    more l b true = refl
    more l b false = omega arith

pub up_to_position : (stop : ℕ) (s : List ℕ) → unwrap_or (position (λ b. b == stop) s) (length s) ≡ length (up_to stop s)
up_to_position stop s = rw (← up_to_place stop s) (go (dec_lt (length (up_to stop s)) (length s)))
  where
    go : Dec (length (up_to stop s) < length s) → unwrap_or (cond (ltb (length (up_to stop s)) (length s)) (Some (length (up_to stop s))) None) (length s) ≡ length (up_to stop s)
    go (yes l) = rw (lt-ltb _ _ l) refl
    go (no g) = let e : length s ≤ length (up_to stop s) = omega (arith, lt_of_not-le g) in rw (le-ltb _ _ e) (omega (arith, up_to_size stop s))

-- as `unwrap_or` reads it, where it is looked for and where it was found
pub size_from_place : (stop : ℕ) (s : List ℕ) (at : Option ℕ) → at ≡ position (λ b. b == stop) s → unwrap_or at (length s) ≡ length (up_to stop s)
size_from_place stop s at e = ap (λ (o : Option ℕ). unwrap_or o (length s)) e ∙ up_to_position stop s

pub size_from_back : (stop : ℕ) (s : List ℕ) (at : Option ℕ) → at ≡ position (λ b. b == stop) (reverse s) → unwrap_or at (length s) ≡ length (up_to stop (reverse s))
size_from_back stop s at e = ap (λ (n : ℕ). unwrap_or at n) (sym (length-reverse s)) ∙ size_from_place stop (reverse s) at e
