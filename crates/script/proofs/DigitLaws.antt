-- Laws of digits: a number with one more, and the bytes that are read from a place of a list on.
use mathlib.Core.Path.{◌≡◌, refl, sym, ap, ap₂, ◌∙◌}
use mathlib.Core.Bool.{Bool, true, false, cond}
use mathlib.Core.List.{List, [], ◌∷◌, ◌++◌, map}
use Prim.Native.Nat.{ℕ, zero, suc, ◌+◌, ◌-◌, ◌*◌, ◌%◌, ◌^◌, ◌<◌, ◌≤◌}
use native.Mathlib.Omega.{arith}
use native.Mathlib.Nat.{add-zero, zero-add, mul_assoc, pow-succ'}
use native.Mathlib.Numerals.{add-one}
use borrow.Author.Tests.{eq-eqb, ne_eqb}
use lib.Dec.{ltb}
use lib.ListN.{length, get_or, set, take, drop, length-append, length-map, length-take, length-drop}
use Rattle.std.proofs.Common.{fold}
use Rattle.std.proofs.lemmas.List.Sums.{fold-append}
use lib.Seq.{take_all, take-length, paste, paste-suc, take-suc, drop-drop, get_or-drop}
use Rattle.octets.specs.Places.{placed}
use Rattle.octets.specs.Numbers.{worth}
use Rattle.octets.proofs.PlaceLaws.{take_min}
use Rattle.script.specs.Digits.{space, digit_of, pair_of, number_in, bytes_in}

-- `1f0` is a number, and `43 0a` two bytes: most significant digit first
pub a_number : number_in (0x31 ∷ 0x66 ∷ 0x30 ∷ []) ≡ 0x1f0
unfolding number_in digit_of
a_number = refl

-- sixteen digits are held, and of seventeen the last sixteen
pub a_long_number : number_in (0x31 ∷ 0x66 ∷ 0x30 ∷ 0x30 ∷ 0x30 ∷ 0x30 ∷ 0x30 ∷ 0x30 ∷ 0x30 ∷ 0x30 ∷ 0x30 ∷ 0x30 ∷ 0x30 ∷ 0x30 ∷ 0x30 ∷ 0x30 ∷ 0x61 ∷ []) ≡ 0xf00000000000000a
unfolding number_in digit_of
a_long_number = refl

pub two_bytes : bytes_in (0x34 ∷ 0x33 ∷ 0x20 ∷ 0x30 ∷ 0x61 ∷ []) ≡ 0x43 ∷ 0x0a ∷ []
unfolding bytes_in digit_of
two_bytes = refl

-- ---- a digit more

digit_small : (c : ℕ) → digit_of c ≤ 15
unfolding digit_of
digit_small c = go (ltb c 97)
  where
    go : (t : Bool) → cond t (c % 16) ((c - 97) % 6 + 10) ≤ 15
    go true = omega arith
    go false = omega arith

worth_more : (s : List ℕ) (c : ℕ) → worth 16 (map digit_of (s ++ (c ∷ []))) ≡ worth 16 (map digit_of s) * 16 + digit_of c
worth_more [] c = omega arith
worth_more (b ∷ s) c =
    let more = worth_more s c in
    let long : length (map digit_of (s ++ (c ∷ []))) ≡ suc (length (map digit_of s)) =
    length-map (s ++ (c ∷ [])) digit_of ∙ length-append s (c ∷ []) ∙ add-one (length s) ∙ ap suc (sym (length-map s digit_of)) in
    rw (long, pow-succ', ← mul_assoc) (omega arith)

-- a digit behind a number, as far as 64 bits hold it
abbrev pub onto : ℕ → ℕ → ℕ
onto n c = n % 2 ^ 60 * 16 + digit_of c

pub number_next : (s : List ℕ) (i : ℕ) → i < length s → number_in (take i s) % 2 ^ 60 * 16 + digit_of (get_or s i 0) ≡ number_in (take (suc i) s)
unfolding number_in
number_next s i h =
    let more = worth_more (take i s) (get_or s i 0) in
    let small = digit_small (get_or s i 0) in
    rw (take-suc s i 0 h, more) (omega arith)

number_folds : (s : List ℕ) (i : ℕ) → i ≤ length s → fold onto 0 (take i s) ≡ number_in (take i s)
unfolding number_in
number_folds s zero h = refl
number_folds s (suc i) h =
    ap (fold onto 0) (take-suc s i 0 (omega arith))
    ∙ fold-append onto 0 (take i s) (get_or s i 0 ∷ [])
    ∙ ap (λ (n : ℕ). onto n (get_or s i 0)) (number_folds s i (omega arith))
    ∙ number_next s i (omega arith)

-- so the number that digits say is each put behind those before it
pub number_fold : (s : List ℕ) → fold onto 0 s ≡ number_in s
number_fold s = rw (take-length s) at (number_folds s (length s) (omega arith))

-- ---- the first bytes of what is left

-- fewer than two digits are left
pub bytes_end : (l : List ℕ) → length l < 2 → bytes_in l ≡ []
unfolding bytes_in
bytes_end [] h = refl
bytes_end (a ∷ []) h = refl
bytes_end (a ∷ b ∷ l) h = absurd (omega arith)

-- two bytes are left at least: the first is a space, or both are digits
pub bytes_space : (l : List ℕ) → 2 ≤ length l → get_or l 0 0 ≡ space → bytes_in l ≡ bytes_in (take (length l - 1) (drop 1 l))
unfolding bytes_in
bytes_space [] h e = absurd (omega arith)
bytes_space (a ∷ []) h e = absurd (omega arith)
bytes_space (a ∷ b ∷ l) h e = rw (take_all (length (a ∷ b ∷ l) - 1) (b ∷ l) (omega arith), eq-eqb a space e) refl

pub bytes_pair : (l : List ℕ) → 2 ≤ length l → (get_or l 0 0 ≡ space → ⊥)
    → bytes_in l ≡ pair_of (get_or l 0 0) (get_or l 1 0) ∷ bytes_in (take (length l - 2) (drop 2 l))
unfolding bytes_in
bytes_pair [] h e = absurd (omega arith)
bytes_pair (a ∷ []) h e = absurd (omega arith)
bytes_pair (a ∷ b ∷ l) h e = rw (take_all (length (a ∷ b ∷ l) - 2) l (omega arith), ne_eqb a space e) refl

-- ---- one byte after the other

-- what is left of l from n on begins with a byte: it is there, it is the next to be put, and the rest is left behind it
module _ (l : List ℕ) (n b : ℕ) (more : List ℕ) (e : drop n l ≡ b ∷ more) where
  pub next_there : n < length l
  next_there = omega (arith, length-drop n l, ap length e)

  next_byte : get_or l n 0 ≡ b
  next_byte = ap (λ (k : ℕ). get_or l k 0) (sym (add-zero n)) ∙ sym (get_or-drop n l 0 0) ∙ ap (λ (r : List ℕ). get_or r 0 0) e

  pub next_put : (d : List ℕ) → n < length d → set (paste d 0 l n) n b ≡ paste d 0 l (n + 1)
  next_put d h =
      ap₂ (λ (k v : ℕ). set (paste d 0 l n) k v) (sym (zero-add n)) (sym next_byte) ∙ paste-suc d 0 l n 0 (omega arith) next_there
      ∙ ap (paste d 0 l) (sym (add-one n))

  pub next_rest : drop (n + 1) l ≡ more
  next_rest = sym (drop-drop 1 n l) ∙ ap (drop 1) e

-- the first n bytes are put: all of them, or as many as there is room for
module _ (d l : List ℕ) (n : ℕ) where
  pub put_all : n ≤ length d → n ≤ length l → drop n l ≡ [] → n ≡ length (take (length d) l)
  put_all h k e = rw length-take (omega (arith, length-drop n l, ap length e))

  pub put_placed : n ≡ length (take (length d) l) → paste d 0 l n ≡ placed 0 (take (length d) l) d
  put_placed e =
      rw e (ap (λ (p : List ℕ). take 0 d ++ p ++ drop (0 + length (take (length d) l)) d)
      (ap (λ (k : ℕ). take k l) (length-take (length d) l) ∙ take_min (length d) l))
