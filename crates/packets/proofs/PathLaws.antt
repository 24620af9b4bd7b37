-- Laws of paths: what becomes of a reply address, that its twelve bytes and its count keep its path, and when two kept paths are one.
use mathlib.Core.Path.{◌≡◌, refl, sym, ap, ◌∙◌}
use mathlib.Core.Bool.{Bool, true, false, not, ◌&&◌, false≢true}
use mathlib.Core.List.{List, [], ◌∷◌, ◌++◌, map, append-nil}
use Prim.Native.Nat.{ℕ, zero, suc, ◌+◌, ◌-◌, ◌≤◌}
use native.Mathlib.Omega.{arith}
use borrow.Author.Tests.{le-leb, eq-eqb, eqb-true, ne_eqb}
use lib.Dec.{eqb}
use lib.Pointwise.{pointwise}
use lib.ListN.{length, take, drop, replicate, length-replicate, replicate-append-replicate, length-drop}
use lib.Seq.{drop_at, take_at, take-length}
use Rattle.std.specs.Prelude.{position, Some, None, max, min}
use Rattle.std.specs.List.{position_or_len}
use Rattle.std.proofs.lemmas.Grind.{common_steps}
use Rattle.std.proofs.lemmas.List.Quantifiers.{position-Some}
use Rattle.octets.specs.Places.{part, placed, copied}
use Rattle.octets.proofs.PlaceLaws.{first_true, second_true}
use Rattle.packets.specs.declared.path.Path.{Path}
use Rattle.packets.specs.Path.{without_leading_zeros, or_one_zero, path_of, kept, path_bytes, same_bytes, same_path}

-- ---- 001, Table 5-3, row by row; then document 01's example that the table does not have, and no reply address

pub table_5_3 :
    map path_of (
    (0x00 ∷ 0x00 ∷ 0x00 ∷ 0x00 ∷ [])
    ∷ (0x00 ∷ 0x00 ∷ 0x01 ∷ 0x02 ∷ [])
    ∷ (0x00 ∷ 0x01 ∷ 0x00 ∷ 0x02 ∷ [])
    ∷ (0x00 ∷ 0x01 ∷ 0x02 ∷ 0x00 ∷ [])
    ∷ (0x00 ∷ 0x00 ∷ 0x00 ∷ 0x01 ∷ 0x02 ∷ 0x03 ∷ 0x04 ∷ 0x05 ∷ [])
    ∷ (0x00 ∷ 0x00 ∷ 0x66 ∷ 0x05 ∷ [])
    ∷ (0x00 ∷ 0x54 ∷ 0x08 ∷ 0x00 ∷ [])
    ∷ (0x00 ∷ 0x00 ∷ 0x01 ∷ 0x00 ∷ [])
    ∷ []
    ∷ []
    )
    ≡ (0x00 ∷ [])
    ∷ (0x01 ∷ 0x02 ∷ [])
    ∷ (0x01 ∷ 0x00 ∷ 0x02 ∷ [])
    ∷ (0x01 ∷ 0x02 ∷ 0x00 ∷ [])
    ∷ (0x01 ∷ 0x02 ∷ 0x03 ∷ 0x04 ∷ 0x05 ∷ [])
    ∷ (0x66 ∷ 0x05 ∷ [])
    ∷ (0x54 ∷ 0x08 ∷ 0x00 ∷ [])
    ∷ (0x01 ∷ 0x00 ∷ [])
    ∷ []
    ∷ []
unfolding path_of without_leading_zeros or_one_zero
table_5_3 = refl

path_none : path_of [] ≡ []
unfolding path_of
path_none = refl

-- ---- leading zeros go, the last byte never

one_stays : (b : ℕ) → path_of (b ∷ []) ≡ b ∷ []
unfolding path_of without_leading_zeros or_one_zero
one_stays zero = refl
one_stays (suc b) = refl

pub zero_goes : (b c : ℕ) (a : List ℕ) → b ≡ 0 → path_of (b ∷ c ∷ a) ≡ path_of (c ∷ a)
unfolding path_of without_leading_zeros
zero_goes b c a e = rw e

other_stays : (b : ℕ) (a : List ℕ) → (b ≡ 0 → ⊥) → path_of (b ∷ a) ≡ b ∷ a
unfolding path_of without_leading_zeros or_one_zero
other_stays zero a h = absurd (h refl)
other_stays (suc b) a h = refl

-- so by the place of the first byte that is not zero
abbrev pub counts : ℕ → Bool
counts b = not (eqb b 0)

leading : (a : List ℕ) → length (without_leading_zeros a) ≡ length a - position_or_len counts a
unfolding without_leading_zeros
leading [] = refl
leading (zero ∷ a) = leading a ∙ omega arith
leading (suc b ∷ a) = rw (ne_eqb (suc b) 0 (λ z. omega (arith, z))) (omega arith)

one_at_least : (a : List ℕ) → length (or_one_zero a) ≡ max (length a) 1
unfolding or_one_zero
one_at_least [] = refl
one_at_least (b ∷ a) = omega arith

path_size : (b : ℕ) (a : List ℕ) → length (path_of (b ∷ a)) ≡ max (length (b ∷ a) - position_or_len counts (b ∷ a)) 1
unfolding path_of
path_size b a = one_at_least (without_leading_zeros (b ∷ a)) ∙ ap (λ (n : ℕ). max n 1) (leading (b ∷ a))

pub path_from : (a : List ℕ) (i : ℕ) → position counts a ≡ Some i → length a - i ≡ length (path_of a)
path_from [] i e = absurd (omega (arith, (position-Some counts [] i 0 e).0))
path_from (b ∷ a) i e =
    let at : position_or_len counts (b ∷ a) ≡ i = grind (arith, common_steps) in
    omega (arith, at, path_size b a, (position-Some counts (b ∷ a) i 0 e).0)

pub path_zeros : (a : List ℕ) → position counts a ≡ None → min (length a) 1 ≡ length (path_of a)
path_zeros [] e = sym (ap length path_none)
path_zeros (b ∷ a) e =
    let none : length (b ∷ a) ≤ position_or_len counts (b ∷ a) = grind (arith, common_steps) in
    omega (arith, none, path_size b a)

-- ---- kept: twelve bytes with the zeros first, and the count

-- a path is the end of its address
path_end : (a : List ℕ) → (length (path_of a) ≤ length a) × (path_of a ≡ drop (length a - length (path_of a)) a)
path_end [] = rw path_none (omega arith, refl)
path_end (b ∷ []) = rw one_stays (omega arith, refl)
path_end (zero ∷ c ∷ a) =
    let p = path_end (c ∷ a) in
    let n = length (path_of (c ∷ a)) in
    let e : length (zero ∷ c ∷ a) - n ≡ suc (length (c ∷ a) - n) = omega arith in
    rw (zero_goes 0 c a refl, e) (omega arith, p.1)
path_end (suc b ∷ c ∷ a) =
    let n = length (c ∷ a) in
    let e : suc n - suc n ≡ 0 = omega arith in
    rw (other_stays (suc b) (c ∷ a) (λ z. omega arith), e) (omega arith, refl)

-- what is kept has the path, and so two reply addresses are kept as one exactly if they have one path
pub path_kept : (a : List ℕ) → path_bytes (kept a) ≡ path_of a
path_kept a =
    let m = length (path_of a) in
    drop_at (replicate (12 - m) 0) (path_of a) (12 - m) (length-replicate (12 - m) 0)

pub kept_path : (a b : List ℕ) → kept a ≡ kept b → path_of a ≡ path_of b
kept_path a b e = sym (path_kept a) ∙ ap path_bytes e ∙ path_kept b

-- and no more than twelve bytes
pub path_short : (a : List ℕ) → length a ≤ 12 → length (path_of a) ≤ 12
path_short a h = let p = path_end a in omega arith

zeros_first : (k n m : ℕ) → k + n ≡ m → take k (replicate m 0) ≡ replicate {A = ℕ} k 0
zeros_first k n m e = rw (← e, ← replicate-append-replicate {A = ℕ} k n 0) (take_at (replicate k 0) (replicate n 0) k (length-replicate k 0))

-- zeros in front of an address are zeros in front of its path
zero_more : (k : ℕ) (a : List ℕ) → replicate k 0 ++ (0 ∷ a) ≡ replicate (suc k) 0 ++ a
zero_more zero a = refl
zero_more (suc k) a = ap (λ (l : List ℕ). 0 ∷ l) (zero_more k a)

zero_before : (n : ℕ) (a : List ℕ) → suc n ≤ 12 → replicate (12 - suc n) 0 ++ (0 ∷ a) ≡ replicate (12 - n) 0 ++ a
zero_before n a h =
    let e : suc (12 - suc n) ≡ 12 - n = omega arith in
    zero_more (12 - suc n) a ∙ ap (λ (k : ℕ). replicate k 0 ++ a) e

zeros_before : (a : List ℕ) → length a ≤ 12 → replicate (12 - length a) 0 ++ a ≡ replicate (12 - length (path_of a)) 0 ++ path_of a
zeros_before [] h = rw path_none
zeros_before (b ∷ []) h = rw one_stays
zeros_before (zero ∷ c ∷ a) h =
    rw (zero_goes 0 c a refl, zero_before (length (c ∷ a)) (c ∷ a) h) (zeros_before (c ∷ a) (omega arith))
zeros_before (suc b ∷ c ∷ a) h = rw (other_stays (suc b) (c ∷ a) (λ z. omega arith))

-- an address copied to the end of twelve zeros
pub kept_placed : (a : List ℕ) → length a ≤ 12 → placed (12 - length a) a (replicate 12 0) ≡ (kept a).bytes
kept_placed a h =
    let n = length a in
    let k = 12 - n in
    let e : k + n ≡ 12 = omega arith in
    rw (zeros_first k n 12 e, e) (append-nil (replicate k 0 ++ a) ∙ zeros_before a h)

pub kept_copied : (a : List ℕ) → length a ≤ 12 → copied a 0 (length a) (replicate 12 0) (12 - length a) ≡ (kept a).bytes
unfolding copied
kept_copied a h =
    let n = length a in
    let k = 12 - n in
    let e : k + n ≡ 12 = omega arith in
    let f : 0 + n ≤ n = omega arith in
    let g : k + n ≤ 12 = omega arith in
    rw (le-leb (0 + n) n f, le-leb (k + n) 12 g, take-length a, zeros_first k n 12 e, e) (append-nil (replicate k 0 ++ a) ∙ zeros_before a h)

-- the path as a part of the twelve bytes
pub path_part : (k : Path) (n : ℕ) → length k.bytes ≡ 12 → n ≡ length (path_bytes k) → part (12 - n) n k.bytes ≡ path_bytes k
path_part k n twelve e =
    let l = length-drop (12 - k.count) k.bytes in
    let f : 12 - n ≡ 12 - k.count = omega arith in
    rw (f, e) (take-length (path_bytes k))

-- ---- two kept paths

same_bytes_law : (a b : List ℕ) → same_bytes a b ≡ true → a ≡ b
same_bytes_law [] [] h = refl
same_bytes_law [] (y ∷ b) h = absurd (false≢true h)
same_bytes_law (x ∷ a) [] h = absurd (false≢true h)
same_bytes_law (x ∷ a) (y ∷ b) h =
    ap (λ (n : ℕ). n ∷ a) (eqb-true x y (first_true (eqb x y) (same_bytes a b) h)) ∙ ap (λ (l : List ℕ). y ∷ l) (same_bytes_law a b (second_true (eqb x y) (same_bytes a b) h))

bytes_same : (a : List ℕ) → same_bytes a a ≡ true
bytes_same [] = refl
bytes_same (x ∷ a) = rw (eq-eqb x x refl) (bytes_same a)

abbrev as_path : List ℕ → ℕ → Path
as_path b n = record { bytes = b; count = n }

-- the test says yes exactly if the two are one
-- what `==` compares of two paths is what the definition compares
pub pointwise_same : (a b : List ℕ) → pointwise eqb a b ≡ same_bytes a b
pointwise_same [] [] = refl
pointwise_same [] (y ∷ b) = refl
pointwise_same (x ∷ a) [] = refl
pointwise_same (x ∷ a) (y ∷ b) = ap (λ (t : Bool). eqb x y && t) (pointwise_same a b)

pub equal_paths : (k l : Path) → (pointwise eqb k.bytes l.bytes && eqb k.count l.count) ≡ same_path k l
unfolding same_path
equal_paths k l = ap (λ (t : Bool). t && eqb k.count l.count) (pointwise_same k.bytes l.bytes)

pub same_path_law : (k l : Path) → same_path k l ≡ true → k ≡ l
unfolding same_path
same_path_law k l h =
    let e = same_bytes_law k.bytes l.bytes (first_true (same_bytes k.bytes l.bytes) (eqb k.count l.count) h) in
    let f = eqb-true k.count l.count (second_true (same_bytes k.bytes l.bytes) (eqb k.count l.count) h) in
    ap (λ (b : List ℕ). as_path b k.count) e ∙ ap (λ (n : ℕ). as_path l.bytes n) f

pub path_same : (k : Path) → same_path k k ≡ true
unfolding same_path
path_same k = rw (bytes_same k.bytes, eq-eqb k.count k.count refl)

-- no path and path 00 are two, though all twelve bytes of both are zero
pub none_and_zero : same_path (kept []) (kept (0 ∷ 0 ∷ 0 ∷ 0 ∷ [])) ≡ false
unfolding same_path path_of without_leading_zeros or_one_zero
none_and_zero = refl
