-- Laws of the CRC. That it goes on byte by byte rests on one: the remainder is linear, remainder (r + s) (a + b) =
-- remainder r a + remainder s b, with exclusive or for +.
use mathlib.Core.Path.{◌≡◌, refl, sym, ap, ap₂, ◌∙◌}
use mathlib.Core.List.{List, [], ◌∷◌, ◌++◌, append_assoc, append-nil}
use Prim.Native.Nat.{ℕ, zero, suc, ◌+◌, ◌-◌, ◌*◌, ◌/◌, ◌%◌, ◌<◌, ◌≤◌}
use native.Mathlib.Omega.{arith}
use native.Mathlib.Decide.{ℕ_discrete}
use borrow.Author.Tests.{eq-eqb, ne_eqb}
use lib.Dec.{eqb}
use lib.Bits.{bit_xor, xor_shr, xor_mod, xor_block, xor_self, xor_zero_r, xor_lt}
use lib.ListN.{length, get_or, take, drop, replicate, drop_of_length-le, take-append-drop}
use lib.Seq.{drop-cons}
use native.Mathlib.Numerals.{add-one}
use Rattle.octets.specs.Crc.{with_crc, generator, modulo, remainder, bits, message, mirrored, crc, crc_from}
use Rattle.octets.proofs.Tabulate.{same}
use Rattle.octets.proofs.Xor.{low, xor_assoc, xor_cross, bit_times}

-- ---- the remainder of a polynomial of degree at most 8, and one coefficient more

modulo_byte : (p : ℕ) → p < 512 → modulo p < 256
unfolding modulo
modulo_byte p h = omega (arith, same (λ k. modulo k / 256) (λ k. 0) 512 refl p h)

modulo_xor : (p q : ℕ) → p < 512 → q < 512 → modulo (bit_xor p q) ≡ bit_xor (modulo p) (modulo q)
unfolding modulo
modulo_xor p q hp hq =
    rw (xor_shr p q 8, bit_times generator (p / 256) (q / 256) (omega arith) (omega arith))
    (xor_cross p q (p / 256 * generator) (q / 256 * generator))

next_xor : (r s a b : ℕ) → r < 256 → s < 256
    → modulo (bit_xor r s * 2 + bit_xor a b % 2) ≡ bit_xor (modulo (r * 2 + a % 2)) (modulo (s * 2 + b % 2))
next_xor r s a b hr hs =
    rw (xor_mod a b 1, ← xor_block 1 r s (a % 2) (b % 2) (low a) (low b))
    (modulo_xor (r * 2 + a % 2) (s * 2 + b % 2) (omega (arith, low a)) (omega (arith, low b)))

next_byte : (r a : ℕ) → r < 256 → modulo (r * 2 + a % 2) < 256
next_byte r a h = modulo_byte (r * 2 + a % 2) (omega (arith, low a))

-- ---- many coefficients

remainder_byte : (n r a : ℕ) → r < 256 → remainder r (bits n a) < 256
unfolding remainder bits
remainder_byte zero r a h = h
remainder_byte (suc n) r a h = remainder_byte n (modulo (r * 2 + a % 2)) (a / 2) (next_byte r a h)

remainder_xor : (n r s a b : ℕ) → r < 256 → s < 256
    → remainder (bit_xor r s) (bits n (bit_xor a b)) ≡ bit_xor (remainder r (bits n a)) (remainder s (bits n b))
unfolding remainder bits
remainder_xor zero r s a b hr hs = refl
remainder_xor (suc n) r s a b hr hs =
    ap₂ (λ (t c : ℕ). remainder t (bits n c)) (next_xor r s a b hr hs) (xor_shr a b 1)
    ∙ (remainder_xor n (modulo (r * 2 + a % 2)) (modulo (s * 2 + b % 2)) (a / 2) (b / 2) (next_byte r a hr) (next_byte s b hs))

remainder_append : (r : ℕ) (xs ys : List ℕ) → remainder r (xs ++ ys) ≡ remainder (remainder r xs) ys
unfolding remainder
remainder_append r [] ys = refl
remainder_append r (x ∷ xs) ys = remainder_append (modulo (r * 2 + x)) xs ys

message_append : (xs ys : List ℕ) → message (xs ++ ys) ≡ message xs ++ message ys
unfolding message
message_append [] ys = refl
message_append (x ∷ xs) ys = rw (message_append xs ys, append_assoc (bits 8 x) (message xs) (message ys))

-- what is left of m(x) modulo g(x), before it is multiplied by x^8
residue : List ℕ → ℕ
residue xs = remainder 0 (message xs)

residue_from : (r : ℕ) (xs : List ℕ) → r < 256 → remainder r (message xs) < 256
unfolding message remainder
residue_from r [] h = h
residue_from r (x ∷ xs) h =
    rw (remainder_append r (bits 8 x) (message xs)) (residue_from (remainder r (bits 8 x)) xs (remainder_byte 8 r x h))

residue_byte : (xs : List ℕ) → residue xs < 256
unfolding residue
residue_byte xs = residue_from 0 xs (omega arith)

-- ---- the CRC

crc_residue : (xs : List ℕ) → crc xs ≡ mirrored (remainder (residue xs) (bits 8 0))
unfolding crc residue bits
crc_residue xs = ap mirrored (remainder_append 0 (message xs) (replicate 8 0))

residue_one : (b : ℕ) → residue (b ∷ []) ≡ remainder 0 (bits 8 b)
unfolding residue message
residue_one b = ap (remainder 0) (append-nil (bits 8 b))

residue_snoc : (xs : List ℕ) (b : ℕ) → residue (xs ++ (b ∷ [])) ≡ remainder (residue xs) (bits 8 b)
unfolding residue message
residue_snoc xs b =
    ap (remainder 0) (message_append xs (b ∷ []))
    ∙ remainder_append 0 (message xs) (bits 8 b ++ [])
    ∙ ap (remainder (remainder 0 (message xs))) (append-nil (bits 8 b))

-- a remainder, mirrored and told bit by bit, is the remainder again
unmirrored : (r : ℕ) → r < 256 → remainder 0 (bits 8 (mirrored r)) ≡ r
unfolding mirrored bits remainder modulo
unmirrored r h = same (λ k. remainder 0 (bits 8 (mirrored k))) (λ k. k) 256 refl r h

-- one byte more, after bytes whose CRC is known
crc_snoc : (xs : List ℕ) (b : ℕ) → crc (xs ++ (b ∷ [])) ≡ crc (bit_xor (crc xs) b ∷ [])
crc_snoc xs b =
    let r = residue xs in
    let h = residue_byte xs in
    let s = remainder r (bits 8 0) in
    let hs = remainder_byte 8 r 0 h in
    let left : remainder r (bits 8 b) ≡ bit_xor s (remainder 0 (bits 8 b)) =
    ap (λ (k : ℕ). remainder k (bits 8 b)) (sym (xor_zero_r r)) ∙ remainder_xor 8 r 0 0 b h (omega arith) in
    let right : remainder 0 (bits 8 (bit_xor (mirrored s) b)) ≡ bit_xor s (remainder 0 (bits 8 b)) =
    remainder_xor 8 0 0 (mirrored s) b (omega arith) (omega arith)
    ∙ ap (λ (k : ℕ). bit_xor k (remainder 0 (bits 8 b))) (unmirrored s hs) in
    crc_residue (xs ++ (b ∷ []))
    ∙ ap (λ (k : ℕ). mirrored (remainder k (bits 8 0)))
    (residue_snoc xs b ∙ left ∙ sym right ∙ sym (residue_one (bit_xor (mirrored s) b)))
    ∙ sym (crc_residue (bit_xor (mirrored s) b ∷ []))
    ∙ ap (λ (k : ℕ). crc (bit_xor k b ∷ [])) (sym (crc_residue xs))

mirrored_byte : (r : ℕ) → r < 256 → mirrored r < 256
unfolding mirrored bits
mirrored_byte r h = omega (arith, same (λ k. mirrored k / 256) (λ k. 0) 256 refl r h)

-- it is a byte
pub crc_byte : (xs : List ℕ) → crc xs < 256
crc_byte xs =
    rw (crc_residue xs) (mirrored_byte (remainder (residue xs) (bits 8 0)) (remainder_byte 8 (residue xs) 0 (residue_byte xs)))

-- of no bytes: 0 (5.2 f)
pub crc_none : crc [] ≡ 0
unfolding crc message remainder mirrored modulo bits
crc_none = refl

-- the CRC of a concatenation goes on from the CRC of its first part
pub crc_append : (xs ys : List ℕ) → crc (xs ++ ys) ≡ crc_from (crc xs) ys
unfolding crc_from
crc_append xs [] = ap crc (append-nil xs)
crc_append xs (y ∷ ys) =
    ap crc (sym (append_assoc xs (y ∷ []) ys))
    ∙ crc_append (xs ++ (y ∷ [])) ys
    ∙ ap (λ (c : ℕ). crc_from c ys) (crc_snoc xs y)

-- so from 0 on it is the CRC itself
pub crc_from_zero : (xs : List ℕ) → crc_from 0 xs ≡ crc xs
crc_from_zero xs = ap (λ (c : ℕ). crc_from c xs) (sym crc_none) ∙ sym (crc_append [] xs)

pub crc_from_append : (c : ℕ) (xs ys : List ℕ) → crc_from c (xs ++ ys) ≡ crc_from (crc_from c xs) ys
unfolding crc_from
crc_from_append c [] ys = refl
crc_from_append c (x ∷ xs) ys = crc_from_append (crc (bit_xor c x ∷ [])) xs ys

-- over a row in two parts
pub crc_from_parts : (c : ℕ) (bytes : List ℕ) (n : ℕ)
    → crc_from (crc_from c (take n bytes)) (drop n bytes) ≡ crc_from c bytes
crc_from_parts c bytes n =
    sym (crc_from_append c (take n bytes) (drop n bytes))
    ∙ ap (crc_from c) (take-append-drop n bytes)

crc_zero : crc (0 ∷ []) ≡ 0
unfolding crc message remainder mirrored modulo bits
crc_zero = refl

-- bytes followed by their own CRC give 0 (5.2 e)
pub crc_checked : (xs : List ℕ) → crc (with_crc xs) ≡ 0
crc_checked xs = crc_snoc xs (crc xs) ∙ ap (λ (k : ℕ). crc (k ∷ [])) (xor_self (crc xs)) ∙ crc_zero

crc_of_one : (k : ℕ) → k < 256 → crc (k ∷ []) ≡ 0 → k ≡ 0
unfolding crc message remainder mirrored modulo bits
crc_of_one k h e =
    omega (arith, same (λ n. 1 - n) (λ n. 1 - crc (n ∷ [])) 256 refl k h, e)

-- and only their own CRC does
pub crc_only : (xs : List ℕ) (k : ℕ) → k < 256 → crc (xs ++ (k ∷ [])) ≡ 0 → k ≡ crc xs
crc_only xs k h e =
    let c = crc xs in
    let z : bit_xor c k ≡ 0 = crc_of_one (bit_xor c k) (xor_lt 8 c k (crc_byte xs) h) (sym (crc_snoc xs k) ∙ e) in
    ap (λ (n : ℕ). bit_xor n k) (sym (xor_self c)) ∙ xor_assoc c c k ∙ ap (bit_xor c) z ∙ xor_zero_r c

-- so to compare (5.2 d) and to run the CRC through (5.2 e) are one test
pub crc_test : (xs : List ℕ) (k : ℕ) → k < 256 → eqb (crc (xs ++ (k ∷ []))) 0 ≡ eqb k (crc xs)
crc_test xs k h = go (ℕ_discrete k (crc xs))
  where
    go : Dec (k ≡ crc xs) → eqb (crc (xs ++ (k ∷ []))) 0 ≡ eqb k (crc xs)
    go (yes e) = eq-eqb _ 0 (ap (λ (n : ℕ). crc (xs ++ (n ∷ []))) e ∙ crc_checked xs) ∙ sym (eq-eqb k (crc xs) e)
    go (no d) = ne_eqb _ 0 (λ z. d (crc_only xs k h z)) ∙ sym (ne_eqb k (crc xs) d)

-- what goes on from a byte is a byte
pub crc_from_byte : (c : ℕ) (xs : List ℕ) → c < 256 → crc_from c xs < 256
unfolding crc_from
crc_from_byte c [] h = h
crc_from_byte c (x ∷ xs) h = crc_from_byte (crc (bit_xor c x ∷ [])) xs (crc_byte (bit_xor c x ∷ []))

-- document 01: of 01 it is 91, of 80 it is E0
pub crc_01 : crc (0x01 ∷ []) ≡ 0x91
unfolding crc message remainder mirrored modulo bits
crc_01 = refl

pub crc_80 : crc (0x80 ∷ []) ≡ 0xE0
unfolding crc message remainder mirrored modulo bits
crc_80 = refl

-- ---- a loop over the bytes: one byte more, and the end

pub crc_from_next : (c : ℕ) (bytes : List ℕ) (i : ℕ) → i < length bytes
    → crc_from (crc (bit_xor c (get_or bytes i 0) ∷ [])) (drop (i + 1) bytes) ≡ crc_from c (drop i bytes)
unfolding crc_from
crc_from_next c bytes i h = rw (drop-cons bytes i 0, add-one)

pub crc_from_end : (c : ℕ) (bytes : List ℕ) (i : ℕ) → length bytes ≤ i → crc_from c (drop i bytes) ≡ c
unfolding crc_from
crc_from_end c bytes i h = rw (drop_of_length-le bytes {i = i} h)
