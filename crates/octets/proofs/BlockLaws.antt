-- Laws of blocks of 127 bytes: modulo g(x), x^127 is 1, so that a block in front of another counts as if it lay on it, and two of them count what their sum does.
use mathlib.Core.Path.{◌≡◌, refl, sym, ap, ap₂, ◌∙◌}
use mathlib.Core.List.{List, [], ◌∷◌, ◌++◌, append_assoc, append-nil}
use Prim.Native.Nat.{ℕ, zero, suc, ◌+◌, ◌*◌, ◌%◌, ◌<◌, ◌≤◌}
use native.Mathlib.Omega.{arith}
use native.Mathlib.Numerals.{add-one}
use lib.Bits.{bit_xor, xor_lt, xor_zero_r}
use lib.ListN.{length, get_or, take, drop, set, replicate, drop_of_length-le}
use lib.Seq.{drop-cons, take-suc-set, drop-set-lt, append_snoc, take_all}
use Rattle.octets.specs.Crc.{crc, crc_from}
use Rattle.octets.specs.Numbers.{Digits}
use Rattle.octets.specs.Words.{turn, turns, word_of, added, added_from}
use Rattle.octets.proofs.CrcLaws.{crc_byte, crc_from_append, crc_from_byte}
use lib.Seq.{length-take-le}
use lib.ListN.{length-drop, take-append-drop}
use Rattle.octets.proofs.NumberLaws.{digits_take, digits_drop}
use Rattle.octets.proofs.Linear.{itself, basis}
use Rattle.octets.proofs.WordLaws.{turns_linear, turns_add, crc_turns, crc_word}
use Rattle.octets.proofs.Xor.{xor_cross}

-- ---- x^127 = 1, and so x^(127 n)

cycle : (c : ℕ) → c < 256 → turns 127 c ≡ c
unfolding turns turn
cycle = basis (turns_linear 127) itself 8 refl

cycles : (n c : ℕ) → c < 256 → turns (n * 127) c ≡ c
unfolding turns
cycles zero c h = refl
cycles (suc n) c h =
    let more : suc n * 127 ≡ 127 + n * 127 = omega arith in
    rw (more, turns_add 127 (n * 127) c, cycle c h) (cycles n c h)

-- ---- rows added

length_added : (xs ys : List ℕ) → length xs ≡ length ys → length (added xs ys) ≡ length xs
length_added [] ys e = refl
length_added (x ∷ xs) [] e = absurd (omega arith)
length_added (x ∷ xs) (y ∷ ys) e = ap suc (length_added xs ys (omega arith))

digits_added : (xs ys : List ℕ) → Digits 256 xs → Digits 256 ys → Digits 256 (added xs ys)
digits_added [] ys s t = tt
digits_added (x ∷ xs) [] s t = tt
digits_added (x ∷ xs) (y ∷ ys) s t = (xor_lt 8 x y s.0 t.0, digits_added xs ys s.1 t.1)

added_zeros : (ys : List ℕ) → added (replicate (length ys) 0) ys ≡ ys
added_zeros [] = refl
added_zeros (y ∷ ys) = ap (λ (l : List ℕ). y ∷ l) (added_zeros ys)

digits_zeros : (n : ℕ) → Digits 256 (replicate n 0)
digits_zeros zero = tt
digits_zeros (suc n) = (omega arith, digits_zeros n)

word_zeros : (n : ℕ) → word_of (replicate n 0) ≡ 0
word_zeros zero = refl
word_zeros (suc n) = rw (word_zeros n)

crc_xor : (a b : ℕ) → a < 256 → b < 256 → crc (bit_xor a b ∷ []) ≡ bit_xor (crc (a ∷ [])) (crc (b ∷ []))
crc_xor a b ha hb =
    sym (crc_turns (bit_xor a b) (xor_lt 8 a b ha hb))
    ∙ (turns_linear 8).through a b
    ∙ ap₂ bit_xor (crc_turns a ha) (crc_turns b hb)

-- the CRC of a sum is the sum of the CRCs
crc_added : (c d : ℕ) (xs ys : List ℕ) → c < 256 → d < 256 → Digits 256 xs → Digits 256 ys → length xs ≡ length ys
    → crc_from (bit_xor c d) (added xs ys) ≡ bit_xor (crc_from c xs) (crc_from d ys)
unfolding crc_from
crc_added c d [] [] hc hd s t e = refl
crc_added c d [] (y ∷ ys) hc hd s t e = absurd (omega arith)
crc_added c d (x ∷ xs) [] hc hd s t e = absurd (omega arith)
crc_added c d (x ∷ xs) (y ∷ ys) hc hd s t e =
    ap (λ (k : ℕ). crc_from k (added xs ys))
    (ap (λ (k : ℕ). crc (k ∷ [])) (xor_cross c d x y) ∙ crc_xor (bit_xor c x) (bit_xor d y) (xor_lt 8 c x hc s.0) (xor_lt 8 d y hd t.0))
    ∙ crc_added (crc (bit_xor c x ∷ [])) (crc (bit_xor d y ∷ [])) xs ys (crc_byte (bit_xor c x ∷ [])) (crc_byte (bit_xor d y ∷ [])) s.1 t.1 (omega arith)

-- ---- blocks

-- 127 bytes further on a byte counts the same
block_on : (c : ℕ) → c < 256 → crc_from c (replicate 127 0) ≡ c
block_on c h =
    crc_word c (replicate 127 0) h (digits_zeros 127)
    ∙ ap (λ (w : ℕ). turns 1016 (bit_xor c w)) (word_zeros 127)
    ∙ ap (turns 1016) (xor_zero_r c)
    ∙ cycles 8 c h

-- so two blocks count what their sum does
block_sum : (xs ys : List ℕ) → Digits 256 xs → Digits 256 ys → length xs ≡ 127 → length ys ≡ 127
    → crc_from 0 (xs ++ ys) ≡ crc_from 0 (added xs ys)
block_sum xs ys s t ex ey =
    let k = crc_from 0 xs in
    let hk : k < 256 = crc_from_byte 0 xs (omega arith) in
    let zeros : added (replicate 127 0) ys ≡ ys = rw ey at (added_zeros ys) in
    crc_from_append 0 xs ys
    ∙ ap₂ crc_from (sym (xor_zero_r k)) (sym zeros)
    ∙ crc_added k 0 (replicate 127 0) ys hk (omega arith) (digits_zeros 127) t (sym ey)
    ∙ ap (λ (c : ℕ). bit_xor c (crc_from 0 ys)) (block_on k hk)
    ∙ sym (crc_added 0 0 xs ys (omega arith) (omega arith) s t (ex ∙ sym ey))

-- ---- a loop over blocks: the first sum, a block more, and the end

-- a sum of blocks in front of what is left of the row: as many bytes as a block has, whole blocks, and the CRC of the whole
pub record Summed (whole : ℕ) (sum left : List ℕ) : Type 0 where
  pub size : length sum ≡ 127
  pub blocks : length left % 127 ≡ 0
  pub digits : Digits 256 sum × Digits 256 left
  pub goes : crc_from 0 (sum ++ left) ≡ whole

pub block_first : (c : ℕ) (bytes : List ℕ) → c < 256 → length bytes % 127 ≡ 0 → Digits 256 bytes → Summed (crc_from c bytes) (c ∷ replicate 126 0) bytes
unfolding crc_from
block_first c bytes h e t = record {
  size = refl;
  blocks = e;
  digits = ((h, digits_zeros 126), t);
  goes =
      crc_from_append 0 (c ∷ replicate 126 0) bytes
      ∙ ap (λ (k : ℕ). crc_from k bytes)
      (ap (λ (k : ℕ). crc_from (crc (k ∷ [])) (replicate 126 0)) (sym (xor_zero_r c)) ∙ block_on c h);
}

pub block_next : (whole : ℕ) (sum left : List ℕ) → 127 ≤ length left
    → Summed whole sum left → Summed whole (added sum (take 127 left)) (drop 127 left)
block_next whole sum left h s =
    let block = take 127 left in
    let long : length block ≡ 127 = length-take-le 127 left h in
    let t : Digits 256 block = digits_take 256 127 left s.digits.1 in
    record {
      size = length_added sum block (s.size ∙ sym long) ∙ s.size;
      blocks = omega (arith, length-drop 127 left, s.blocks);
      digits = (digits_added sum block s.digits.0 t, digits_drop 256 127 left s.digits.1);
      goes =
          crc_from_append 0 (added sum block) (drop 127 left)
          ∙ ap (λ (k : ℕ). crc_from k (drop 127 left)) (sym (block_sum sum block s.digits.0 t s.size long))
          ∙ sym (crc_from_append 0 (sum ++ block) (drop 127 left))
          ∙ ap (crc_from 0) (append_assoc sum block (drop 127 left) ∙ ap (λ (l : List ℕ). sum ++ l) (take-append-drop 127 left))
          ∙ s.goes;
    }

pub block_end : (whole : ℕ) (sum left : List ℕ) → length left < 127 → Summed whole sum left → crc_from 0 sum ≡ whole
block_end whole sum left h s =
    ap (crc_from 0) (sym (append-nil sum) ∙ ap (λ (l : List ℕ). sum ++ l) (sym (none left (omega (arith, s.blocks))))) ∙ s.goes
  where
    none : (l : List ℕ) → length l ≡ 0 → l ≡ []
    none [] e = refl
    none (b ∷ l) e = absurd (omega (arith, e))

-- ---- a loop over the places of a block: one more, and the end

pub added_next : (sum ys : List ℕ) (j : ℕ) → j < length sum → j < length ys
    → added_from (j + 1) (set sum j (bit_xor (get_or sum j 0) (get_or ys j 0))) ys ≡ added_from j sum ys
added_next sum ys j h k =
    let b = bit_xor (get_or sum j 0) (get_or ys j 0) in
    rw (add-one, take-suc-set sum j b h, drop-set-lt (suc j) sum j b (omega arith), drop-cons sum j 0 h, drop-cons ys j 0 k)
    (append_snoc (take j sum) b (added (drop (suc j) sum) (drop (suc j) ys)))

pub added_end : (sum ys : List ℕ) (j : ℕ) → length sum ≤ j → added_from j sum ys ≡ sum
added_end sum ys j h = rw (take_all j sum h, drop_of_length-le sum {i = j} h) (append-nil sum)
