-- Laws of the shift register on words of any width: exclusive or goes through it, and as many turns as a word has bits are the CRC of its bytes.
use mathlib.Core.Path.{◌≡◌, refl, sym, ap, ap₂, ◌∙◌}
use mathlib.Core.List.{List, [], ◌∷◌}
use Prim.Native.Nat.{ℕ, zero, suc, ◌+◌, ◌-◌, ◌*◌, ◌/◌, ◌%◌, ◌^◌, ◌<◌, ◌≤◌}
use native.Mathlib.Omega.{arith}
use native.Mathlib.Nat.{zero-mul, zero-add, add-zero, suc-add, mul_assoc, mul_comm, pow-succ', mod-lt, mod-one, zero-mod, mul-mod_left, mod-eq_of_lt, lt_of_lt_of_le}
use lib.Arith.{digits_div, digits_mod}
use lib.Bits.{bit_xor, xor_mod, xor_block, xor_comm, xor_zero_r, xor_lt, xor_shifted}
use lib.Pow.{pow_pos, pow_mono, shl-shr, mod-pow-add}
use lib.ListN.{length, take, drop}
use lib.Seq.{take-take}
use Rattle.octets.specs.Crc.{crc, crc_from, message, remainder, mirrored, modulo, bits}
use Rattle.octets.specs.Numbers.{Digits}
use Rattle.octets.specs.Places.{part}
use Rattle.octets.specs.Words.{turn, turns, crc_of_two, word_of}
use Rattle.octets.proofs.CrcLaws.{crc_byte, crc_from_append}
use Rattle.octets.proofs.NumberLaws.{digits_part}
use Rattle.octets.proofs.PlaceLaws.{length_part, part_rest}
use Rattle.octets.proofs.Tabulate.{same}
use Rattle.octets.proofs.Xor.{low, bit_times, xor_cross, xor_assoc}
use Rattle.octets.proofs.Linear.{Linear, itself, sum, after, shifted_down, shifted_up, lowest, at_zero, basis}

-- ---- turns

turn_linear : Linear turn
unfolding turn
turn_linear =
    sum (shifted_down 1)
    (record { through = λ a b. ap (λ (k : ℕ). k * 0b11100000) (xor_mod a b 1) ∙ bit_times 0b11100000 (a % 2) (b % 2) (low a) (low b) })

pub turns_linear : (n : ℕ) → Linear (turns n)
unfolding turns
turns_linear zero = itself
turns_linear (suc n) = after (turns_linear n) turn_linear

pub turns_add : (m n c : ℕ) → turns (m + n) c ≡ turns n (turns m c)
unfolding turns
turns_add zero n c = rw (zero-add n)
turns_add (suc m) n c = rw (suc-add m n) (turns_add m n (turn c))

-- a 0 that leaves brings nothing in
turn_even : (m : ℕ) → turn (m * 2) ≡ m
unfolding turn
turn_even m =
    let half : m * 2 / 2 ≡ m = omega arith in
    let none : m * 2 % 2 ≡ 0 = omega arith in
    rw (half, none) (xor_zero_r m)

turns_up : (n m : ℕ) → turns n (m * 2 ^ n) ≡ m
unfolding turns
turns_up zero m = omega arith
turns_up (suc n) m =
    let e : m * 2 ^ suc n ≡ m * 2 ^ n * 2 = ap (λ (k : ℕ). m * k) (pow-succ' 2 n ∙ mul_comm 2 (2 ^ n)) ∙ sym (mul_assoc m (2 ^ n) 2) in
    rw (e, turn_even (m * 2 ^ n)) (turns_up n m)

-- eight turns are the CRC of a byte
pub crc_turns : (c : ℕ) → c < 256 → turns 8 c ≡ crc (c ∷ [])
unfolding turns turn crc message remainder mirrored modulo bits
crc_turns c h = same (turns 8) (λ k. crc (k ∷ [])) 256 refl c h

-- ---- words

byte_more : (c w x : ℕ) → c < 256 → x < 256 → turns 8 (bit_xor c (w * 256 + x)) ≡ bit_xor (crc (bit_xor c x ∷ [])) w
byte_more c w x hc hx =
    let apart : bit_xor c (w * 256 + x) ≡ bit_xor (w * 256) (bit_xor c x) =
    simp zero-add at (xor_block 8 0 w c x hc hx) ∙ sym (xor_shifted w 8 (bit_xor c x) (xor_lt 8 c x hc hx)) in
    rw (apart, (turns_linear 8).through (w * 256) (bit_xor c x), turns_up 8 w, crc_turns (bit_xor c x) (xor_lt 8 c x hc hx))
    (xor_comm w (crc (bit_xor c x ∷ [])))

-- as many turns as a word has bits are the CRC of its bytes
pub crc_word : (c : ℕ) (xs : List ℕ) → c < 256 → Digits 256 xs → crc_from c xs ≡ turns (length xs * 8) (bit_xor c (word_of xs))
unfolding crc_from turns
crc_word c [] h t = sym (xor_zero_r c)
crc_word c (x ∷ xs) h t =
    let bits : suc (length xs) * 8 ≡ 8 + length xs * 8 = omega arith in
    rw (bits, turns_add 8 (length xs * 8) (bit_xor c (word_of xs * 256 + x)), byte_more c (word_of xs) x h t.0)
    (crc_word (crc (bit_xor c x ∷ [])) xs (crc_byte (bit_xor c x ∷ [])) t.1)

-- ---- two words as one polynomial of 128 coefficients, and a word more: the lower takes the upper's place, and the upper, times x^128 = x, the lower's

-- k places up; what leaves the word is lost
abbrev shl : ℕ → ℕ → ℕ
shl w k = w * 2 ^ k % 2 ^ 64

up : (k : ℕ) → Linear (λ x. shl x k)
up k = after (lowest 64) (shifted_up k)

times_128 : (u : ℕ) → u < 2 ^ 64
    → bit_xor (turns 64 (turns 64 (shl u 63))) (turns 64 (u / 2)) ≡ turns 64 (turns 64 (turns 64 u))
unfolding turns turn
times_128 = basis
    (sum (after (turns_linear 64) (after (turns_linear 64) (up 63))) (after (turns_linear 64) (shifted_down 1)))
    (after (turns_linear 64) (after (turns_linear 64) (turns_linear 64)))
    64 refl

two_next : (upper lower w : ℕ) → upper < 2 ^ 64
    → crc_of_two (bit_xor lower (shl upper 63)) (bit_xor w (upper / 2)) ≡ turns 64 (bit_xor (crc_of_two upper lower) w)
two_next upper lower w h =
    let t : ℕ → ℕ = turns 64 in
    let by : (a b : ℕ) → t (bit_xor a b) ≡ bit_xor (t a) (t b) = (turns_linear 64).through in
    let u = shl upper 63 in
    let left : crc_of_two (bit_xor lower u) (bit_xor w (upper / 2)) ≡ bit_xor (bit_xor (t (t lower)) (t w)) (t (t (t upper))) =
    by (t (bit_xor lower u)) (bit_xor w (upper / 2))
    ∙ ap₂ bit_xor (ap t (by lower u) ∙ by (t lower) (t u)) (by w (upper / 2))
    ∙ xor_cross (t (t lower)) (t (t u)) (t w) (t (upper / 2))
    ∙ ap (bit_xor (bit_xor (t (t lower)) (t w))) (times_128 upper h) in
    let right : t (bit_xor (crc_of_two upper lower) w) ≡ bit_xor (bit_xor (t (t (t upper))) (t (t lower))) (t w) =
    by (crc_of_two upper lower) w
    ∙ ap (λ (k : ℕ). bit_xor k (t w)) (ap t (by (t upper) lower) ∙ by (t (t upper)) (t lower)) in
    left ∙ xor_comm (bit_xor (t (t lower)) (t w)) (t (t (t upper))) ∙ sym (xor_assoc (t (t (t upper))) (t (t lower)) (t w)) ∙ sym right

-- ---- a word, and two, brought down to a byte by shifts, as the code does: to 36 coefficients, 24, 16, times x^8 to 12, and to 8

abbrev to36 : ℕ → ℕ
to36 w = bit_xor (bit_xor (bit_xor (shl (w / 2 ^ 32) 4) (shl (w % 2 ^ 32) 3)) (shl (w % 2 ^ 32) 2)) (w % 2 ^ 32)

linear36 : Linear to36
linear36 = sum (sum (sum (after (up 4) (shifted_down 32)) (after (up 3) (lowest 32))) (after (up 2) (lowest 32))) (lowest 32)

abbrev to24 : ℕ → ℕ
to24 w = bit_xor (bit_xor (bit_xor (shl (w / 2 ^ 20) 8) (shl (w % 2 ^ 20) 4)) (shl (w % 2 ^ 20) 2)) (w % 2 ^ 20)

linear24 : Linear to24
linear24 = sum (sum (sum (after (up 8) (shifted_down 20)) (after (up 4) (lowest 20))) (after (up 2) (lowest 20))) (lowest 20)

abbrev to16 : ℕ → ℕ
to16 w = bit_xor (bit_xor (bit_xor (w / 2 ^ 8) (shl (w % 2 ^ 8) 8)) (shl (w % 2 ^ 8) 6)) (shl (w % 2 ^ 8) 4)

linear16 : Linear to16
linear16 = sum (sum (sum (shifted_down 8) (after (up 8) (lowest 8))) (after (up 6) (lowest 8))) (after (up 4) (lowest 8))

abbrev to12 : ℕ → ℕ
to12 w =
    bit_xor
    (bit_xor (bit_xor (bit_xor (bit_xor (shl (w % 2 ^ 8) 4) (shl (w % 2 ^ 8) 2)) (w % 2 ^ 8)) (shl (w / 2 ^ 8) 4)) (shl (w / 2 ^ 8) 3))
    (shl (w / 2 ^ 8) 2)

linear12 : Linear to12
linear12 =
    sum
    (sum (sum (sum (sum (after (up 4) (lowest 8)) (after (up 2) (lowest 8))) (lowest 8)) (after (up 4) (shifted_down 8)))
    (after (up 3) (shifted_down 8)))
    (after (up 2) (shifted_down 8))

abbrev to8 : ℕ → ℕ
to8 w = bit_xor (bit_xor (bit_xor (w / 2 ^ 4) (shl (w % 2 ^ 4) 4)) (shl (w % 2 ^ 4) 3)) (shl (w % 2 ^ 4) 2) % 2 ^ 8

linear8 : Linear to8
linear8 =
    after (lowest 8) (sum (sum (sum (shifted_down 4) (after (up 4) (lowest 4))) (after (up 3) (lowest 4))) (after (up 2) (lowest 4)))

-- one word
abbrev down : ℕ → ℕ
down w = to8 (to12 (to16 (to24 (to36 w))))

down_linear : Linear down
down_linear = after linear8 (after linear12 (after linear16 (after linear24 linear36)))

-- the upper of two, in the lower one's place
abbrev over : ℕ → ℕ
over u = bit_xor (shl u 63) (shl u 60)

over_linear : Linear over
over_linear = sum (up 63) (up 60)

abbrev below : ℕ → ℕ
below u = bit_xor (bit_xor (bit_xor (bit_xor (bit_xor u (u / 2 ^ 1)) (u / 2 ^ 4)) (over u)) (over u / 2 ^ 1)) (over u / 2 ^ 4)

below_linear : Linear below
below_linear =
    sum (sum (sum (sum (sum itself (shifted_down 1)) (shifted_down 4)) over_linear) (after (shifted_down 1) over_linear))
    (after (shifted_down 4) over_linear)

down_one : (w : ℕ) → w < 2 ^ 64 → down w ≡ turns 64 w
unfolding turns turn
down_one = basis down_linear (turns_linear 64) 64 refl

down_upper : (u : ℕ) → u < 2 ^ 64 → down (below u) ≡ turns 64 (turns 64 u)
unfolding turns turn
down_upper = basis (after down_linear below_linear) (after (turns_linear 64) (turns_linear 64)) 64 refl

pub down_two : (upper lower : ℕ) → upper < 2 ^ 64 → lower < 2 ^ 64 → down (bit_xor lower (below upper)) ≡ crc_of_two upper lower
down_two upper lower hu hl =
    down_linear.through lower (below upper)
    ∙ ap₂ bit_xor (down_one lower hl) (down_upper upper hu)
    ∙ xor_comm (turns 64 lower) (turns 64 (turns 64 upper))
    ∙ sym ((turns_linear 64).through (turns 64 upper) lower)

-- ---- a loop over words: the first one, which may have fewer bytes, one more, and the end

-- the lowest bits of a word are its first bytes
word_take : (f : ℕ) (xs : List ℕ) → Digits 256 xs → word_of (take f xs) ≡ word_of xs % 2 ^ (f * 8)
word_take zero xs t = rw (zero-mul 8) (sym (mod-one (word_of xs)))
word_take (suc f) [] t = sym (zero-mod (2 ^ (suc f * 8)))
word_take (suc f) (x ∷ xs) t =
    let bits : suc f * 8 ≡ f * 8 + 8 = omega arith in
    rw (bits, mod-pow-add (word_of xs * 256 + x) (f * 8) 8, digits_div (word_of xs) t.0, digits_mod (word_of xs) t.0, word_take f xs t.1)

-- shifted up until the bits above are gone, as many turns as are left of 64 are made of what stays
turns_cut : (y j k : ℕ) → k + j ≡ 64 → turns 64 (shl y k) ≡ turns j (y % 2 ^ j)
turns_cut y j k e =
    let whole : j + k ≡ 64 = omega arith in
    let cut : shl y k ≡ y % 2 ^ j * 2 ^ k =
    ap (λ (n : ℕ). y * 2 ^ k % 2 ^ n) (sym whole) ∙ mod-pow-add (y * 2 ^ k) j k
    ∙ ap₂ (λ (q r : ℕ). q % 2 ^ j * 2 ^ k + r) (shl-shr y k) (mul-mod_left y (2 ^ k)) ∙ add-zero (y % 2 ^ j * 2 ^ k) in
    rw cut (ap (λ (n : ℕ). turns n (y % 2 ^ j * 2 ^ k)) (sym e) ∙ turns_add k j (y % 2 ^ j * 2 ^ k) ∙ ap (turns j) (turns_up k (y % 2 ^ j)))

-- the CRC of some bytes of a row, which are one word
crc_part : (bytes : List ℕ) → Digits 256 bytes → (c from count : ℕ) → c < 256 → from + count ≤ length bytes
    → crc_from c (part from count bytes) ≡ turns (count * 8) (bit_xor c (word_of (part from count bytes)))
crc_part bytes t c from count hc h =
    crc_word c (part from count bytes) hc (digits_part bytes from count t)
    ∙ ap (λ (n : ℕ). turns (n * 8) (bit_xor c (word_of (part from count bytes)))) (length_part from count bytes h)

-- so the CRC of the rest of a row goes on from that
crc_rest : (bytes : List ℕ) → Digits 256 bytes → (c from count : ℕ) → c < 256 → from + count ≤ length bytes
    → crc_from (turns (count * 8) (bit_xor c (word_of (part from count bytes)))) (drop (from + count) bytes) ≡ crc_from c (drop from bytes)
crc_rest bytes t c from count hc h =
    rw (← crc_part bytes t c from count hc h, ← crc_from_append c (part from count bytes) (drop (from + count) bytes))
    (ap (crc_from c) (part_rest from count bytes))

-- the CRC of two words is a byte
two_byte : (upper lower : ℕ) → upper < 2 ^ 64 → lower < 2 ^ 64 → crc_of_two upper lower < 256
two_byte upper lower hu hl = rw (← down_two upper lower hu hl) (mod-lt _ (pow_pos 8))

module _ (bytes : List ℕ) (t : Digits 256 bytes) where
  pub word_first : (c f : ℕ) → c < 256 → 1 ≤ f → f ≤ 8 → 8 ≤ length bytes
      → crc_from (crc_of_two 0 (shl (bit_xor (word_of (part 0 8 bytes)) c) (64 - 8 * f))) (drop f bytes) ≡ crc_from c bytes
  word_first c f hc some most h =
      let w = word_of (part 0 8 bytes) in
      let shifted = shl (bit_xor w c) (64 - 8 * f) in
      let byte : c < 2 ^ (f * 8) = lt_of_lt_of_le hc (pow_mono {i = 8} {j = f * 8} (omega arith)) in
      let first : crc_of_two 0 shifted ≡ turns (f * 8) (bit_xor c (word_of (part 0 f bytes))) =
      ap (λ (z : ℕ). turns 64 (bit_xor z shifted)) (at_zero (turns_linear 64))
      ∙ turns_cut (bit_xor w c) (f * 8) (64 - 8 * f) (omega arith)
      ∙ ap (turns (f * 8))
      (xor_mod w c (f * 8)
      ∙ ap₂ bit_xor (sym (word_take f (take 8 bytes) (digits_part bytes 0 8 t)) ∙ ap word_of (take-take f 8 bytes most)) (mod-eq_of_lt byte)
      ∙ xor_comm (word_of (take f bytes)) c) in
      rw first (rw (zero-add f) at (crc_rest bytes t c 0 f hc (omega arith)))

  pub word_next : (upper lower i : ℕ) → upper < 2 ^ 64 → lower < 2 ^ 64 → i + 8 ≤ length bytes
      → crc_from (crc_of_two (bit_xor lower (shl upper 63)) (bit_xor (word_of (part i 8 bytes)) (upper / 2))) (drop (i + 8) bytes)
      ≡ crc_from (crc_of_two upper lower) (drop i bytes)
  word_next upper lower i hu hl h =
      rw (two_next upper lower (word_of (part i 8 bytes)) hu) (crc_rest bytes t (crc_of_two upper lower) i 8 (two_byte upper lower hu hl) h)
