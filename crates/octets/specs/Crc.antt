-- The CRC of RMAP, bit by bit (document 01, 'CRC'; 001, clause 5.2).
--
-- A polynomial of low degree with coefficients modulo 2 (5.2 b 1) is written as a number: bit k is the coefficient of x^k.
-- So the sum of two, which is also their difference, is their exclusive or, and twice a number is the polynomial times x.
-- m(x), which is long, is written as the list of its coefficients, that of the highest power first.
use Rattle.std.specs.Prelude.{List, [], ◌∷◌, ◌++◌, ℕ, zero, suc, ◌+◌, ◌*◌, ◌/◌, ◌%◌, replicate}
use Rattle.std.specs.Int.Bits.{bit_xor}
use Rattle.octets.specs.Numbers.{worth}

-- 5.2 b 3: g(x) = x^8 + x^2 + x + 1.
abbrev pub generator : ℕ
generator = 0b100000111

-- p(x) modulo g(x), for p(x) of degree at most 8: g(x) is taken off where p(x) has x^8, that is, where p / 256 is 1.
unfoldable pub modulo : ℕ → ℕ
modulo p = bit_xor p (p / 256 * generator)

-- Coefficients from the highest power down, modulo g(x), by Horner's rule. r is the remainder of those before; each step
-- multiplies it by x, adds the next coefficient and reduces.
unfoldable pub remainder : ℕ → List ℕ → ℕ
remainder r [] = r
remainder r (m ∷ ms) = remainder (modulo (r * 2 + m)) ms

-- 5.2 b 4: the lowest bits of a byte, as many as asked for, b0 first.
unfoldable pub bits : ℕ → ℕ → List ℕ
bits zero b = []
bits (suc count) b = b % 2 ∷ bits count (b / 2)

-- 5.2 c 1: m(x), from its highest coefficient down to m0: eight for each byte, the bytes in the order sent, of each b0 first (e).
unfoldable pub message : List ℕ → List ℕ
message [] = []
message (b ∷ bs) = bits 8 b ++ message bs

-- 5.2 c 2: r(x) = m(x) x^8 modulo g(x). Times x^8: eight coefficients more, all 0. It starts from 0 (NOTE 2).
abbrev pub remainder_of : List ℕ → ℕ
remainder_of bytes = remainder 0 (message bytes ++ replicate 8 0)

-- 5.2 c 3: r(x) as a byte, whose b0 is r7 and whose b7 is r0. So r0, which `bits` gives first, weighs most.
unfoldable pub mirrored : ℕ → ℕ
mirrored r = worth 2 (bits 8 r)

-- The CRC of bytes is that byte of theirs.
unfoldable pub crc : List ℕ → ℕ
crc bytes = mirrored (remainder_of bytes)

-- Bytes followed by their own CRC (5.2 e).
abbrev pub with_crc : List ℕ → List ℕ
with_crc bytes = bytes ++ (crc bytes ∷ [])

-- Byte by byte, going on from c, as Annex A.3 does (its table at INCRC xor INBYTE): of c xor the byte, the CRC of that one byte.
-- Where c is the CRC of what came before, this is the CRC of all of it: crc_append, a law.
unfoldable pub crc_from : ℕ → List ℕ → ℕ
crc_from c [] = c
crc_from c (b ∷ bs) = crc_from (crc (bit_xor c b ∷ [])) bs
