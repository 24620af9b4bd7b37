-- What the quicker ways to the CRC go by: a shift register, bytes as one number, and rows added up. Only functions that nobody else can call
-- promise anything in these words; the function `crc_from` promises the definition of that name, in Crc.
use Rattle.std.specs.Prelude.{List, [], ◌∷◌, ◌++◌, ℕ, zero, suc, ◌+◌, ◌*◌, ◌/◌, ◌%◌, take, drop}
use Rattle.std.specs.Int.Bits.{bit_xor}

-- A turn of the shift register (001, Annex A.2): the lowest bit leaves it, and where that is a 1, x^2 + x + 1 comes in, mirrored: x^8 modulo g(x).
unfoldable pub turn : ℕ → ℕ
turn c = bit_xor (c / 2) (c % 2 * 0b11100000)

-- So many turns. Of a word, as many as it has bits are the CRC of its bytes: crc_word, a law.
unfoldable pub turns : ℕ → ℕ → ℕ
turns zero c = c
turns (suc n) c = turns n (turn c)

-- So of two words of 64 bits, the upper one first, it is this: the first has been turned out of the register when the second comes in.
abbrev pub crc_of_two : ℕ → ℕ → ℕ
crc_of_two upper lower = turns 64 (bit_xor (turns 64 upper) lower)

-- Bytes as one number, the first of them lowest: the bits lie as they are sent, from the lowest up.
abbrev pub word_of : List ℕ → ℕ
word_of [] = 0
word_of (b ∷ bs) = word_of bs * 256 + b

-- Two rows of bytes added, each byte to the one in its place. What one has more is left out.
abbrev pub added : List ℕ → List ℕ → List ℕ
added [] ys = []
added (x ∷ xs) [] = []
added (x ∷ xs) (y ∷ ys) = bit_xor x y ∷ added xs ys

-- The same from place `from` on; what stands before it is left as it is.
abbrev pub added_from : ℕ → List ℕ → List ℕ → List ℕ
added_from from xs ys = take from xs ++ added (drop from xs) (drop from ys)
