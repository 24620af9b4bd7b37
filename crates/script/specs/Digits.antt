-- Numbers and bytes, in hexadecimal digits.
use Rattle.std.specs.Prelude.{List, [], ◌∷◌, map, cond, ℕ, ◌+◌, ◌-◌, ◌*◌, ◌%◌, ◌^◌, eqb, ltb}
use Rattle.octets.specs.Numbers.{worth}

-- The byte of a space.
abbrev pub space : ℕ
space = 32

-- What a digit is worth: 0 to 9 are the bytes 48 to 57, a to f, in lower case, 97 to 102. Any other byte is worth something below 16 too.
unfoldable pub digit_of : ℕ → ℕ
digit_of c = cond (ltb c 97) (c % 16) ((c - 97) % 6 + 10)

-- What two of them are worth, as a byte.
abbrev pub pair_of : ℕ → ℕ → ℕ
pair_of a b = digit_of a * 16 + digit_of b

-- The number that digits say, as far as 64 bits hold it.
unfoldable pub number_in : List ℕ → ℕ
number_in s = worth 16 (map digit_of s) % 2 ^ 64

-- Bytes of two digits each. Spaces before a byte are passed over, and so is a last digit that stands alone.
unfoldable pub bytes_in : List ℕ → List ℕ
bytes_in [] = []
bytes_in (a ∷ []) = []
bytes_in (a ∷ b ∷ s) = cond (eqb a space) (bytes_in (b ∷ s)) (pair_of a b ∷ bytes_in s)
