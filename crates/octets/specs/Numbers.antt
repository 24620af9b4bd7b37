-- Numbers in bytes, most significant byte first (document 01, 'Reading a packet' and 'Time'; 001, 5.1.8 c, 5.1.10 b, 5.1.11 b).
use Rattle.std.specs.Prelude.{List, [], ◌∷◌, Bool, cond, Option, Some, None, ◌&&◌, ℕ, zero, suc, ◌+◌, ◌*◌, ◌/◌, ◌%◌, ◌^◌, ◌<◌, leb, ltb, length}
use Rattle.octets.specs.Places.{within, part, placed}

-- What digits are worth in a base: each weighs the base to the power of how many come after it.
abbrev pub worth : ℕ → List ℕ → ℕ
worth base [] = 0
worth base (d ∷ ds) = d * base ^ length ds + worth base ds

-- The lowest `width` digits of n in a base, most significant first.
abbrev pub digits : ℕ → ℕ → ℕ → List ℕ
digits base zero n = []
digits base (suc width) n = n / base ^ width % base ∷ digits base width n

-- Digits of a base: each is below it. Bytes are digits of base 256.
abbrev pub Digits : ℕ → List ℕ → Type 0
Digits base [] = Unit
Digits base (d ∷ ds) = (d < base) × Digits base ds

-- The number that bytes are worth.
abbrev pub number : List ℕ → ℕ
number bytes = worth 256 bytes

-- The lowest `width` bytes of a number.
abbrev pub bytes_of : ℕ → ℕ → List ℕ
bytes_of width n = digits 256 width n

-- What stands at `at` as a number of `width` bytes: none where not all of them are there, or where they are over eight.
unfoldable pub read_number : List ℕ → ℕ → ℕ → Option ℕ
read_number s at width = cond (leb width 8 && within at width s) (Some (number (part at width s))) None

-- n can be written at `at` in `width` bytes: they are at most eight, n is below 256^width, and the places are there.
abbrev pub number_fits : List ℕ → ℕ → ℕ → ℕ → Bool
number_fits d at width n = leb width 8 && ltb n (256 ^ width) && within at width d

-- What d holds after that: all of the number, or what it held.
unfoldable pub written : List ℕ → ℕ → ℕ → ℕ → List ℕ
written d at width n = cond (number_fits d at width n) (placed at (bytes_of width n) d) d
