-- The path of a reply (document 01, 'Reply' and 'Owner'; 001, 5.1.6).
use Rattle.std.specs.Prelude.{Bool, true, false, ◌&&◌, List, [], ◌∷◌, ◌++◌, ℕ, zero, suc, ◌-◌, eqb, length, drop, replicate}
use Rattle.packets.specs.declared.path.Path.{Path}

-- The reply address without leading zeros.
unfoldable pub without_leading_zeros : List ℕ → List ℕ
without_leading_zeros [] = []
without_leading_zeros (zero ∷ a) = without_leading_zeros a
without_leading_zeros (suc b ∷ a) = suc b ∷ a

-- One zero byte where nothing is left.
unfoldable pub or_one_zero : List ℕ → List ℕ
or_one_zero [] = 0 ∷ []
or_one_zero (b ∷ a) = b ∷ a

-- The path: none where r = 0; one zero byte where r > 0 and all are zero.
unfoldable pub path_of : List ℕ → List ℕ
path_of [] = []
path_of (b ∷ a) = or_one_zero (without_leading_zeros (b ∷ a))

-- The path is kept as twelve bytes, zeros first, with its count.
abbrev pub kept : List ℕ → Path
kept a = record { bytes = replicate (12 - length (path_of a)) 0 ++ path_of a; count = length (path_of a) }

-- The path that is kept: the last `count` of the twelve bytes, and all of them were the count above twelve.
abbrev pub path_bytes : Path → List ℕ
path_bytes k = drop (12 - k.count) k.bytes

-- Whether two rows of bytes are as long and have the same bytes.
abbrev pub same_bytes : List ℕ → List ℕ → Bool
same_bytes [] [] = true
same_bytes [] (y ∷ ys) = false
same_bytes (x ∷ xs) [] = false
same_bytes (x ∷ xs) (y ∷ ys) = eqb x y && same_bytes xs ys

-- All twelve bytes and the count are compared.
unfoldable pub same_path : Path → Path → Bool
same_path k l = same_bytes k.bytes l.bytes && eqb k.count l.count
