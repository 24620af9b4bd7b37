-- Parts of a list of bytes, and what a list holds after bytes were put at a place of it.
use Rattle.std.specs.Prelude.{List, ◌++◌, Bool, cond, ◌&&◌, ℕ, ◌+◌, leb, length, take, drop, replicate}

-- All of the `count` places from `at` on are there. As whole numbers: no sum wraps.
abbrev pub within : ℕ → ℕ → List ℕ → Bool
within at count s = leb (at + count) (length s)

-- The `count` bytes from `from` on.
abbrev pub part : ℕ → ℕ → List ℕ → List ℕ
part from count s = take count (drop from s)

-- d with the bytes p in the place of as many of its own, from `at` on.
abbrev pub placed : ℕ → List ℕ → List ℕ → List ℕ
placed at p d = take at d ++ p ++ drop (at + length p) d

-- The part of s, and the places of d that it is to go to, are all there.
abbrev pub copy_fits : List ℕ → ℕ → ℕ → List ℕ → ℕ → Bool
copy_fits s from count d at = within from count s && within at count d

-- What d holds after the copy: all of the part, or what it held.
unfoldable pub copied : List ℕ → ℕ → ℕ → List ℕ → ℕ → List ℕ
copied s from count d at = cond (copy_fits s from count d at) (placed at (part from count s) d) d

-- What d holds after `count` places from `at` on were filled with the byte b: all of them, or what it held.
unfoldable pub filled : List ℕ → ℕ → ℕ → ℕ → List ℕ
filled d at count b = cond (within at count d) (placed at (replicate count b) d) d
