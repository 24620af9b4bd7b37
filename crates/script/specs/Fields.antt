-- Lines, and the fields of a line.
use Rattle.std.specs.Prelude.{List, [], ◌∷◌, reverse, Bool, cond, ℕ, suc, ◌-◌, eqb, length, drop}

-- The byte that ends a line, and the one that stands between two fields.
abbrev pub line_end : ℕ
line_end = 10

abbrev pub bar : ℕ
bar = 124

-- What stands before the first `stop`; all of it where there is none.
unfoldable pub up_to : ℕ → List ℕ → List ℕ
up_to stop [] = []
up_to stop (b ∷ s) = cond (eqb b stop) [] (b ∷ up_to stop s)

-- The first field, and what stands behind its bar; nothing where there is none.
abbrev pub field_of : List ℕ → List ℕ
field_of s = up_to bar s

abbrev pub rest_of : List ℕ → List ℕ
rest_of s = drop (suc (length (field_of s))) s

-- How many bytes the whole lines of s have: all but those that come, from the back, before the first line end.
abbrev pub whole_lines : List ℕ → ℕ
whole_lines s = length s - length (up_to line_end (reverse s))

-- How many bytes of a block can be run: those of its whole lines, and where it is the last block all.
abbrev pub runnable : Bool → List ℕ → ℕ
runnable last s = cond last (length s) (whole_lines s)
