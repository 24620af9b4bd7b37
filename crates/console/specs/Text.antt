-- Text on its way to standard output: the first bytes of a space of 256 are held, and not written yet.
use Rattle.std.specs.Prelude.{List, [], ◌++◌, cond, ℕ, ◌-◌, ltb, length}

-- How many bytes the space holds.
abbrev pub space : ℕ
space = 256

-- What is held after bytes more: they stand behind what was. Where they do not fit there, what was held is written, and where they fit nowhere, so are they.
abbrev pub held_after : List ℕ → List ℕ → List ℕ
held_after bytes before =
    cond (ltb (space - length before) (length bytes)) (cond (ltb space (length bytes)) [] bytes) (before ++ bytes)
