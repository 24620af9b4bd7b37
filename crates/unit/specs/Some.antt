-- A test along a list.
use Rattle.std.specs.Prelude.{Bool, List}
use Rattle.std.specs.List.{list_any}

-- Whether one of a list passes a test.
abbrev pub some : {A : Type 0} → (A → Bool) → List A → Bool
some p xs = list_any p xs
