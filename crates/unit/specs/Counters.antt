-- The eleven counters (document 01, 'Numbers a caller gets').
use Rattle.std.specs.Prelude.{ℕ, ◌+◌, ◌-◌, ◌%◌, ◌^◌, cond, List, nat_lt, slice_index, slice_set}
use Rattle.unit.specs.Fate.{fate_number}
use Rattle.unit.specs.declared.fate.Fate.{Fate}

-- One more at a place, modulo 2^32.
abbrev pub bumped_at : ℕ → List ℕ → List ℕ
bumped_at place counters = slice_set counters place ((slice_index counters place + 1) % 2 ^ 32)

-- One counter each for 11 to 20, in this order, and one for the total.
abbrev pub counter_of : Fate → ℕ
counter_of fate = fate_number fate - 11

abbrev pub total : ℕ
total = 10

-- A fate is counted in its own and in the total. The fates below 11 count nothing.
unfoldable pub counted_for : Fate → List ℕ → List ℕ
counted_for fate counters =
    cond (nat_lt (fate_number fate) 11) counters (bumped_at total (bumped_at (counter_of fate) counters))
