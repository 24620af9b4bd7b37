-- Counters are the history (document 01, 'Numbers a caller gets').
use Rattle.std.specs.Prelude.{◌≡◌, cond, List, [], ◌∷◌, ℕ, ◌+◌, ◌-◌, ◌%◌, ◌^◌, ◌≤◌, eqb, length, get_or}
use Rattle.octets.specs.Numbers.{Digits}
use Rattle.unit.specs.Fate.{fate_number}
use Rattle.unit.specs.Counters.{total}
use Rattle.unit.specs.declared.fate.Fate.{Fate}
use Rattle.unit.specs.declared.unit.Unit.{Unit as TheUnit}
use Rattle.demands.specs.Terminal.{Terminal, Call, answer_to, after, fates_of}

-- How many of the fates have a number.
unfoldable pub count_of : ℕ → List Fate → ℕ
count_of number [] = 0
count_of number (f ∷ fs) = cond (eqb (fate_number f) number) 1 0 + count_of number fs

-- How many have one of the numbers that are counted.
abbrev pub count_of_all : List Fate → ℕ
count_of_all fs =
    count_of 11 fs + count_of 12 fs + count_of 13 fs + count_of 14 fs + count_of 15 fs
    + count_of 16 fs + count_of 17 fs + count_of 18 fs + count_of 19 fs + count_of 20 fs

-- Eleven counters of 32 bits, as the unit's type has them.
abbrev pub Counting : TheUnit → Type 0
Counting u = (length u.counters ≡ 11) × Digits (2 ^ 32) u.counters

-- A counter that was c and has counted n is c + n, modulo 2^32: 4,294,967,295 rolls over to 0.
abbrev pub counted : ℕ → ℕ → ℕ
counted c n = (c + n) % 2 ^ 32

-- After any history, whatever memory each call was lent, the counter of each number from 11 to 20 is its start and the history's count of
-- that number, and the total is its start and all of those counts.
abbrev pub CountersAreHistory : Terminal → Type 0
CountersAreHistory t =
    (u : TheUnit) (calls : List Call) → Counting u
    → ((number : ℕ) → 11 ≤ number → number ≤ 20
    → get_or (after t u calls).counters (number - 11) 0 ≡ counted (get_or u.counters (number - 11) 0) (count_of number (fates_of t u calls)))
    × (get_or (after t u calls).counters total 0 ≡ counted (get_or u.counters total 0) (count_of_all (fates_of t u calls)))

-- The small calls (0, 1) and the fates 1, 2 and 3 count nothing.
abbrev pub LowCountNothing : Terminal → Type 0
LowCountNothing t = (u : TheUnit) (c : Call) → fate_number (answer_to t u c).fate ≤ 3 → (answer_to t u c).unit.counters ≡ u.counters
