-- Why the Time-Code's wrap goes to the nearest second (document 01, 'Time', as request 3 of document 02 has it): it moves ET little, and an oscillator that is
-- fast or slow by less than half a second does not show, where of the Time-Codes between two wraps all come, or none that sets the fraction. All of it is about
-- wraps at which no value waits; a waiting value becomes ET, whatever ET is.
use Rattle.std.specs.Prelude.{◌≡◌, true, ◌⊎◌, ◌≢◌, List, [], ◌∷◌, ℕ, ◌+◌, ◌-◌, ◌/◌, ◌%◌, ◌^◌, ◌<◌, ◌≤◌, None}
use Rattle.unit.specs.Fate.{fate_number}
use Rattle.unit.specs.Usable.{usable_unit}
use Rattle.unit.specs.Clock.{seconds_of, fraction_of, time_of}
use Rattle.unit.specs.Given.{Arrived, Lent}
use Rattle.unit.specs.declared.unit.Unit.{Unit as TheUnit}
use Rattle.demands.specs.Terminal.{Terminal, Call, packet, time_code, ticks, after, Every}
use Rattle.demands.specs.Bounds.{OfBytes}

-- ET, as a number of ticks: 2^24 of them are a second.
abbrev pub et_of : TheUnit → ℕ
et_of u = u.clock.elapsed.value

-- The packet is no time packet that is taken: it has another fate than 19.
abbrev pub NotTaken : Terminal → TheUnit → Arrived → Lent → Type 0
NotTaken t u p lent = fate_number (t.packet u p lent).answer.fate ≢ 19

-- Then it leaves ET, with its epoch code, and what waits.
abbrev pub OthersLeaveTime : Terminal → Type 0
OthersLeaveTime t =
    (u : TheUnit) (p : Arrived) (lent : Lent) → NotTaken t u p lent
    → ((t.packet u p lent).answer.unit.clock.elapsed ≡ u.clock.elapsed) × ((t.packet u p lent).answer.unit.clock.waiting ≡ u.clock.waiting)

-- ---- a wrap

-- Time-Code 0 behind 63; and that to a usable unit in which no value waits.
abbrev pub Wraps : TheUnit → ℕ → Type 0
Wraps u byte = (u.clock.last ≡ 63) × (byte % 2 ^ 6 ≡ 0)

abbrev pub WrapsAlone : TheUnit → ℕ → Type 0
WrapsAlone u byte = (usable_unit u ≡ true) × (u.clock.waiting ≡ None) × Wraps u byte

-- How far ET is ahead of an earlier one, modulo 2^56.
abbrev pub ahead : ℕ → ℕ → ℕ
ahead earlier et = (et + 2 ^ 56 - earlier) % 2 ^ 56

-- A whole second that is ahead of ET by at most half a second, or behind it by less.
abbrev pub Nearest : ℕ → ℕ → Type 0
Nearest et second = (second < 2 ^ 56) × (fraction_of second ≡ 0) × ((ahead et second ≤ 2 ^ 23) ⊎ (ahead second et < 2 ^ 23))

-- A wrap goes there, and so moves ET by at most half a second either way.
abbrev pub WrapMovesHalf : Terminal → Type 0
WrapMovesHalf t = (u : TheUnit) (byte : ℕ) → WrapsAlone u byte → Nearest (et_of u) (et_of (t.time_code u byte).unit)

-- No other rule does: there is one such second.
abbrev pub OneIsNearest : Type 0
OneIsNearest = (et one other : ℕ) → et < 2 ^ 56 → Nearest et one → Nearest et other → one ≡ other

-- ---- from a wrap to the next

-- The unit behind a wrap; and behind a wrap, the calls after it, and the next wrap.
abbrev pub begun : Terminal → TheUnit → ℕ → TheUnit
begun t u first = (t.time_code u first).unit

abbrev pub turned : Terminal → TheUnit → ℕ → List Call → ℕ → TheUnit
turned t u first between next = (t.time_code (after t (begun t u first) between) next).unit

-- Two wraps, and calls of bytes between them; at the first no value waits.
abbrev pub Turns : Terminal → TheUnit → ℕ → List Call → ℕ → Type 0
Turns t u first between next = WrapsAlone u first × Every OfBytes between × Wraps (after t (begun t u first) between) next

-- From the one wrap to the other, seconds go up by n (modulo 2^32), and the fraction is 0.
abbrev pub GoesUp : ℕ → Terminal → TheUnit → ℕ → List Call → ℕ → Type 0
GoesUp n t u first between next = et_of (turned t u first between next) ≡ time_of ((seconds_of (et_of (begun t u first)) + n) % 2 ^ 32) 0

-- The ticks of a history.
unfoldable pub ticks_in : List Call → ℕ
ticks_in [] = 0
ticks_in (packet p lent ∷ cs) = ticks_in cs
ticks_in (time_code byte ∷ cs) = ticks_in cs
ticks_in (ticks n ∷ cs) = n + ticks_in cs

-- Of the time, only ticks come: no time packet is taken, and a Time-Code is neither the next one nor a wrap. (63 has to come, or there is no next wrap.)
abbrev pub OnlyTicks : Terminal → TheUnit → List Call → Type 0
OnlyTicks t u [] = Unit
OnlyTicks t u (packet p lent ∷ cs) = NotTaken t u p lent × OnlyTicks t (t.packet u p lent).answer.unit cs
OnlyTicks t u (time_code byte ∷ cs) = (byte % 2 ^ 6 ≢ u.clock.last + 1) × (Wraps u byte → ⊥) × OnlyTicks t (t.time_code u byte).unit cs
OnlyTicks t u (ticks n ∷ cs) = OnlyTicks t (t.ticks u n).unit cs

-- Then seconds go up by as many as are nearest to the ticks;
abbrev pub TicksAreSeconds : Terminal → Type 0
TicksAreSeconds t =
    (u : TheUnit) (first : ℕ) (between : List Call) (next : ℕ) → Turns t u first between next → OnlyTicks t (begun t u first) between
    → GoesUp ((ticks_in between + 2 ^ 23) / 2 ^ 24) t u first between next

-- by exactly one where the oscillator is slow by at most half a second, or fast by less.
abbrev pub OneSecond : Terminal → Type 0
OneSecond t =
    (u : TheUnit) (first : ℕ) (between : List Call) (next : ℕ) → Turns t u first between next → OnlyTicks t (begun t u first) between
    → 2 ^ 23 ≤ ticks_in between → ticks_in between < 2 ^ 24 + 2 ^ 23
    → GoesUp 1 t u first between next

-- All Time-Codes come, in their order, which is what the link should bring, and between each two of them fewer than 2^19 ticks, where a right oscillator makes
-- 2^18; n have come since the last one. No time packet is taken, and nobody resets the Time-Code counter.
abbrev pub InOrder : Terminal → ℕ → TheUnit → List Call → Type 0
InOrder t n u [] = n < 2 ^ 19
InOrder t n u (packet p lent ∷ cs) =
    NotTaken t u p lent × ((t.packet u p lent).answer.unit.clock.last ≡ u.clock.last) × InOrder t n (t.packet u p lent).answer.unit cs
InOrder t n u (time_code byte ∷ cs) = (n < 2 ^ 19) × (byte % 2 ^ 6 ≡ u.clock.last + 1) × InOrder t 0 (t.time_code u byte).unit cs
InOrder t n u (ticks more ∷ cs) = InOrder t (n + more) (t.ticks u more).unit cs

-- Then too seconds go up by exactly one.
abbrev pub OneSecondInOrder : Terminal → Type 0
OneSecondInOrder t =
    (u : TheUnit) (first : ℕ) (between : List Call) (next : ℕ) → Turns t u first between next → InOrder t 0 (begun t u first) between
    → GoesUp 1 t u first between next

-- Neither is said of nothing: there are such calls.
abbrev pub SomeTurn : Terminal → Type 0
SomeTurn t =
    ((u : TheUnit) × (first : ℕ) × (between : List Call) × (next : ℕ) × Turns t u first between next × OnlyTicks t (begun t u first) between
    × (2 ^ 23 ≤ ticks_in between) × (ticks_in between < 2 ^ 24 + 2 ^ 23))
    × ((u : TheUnit) × (first : ℕ) × (between : List Call) × (next : ℕ) × Turns t u first between next × InOrder t 0 (begun t u first) between)
