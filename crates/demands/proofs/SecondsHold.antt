-- The wrap goes to the nearest second: `nearest_is` and its neighbours, which are arithmetic. Between two wraps ET is what it was and what came on top,
-- by induction along the calls; and behind a whole second `nearest_after` says what the wrap makes of that.
use mathlib.Core.Path.{◌≡◌, refl, ◌∙◌, ap}
use mathlib.Core.Bool.{true}
use mathlib.Core.Logic.{◌⊎◌, inl, inr}
use mathlib.Core.List.{List, [], ◌∷◌}
use Prim.Native.Nat.{ℕ, ◌+◌, ◌*◌, ◌/◌, ◌%◌, ◌^◌, ◌<◌, ◌≤◌}
use Rattle.std.proofs.Common.{Option, None}
use native.Mathlib.Omega.{arith}
use Rattle.unit.specs.Usable.{usable_unit}
use Rattle.unit.specs.Clock.{nearest_second, after_code, after_ticks}
use Rattle.unit.specs.Calls.{take_packet, take_time_code, take_ticks}
use Rattle.unit.specs.declared.clock.Clock.{Clock}
use Rattle.unit.specs.declared.clock.Elapsed.{Elapsed}
use Rattle.unit.specs.declared.unit.Unit.{Unit as TheUnit}
use Rattle.unit.proofs.ClockLaws.{Shows, nearest_is, nearest_near, nearest_after, ticks_add, code_wraps, code_next, code_other}
use Rattle.unit.proofs.CommandLaws.{time_stays}
use Rattle.unit.proofs.UsableLaws.{et_fits, usable_packet, usable_code, usable_ticks}
use Rattle.demands.specs.Terminal.{ours, Call, packet, time_code, ticks, after, Every}
use Rattle.demands.specs.Bounds.{OfBytes}
use Rattle.demands.specs.Seconds.{et_of, OthersLeaveTime, WrapsAlone, ahead, WrapMovesHalf, OneIsNearest, begun, Turns, GoesUp, ticks_in, OnlyTicks, TicksAreSeconds, OneSecond, InOrder, OneSecondInOrder}

-- the parts of a clock
abbrev value : Clock → ℕ
value c = c.elapsed.value

abbrev code : Clock → ℕ
code c = c.last

abbrev held : Clock → Option Elapsed
held c = c.waiting

-- what a Time-Code, and ticks, make of the clock of a usable unit
code_clock : (u : TheUnit) (byte : ℕ) → usable_unit u ≡ true → (take_time_code u byte).unit.clock ≡ after_code u.clock (byte % 2 ^ 6)
unfolding take_time_code
code_clock u byte works = rw works

ticks_clock : (u : TheUnit) (n : ℕ) → usable_unit u ≡ true → (take_ticks u n).unit.clock ≡ after_ticks u.clock n
unfolding take_ticks
ticks_clock u n works = rw works

pub others_leave_time : OthersLeaveTime ours
others_leave_time = time_stays

-- ---- a wrap

wrapped : (u : TheUnit) (byte : ℕ) → WrapsAlone u byte → Shows (take_time_code u byte).unit.clock 0 (nearest_second (et_of u)) u.clock.elapsed.epoch None
wrapped u byte w =
    let e = code_clock u byte w.0 ∙ ap (after_code u.clock) w.2.1 in
    rw e (code_wraps u.clock w.2.0 w.1)

pub wrap_moves_half : WrapMovesHalf ours
wrap_moves_half u byte w =
    let fits = et_fits u w.0 in
    let e = nearest_is (et_of u) fits in
    rw (wrapped u byte w).1 (omega (arith, e), omega (arith, e), nearest_near (et_of u) fits)

pub one_is_nearest : OneIsNearest
one_is_nearest et one other fits a b = go a.2 b.2
  where
    go : (ahead et one ≤ 2 ^ 23) ⊎ (ahead one et < 2 ^ 23) → (ahead et other ≤ 2 ^ 23) ⊎ (ahead other et < 2 ^ 23) → one ≡ other
    go (inl x) (inl y) = omega (arith, fits, a.0, a.1, b.0, b.1, x, y)
    go (inl x) (inr y) = omega (arith, fits, a.0, a.1, b.0, b.1, x, y)
    go (inr x) (inl y) = omega (arith, fits, a.0, a.1, b.0, b.1, x, y)
    go (inr x) (inr y) = omega (arith, fits, a.0, a.1, b.0, b.1, x, y)

-- ---- along the calls between two wraps

-- where only ticks come they are added up, and nothing comes to wait
only_ticks : (u : TheUnit) (cs : List Call) → usable_unit u ≡ true → Every OfBytes cs → OnlyTicks ours u cs
    → (et_of (after ours u cs) ≡ (et_of u + ticks_in cs) % 2 ^ 56) × ((after ours u cs).clock.waiting ≡ u.clock.waiting)
unfolding after ticks_in
only_ticks u [] works b h = let fits = et_fits u works in (omega (arith, fits), refl)
only_ticks u (packet p lent ∷ cs) works b h =
    let rest = only_ticks (take_packet u p lent).answer.unit cs (usable_packet u p lent b.0 ∙ works) b.1 h.1 in
    let stays = time_stays u p lent h.0 in
    (rest.0 ∙ rw (ap (λ (e : Elapsed). e.value) stays.0), rest.1 ∙ stays.1)
only_ticks u (time_code byte ∷ cs) works b h =
    let rest = only_ticks (take_time_code u byte).unit cs (usable_code u byte ∙ works) b.1 h.2 in
    let e = code_clock u byte works in
    let c = code_other u.clock (byte % 2 ^ 6) (λ e f. h.1 (e, f)) h.0 in
    (rest.0 ∙ rw (ap value e ∙ c.1), rest.1 ∙ ap held e ∙ c.3)
only_ticks u (ticks n ∷ cs) works b h =
    let rest = only_ticks (take_ticks u n).unit cs (usable_ticks u n ∙ works) b.1 h in
    let e = ticks_clock u n works in
    let c = ticks_add u.clock n in
    (rest.0 ∙ omega (arith, ap value e ∙ c.1), rest.1 ∙ ap held e ∙ c.3)

-- where the Time-Codes come in order, ET is a second s, the last Time-Code's part of one, and the ticks since
abbrev Stands : ℕ → ℕ → Clock → Type 0
Stands s n c = value c ≡ (s * 2 ^ 24 + code c * 2 ^ 18 + n) % 2 ^ 56

in_order : (s n : ℕ) (u : TheUnit) (cs : List Call) → s < 2 ^ 32 → usable_unit u ≡ true → Every OfBytes cs → Stands s n u.clock → InOrder ours n u cs
    → ((m : ℕ) × (m < 2 ^ 19) × Stands s m (after ours u cs).clock) × ((after ours u cs).clock.waiting ≡ u.clock.waiting)
unfolding after
in_order s n u [] low works b stands h = ((n, h, stands), refl)
in_order s n u (packet p lent ∷ cs) low works b stands h =
    let v = (take_packet u p lent).answer.unit in
    let stays = time_stays u p lent h.0 in
    let same : Stands s n v.clock = omega (arith, stands, ap (λ (e : Elapsed). e.value) stays.0, h.1) in
    let rest = in_order s n v cs low (usable_packet u p lent b.0 ∙ works) b.1 same h.2 in
    (rest.0, rest.1 ∙ stays.1)
in_order s n u (time_code byte ∷ cs) low works b stands h =
    let v = (take_time_code u byte).unit in
    let e = code_clock u byte works ∙ ap (after_code u.clock) h.1 in
    let c = code_next u.clock in
    let begins : Stands s 0 v.clock = omega (arith, low, stands, ap value e ∙ c.1, ap code e ∙ c.0, h.0, h.1) in
    let rest = in_order s 0 v cs low (usable_code u byte ∙ works) b.1 begins h.2 in
    (rest.0, rest.1 ∙ ap held e ∙ c.3)
in_order s n u (ticks more ∷ cs) low works b stands h =
    let v = (take_ticks u more).unit in
    let e = ticks_clock u more works in
    let c = ticks_add u.clock more in
    let on : Stands s (n + more) v.clock = omega (arith, stands, ap value e ∙ c.1, ap code e ∙ c.0) in
    let rest = in_order s (n + more) v cs low (usable_ticks u more ∙ works) b.1 on h in
    (rest.0, rest.1 ∙ ap held e ∙ c.3)

-- ---- from a wrap to the next

still_usable : (u : TheUnit) (cs : List Call) → usable_unit u ≡ true → Every OfBytes cs → usable_unit (after ours u cs) ≡ true
unfolding after
still_usable u [] works b = works
still_usable u (packet p lent ∷ cs) works b = still_usable (take_packet u p lent).answer.unit cs (usable_packet u p lent b.0 ∙ works) b.1
still_usable u (time_code byte ∷ cs) works b = still_usable (take_time_code u byte).unit cs (usable_code u byte ∙ works) b.1
still_usable u (ticks n ∷ cs) works b = still_usable (take_ticks u n).unit cs (usable_ticks u n ∙ works) b.1

module _ (u : TheUnit) (first : ℕ) (between : List Call) (next : ℕ) (turns : Turns ours u first between next) where
  -- the unit behind the first wrap, and the whole second that it stands at
  abbrev v : TheUnit
  v = begun ours u first

  abbrev second : ℕ
  second = (et_of u + 2 ^ 23) / 2 ^ 24 % 2 ^ 32

  begins : et_of v ≡ second * 2 ^ 24
  begins = (wrapped u first turns.0).1 ∙ nearest_is (et_of u) (et_fits u turns.0.0)

  works : usable_unit v ≡ true
  works = usable_code u first ∙ turns.0.0

  -- the next wrap, where ET has got on by so many ticks, and still nothing waits
  turned_by : (d : ℕ) → et_of (after ours v between) ≡ (second * 2 ^ 24 + d) % 2 ^ 56 → (after ours v between).clock.waiting ≡ v.clock.waiting
      → GoesUp ((d + 2 ^ 23) / 2 ^ 24) ours u first between next
  turned_by d on still =
      let w = after ours v between in
      let e = (wrapped w next (still_usable v between works turns.1, still ∙ (wrapped u first turns.0).3, turns.2)).1 in
      e ∙ ap nearest_second on ∙ nearest_after second d (omega arith) ∙ omega (arith, begins)

  ticks_seconds : OnlyTicks ours v between → GoesUp ((ticks_in between + 2 ^ 23) / 2 ^ 24) ours u first between next
  ticks_seconds h =
      let on = only_ticks v between works turns.1 h in
      turned_by (ticks_in between) (rw (← begins) on.0) on.1

  -- ET is at 63 parts of 64 and fewer than 2^19 ticks
  order_second : InOrder ours 0 v between → GoesUp 1 ours u first between next
  order_second h =
      let zero = (wrapped u first turns.0).0 in
      let on = in_order second 0 v between (omega arith) works turns.1 (omega (arith, begins, zero)) h in
      let m = on.0.0 in
      let few = on.0.1 in
      let e = turned_by (63 * 2 ^ 18 + m) (on.0.2 ∙ omega (arith, turns.2.0)) on.1 in
      e ∙ omega (arith, few)

pub ticks_are_seconds : TicksAreSeconds ours
ticks_are_seconds = ticks_seconds

pub one_second : OneSecond ours
one_second u first between next turns h low high = ticks_seconds u first between next turns h ∙ omega (arith, low, high)

pub one_second_in_order : OneSecondInOrder ours
one_second_in_order = order_second
