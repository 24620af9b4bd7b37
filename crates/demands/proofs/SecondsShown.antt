-- The terminal of before request 3 is shut out: wraps for which it gets a second ahead. Ours meets what is asked of the calls between these wraps too, so what is
-- said of it is said of something.
use mathlib.Core.Path.{◌≡◌, refl, ◌∙◌, ap}
use mathlib.Core.Bool.{true}
use mathlib.Core.Logic.{◌⊎◌, inl, inr}
use mathlib.Core.List.{List, [], ◌∷◌}
use Prim.Native.Nat.{ℕ, zero, suc, ◌+◌, ◌*◌, ◌/◌, ◌%◌, ◌^◌, ◌<◌, ◌≤◌}
use Rattle.std.proofs.Common.{None}
use native.Mathlib.Omega.{arith}
use borrow.Author.Tests.{lt-ltb, le-leb, eq-eqb, ne_eqb}
use Rattle.unit.specs.Usable.{usable_unit}
use Rattle.unit.specs.Clock.{nearest_second, after_code, after_ticks}
use Rattle.unit.specs.Act.{with_clock}
use Rattle.unit.specs.Calls.{take_time_code, take_ticks}
use Rattle.unit.specs.declared.unit.Unit.{Unit as TheUnit}
use Rattle.demands.specs.Terminal.{Terminal, ours, Call, time_code, ticks, after, Every}
use Rattle.demands.specs.Bounds.{OfBytes}
use Rattle.demands.specs.Seconds.{et_of, ahead, WrapMovesHalf, begun, turned, Turns, GoesUp, ticks_in, OnlyTicks, OneSecond, InOrder, OneSecondInOrder, SomeTurn}
use Rattle.demands.specs.Impostors.{second_ahead}
use Rattle.demands.proofs.Witnesses.{unit}

-- a unit whose last Time-Code was v, with an ET; and the same at the Time-Code's part of a second s
abbrev at : ℕ → ℕ → TheUnit
at v et = with_clock (unit 0) (record { last = v; elapsed = record { value = et; epoch = 0x9F }; waiting = None })

abbrev on : ℕ → ℕ → TheUnit
on s v = at v (s * 2 ^ 24 + v * 2 ^ 18)

-- a second and a tick between two wraps: all Time-Codes are lost but 63
abbrev lost : List Call
lost = ticks (2 ^ 24 + 1) ∷ time_code 63 ∷ []

-- the same, where so many of them come, from v on; and ticks for a part of 64 and one more in front of each, and behind the last
come : ℕ → ℕ → List Call
come zero v = ticks (2 ^ 18 + 1) ∷ []
come (suc k) v = ticks (2 ^ 18 + 1) ∷ time_code v ∷ come k (v + 1)

abbrev all : List Call
all = come 63 1

works_at : (v et : ℕ) → v ≤ 63 → et < 2 ^ 56 → usable_unit (at v et) ≡ true
unfolding usable_unit
works_at v et h k = rw (le-leb v 63 h, lt-ltb et (2 ^ 56) k)

ticked : (v et n : ℕ) → v ≤ 63 → et < 2 ^ 56 → (take_ticks (at v et) n).unit ≡ at v ((et + n) % 2 ^ 56)
unfolding take_ticks after_ticks
ticked v et n h k = rw (works_at v et h k)

-- the next Time-Code, to either terminal
abbrev Coded : Terminal → Type 0
Coded t = (v et : ℕ) → v < 63 → et < 2 ^ 56 → (t.time_code (at v et) (v + 1)).unit ≡ at (v + 1) (et / 2 ^ 24 * 2 ^ 24 + (v + 1) * 2 ^ 18)

coded : Coded ours
unfolding take_time_code after_code
coded v et h k =
    let low : (v + 1) % 2 ^ 6 ≡ v + 1 = omega (arith, h) in
    rw (works_at v et (omega (arith, h)) k, low, ne_eqb v 63 (λ e. omega (arith, e, h)), eq-eqb (v + 1) (v + 1) refl)

-- it is no wrap, so the other does as ours
coded_ahead : Coded second_ahead
unfolding take_time_code
coded_ahead v et h k = rw (ne_eqb v 63 (λ e. omega (arith, e, h))) (coded v et h k)

module _ (t : Terminal) (same : (u : TheUnit) (n : ℕ) → (t.ticks u n).unit ≡ (take_ticks u n).unit) (next : Coded t) where
  -- ticks for a part of 64 and one more; and then the next Time-Code
  abbrev more : ℕ
  more = 2 ^ 18 + 1

  ran : (s v : ℕ) → s < 2 ^ 31 → v ≤ 63 → (t.ticks (on s v) more).unit ≡ at v (s * 2 ^ 24 + v * 2 ^ 18 + more)
  ran s v low h = same (on s v) more ∙ ticked v (s * 2 ^ 24 + v * 2 ^ 18) more h (omega (arith, low, h)) ∙ ap (at v) (omega (arith, low, h))

  came : (s v : ℕ) → s < 2 ^ 31 → v < 63 → (t.time_code (t.ticks (on s v) more).unit (v + 1)).unit ≡ on s (v + 1)
  came s v low h =
      rw (ran s v low (omega (arith, h)))
      (next v (s * 2 ^ 24 + v * 2 ^ 18 + more) h (omega (arith, low, h)) ∙ ap (at (v + 1)) (omega (arith, low, h)))

  in_order : (k s v : ℕ) → s < 2 ^ 31 → v + k ≡ 63 → InOrder t 0 (on s v) (come k (v + 1))
  unfolding come
  in_order zero s v low h = omega arith
  in_order (suc k) s v low h = (
    omega arith,
    rw (ran s v low (omega (arith, h))) (omega (arith, h)),
    rw (came s v low (omega (arith, h))) (in_order k s (v + 1) low (omega (arith, h))),
  )

  -- at the next wrap the second has passed by itself
  passed : (k s v : ℕ) → s < 2 ^ 31 → v + k ≡ 63 → after t (on s v) (come k (v + 1)) ≡ at 63 ((s + 1) * 2 ^ 24 + 1)
  unfolding after come
  passed zero s v low h = ran s v low (omega (arith, h)) ∙ λ i. at (e i) (g i)
    where
      e : v ≡ 63
      e = omega (arith, h)

      g : s * 2 ^ 24 + v * 2 ^ 18 + more ≡ (s + 1) * 2 ^ 24 + 1
      g = omega (arith, h)
  passed (suc k) s v low h =
      ap (λ (u : TheUnit). after t u (come k (v + 1 + 1))) (came s v low (omega (arith, h))) ∙ passed k s (v + 1) low (omega (arith, h))

of_bytes : (k v : ℕ) → Every OfBytes (come k v)
unfolding come
of_bytes zero v = (tt, tt)
of_bytes (suc k) v = (tt, (tt, of_bytes k (v + 1)))

computed :
    -- behind one tick of a second it goes to the next; behind a wrap at ET 0, a second and a tick, and the next wrap, it is at 3
    (et_of (second_ahead.time_code (at 63 1) 0).unit ≡ 2 ^ 24)
    × (begun second_ahead (at 63 0) 0 ≡ on 1 0)
    × (after second_ahead (on 1 0) lost ≡ at 63 (2 * 2 ^ 24 + 1))
    × (et_of (second_ahead.time_code (at 63 (2 * 2 ^ 24 + 1)) 0).unit ≡ 3 * 2 ^ 24)
    -- ours
    × (begun ours (at 63 0) 0 ≡ on 0 0)
    × (after ours (on 0 0) lost ≡ at 63 (2 ^ 24 + 1))
unfolding after take_time_code take_ticks after_code nearest_second after_ticks usable_unit
computed = (refl, refl, refl, refl, refl, refl)

-- ---- what is asked between two wraps is met

-- from a wrap at ET 0, by calls that leave the last Time-Code at 63
turns : (t : Terminal) (v : TheUnit) (et : ℕ) (between : List Call) → begun t (at 63 0) 0 ≡ v → Every OfBytes between → after t v between ≡ at 63 et
    → Turns t (at 63 0) 0 between 0
turns t v et between e b g = (
  (works_at 63 0 (omega arith) (omega arith), refl, (refl, refl)),
  b,
  (ap (λ (u : TheUnit). u.clock.last) (ap (λ (u : TheUnit). after t u between) e ∙ g), refl),
)

-- 63 is neither the next Time-Code behind 0 nor a wrap
only_lost : (t : Terminal) (v : TheUnit) → (t.ticks v (2 ^ 24 + 1)).unit.clock.last ≡ 0 → OnlyTicks t v lost
only_lost t v last = (λ e. omega (arith, last, e), λ w. omega (arith, last, w.0), tt)

only : OnlyTicks ours (on 0 0) lost
unfolding take_ticks after_ticks usable_unit
only = only_lost ours (on 0 0) refl

only_ahead : OnlyTicks second_ahead (on 1 0) lost
unfolding take_ticks after_ticks usable_unit
only_ahead = only_lost second_ahead (on 1 0) refl

ticks_lost : ticks_in lost ≡ 2 ^ 24 + 1
unfolding ticks_in
ticks_lost = refl

passed_ours : after ours (on 0 0) all ≡ at 63 (2 ^ 24 + 1)
passed_ours = passed ours (λ u n. refl) coded 63 0 0 (omega arith) refl

passed_ahead : after second_ahead (on 1 0) all ≡ at 63 (2 * 2 ^ 24 + 1)
passed_ahead = passed second_ahead (λ u n. refl) coded_ahead 63 1 0 (omega arith) refl

pub some_turn : SomeTurn ours
some_turn = (
  (
    at 63 0,
    0,
    lost,
    0,
    turns ours (on 0 0) (2 ^ 24 + 1) lost computed.4 (tt, (tt, tt)) computed.5,
    rw computed.4 only,
    rw ticks_lost (omega arith),
    rw ticks_lost (omega arith),
  ),
  (
    at 63 0,
    0,
    all,
    0,
    turns ours (on 0 0) (2 ^ 24 + 1) all computed.4 (of_bytes 63 1) passed_ours,
    rw computed.4 (in_order ours (λ u n. refl) coded 63 0 0 (omega arith) refl),
  ),
)

-- ---- the terminal of before is a second ahead

pub ahead_moves_more : WrapMovesHalf second_ahead → ⊥
ahead_moves_more moves = go (moves (at 63 1) 0 (works_at 63 1 (omega arith) (omega arith), refl, (refl, refl))).2
  where
    go : (ahead 1 (et_of (second_ahead.time_code (at 63 1) 0).unit) ≤ 2 ^ 23) ⊎ (ahead (et_of (second_ahead.time_code (at 63 1) 0).unit) 1 < 2 ^ 23) → ⊥
    go (inl x) = omega (arith, computed.0, x)
    go (inr x) = omega (arith, computed.0, x)

-- whatever came between the two wraps: it is at 3 and not at 2
two_seconds : (between : List Call) → after second_ahead (on 1 0) between ≡ at 63 (2 * 2 ^ 24 + 1) → GoesUp 1 second_ahead (at 63 0) 0 between 0 → ⊥
two_seconds between g up =
    let v = begun second_ahead (at 63 0) 0 in
    let w : after second_ahead v between ≡ at 63 (2 * 2 ^ 24 + 1) = ap (λ (u : TheUnit). after second_ahead u between) computed.1 ∙ g in
    let three : et_of (turned second_ahead (at 63 0) 0 between 0) ≡ 3 * 2 ^ 24 = ap (λ (u : TheUnit). et_of (second_ahead.time_code u 0).unit) w ∙ computed.3 in
    omega (arith, up, three, ap et_of computed.1)

pub ahead_by_ticks : OneSecond second_ahead → ⊥
ahead_by_ticks meets =
    two_seconds lost computed.2
    (meets (at 63 0) 0 lost 0 (turns second_ahead (on 1 0) (2 * 2 ^ 24 + 1) lost computed.1 (tt, (tt, tt)) computed.2) (rw computed.1 only_ahead)
    (rw ticks_lost (omega arith)) (rw ticks_lost (omega arith)))

pub ahead_in_order : OneSecondInOrder second_ahead → ⊥
ahead_in_order meets =
    two_seconds all passed_ahead
    (meets (at 63 0) 0 all 0 (turns second_ahead (on 1 0) (2 * 2 ^ 24 + 1) all computed.1 (of_bytes 63 1) passed_ahead)
    (rw computed.1 (in_order second_ahead (λ u n. refl) coded_ahead 63 1 0 (omega arith) refl)))
