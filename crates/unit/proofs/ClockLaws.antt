-- Laws of the time, in document 01's words ('Time'): each test in the definition has been decided, and the rest is computed.
use Rattle.std.proofs.Common.{◌≡◌, ℕ, ◌+◌, ◌-◌, ◌*◌, ◌/◌, ◌%◌, ◌^◌, ◌<◌, ◌≤◌, Bool, true, false, ◌&&◌, eqb, ◌≢◌, ◌⊎◌, refl, ◌∙◌, inl, inr, add-zero, lt_of_not-le, arith, eq-eqb, ne_eqb, eqb-true, le-leb, Option, None, Some}
use mathlib.Core.Bool.{and-false}
use native.Mathlib.Decide.{dec_le}
use borrow.Author.Tests.{lt-leb}
use Rattle.packets.specs.declared.time.When.TheVariants.{AtWrap, AtOnce}
use Rattle.unit.specs.Clock.{after_time, nearest_second, after_code, after_ticks}
use Rattle.unit.specs.declared.clock.Elapsed.{Elapsed}
use Rattle.unit.specs.declared.clock.Clock.{Clock}

-- a clock part by part: last Time-Code, ET, epoch code, what waits
abbrev pub Shows : Clock → ℕ → ℕ → ℕ → Option Elapsed → Type 0
Shows c last et epoch waiting = (c.last ≡ last) × (c.elapsed.value ≡ et) × (c.elapsed.epoch ≡ epoch) × (c.waiting ≡ waiting)

-- ---- the second that is nearest

-- from its half on a second goes to the next one, modulo 2^32; below it, it stays; the fraction is 0
pub nearest_next : (et : ℕ) → 2 ^ 23 ≤ et % 2 ^ 24 → nearest_second et ≡ (et / 2 ^ 24 + 1) % 2 ^ 32 * 2 ^ 24
unfolding nearest_second
nearest_next et h = rw (le-leb (2 ^ 23) (et % 2 ^ 24) h) (add-zero _)

pub nearest_same : (et : ℕ) → et % 2 ^ 24 < 2 ^ 23 → nearest_second et ≡ et / 2 ^ 24 * 2 ^ 24
unfolding nearest_second
nearest_same et h = rw (lt-leb (2 ^ 23) (et % 2 ^ 24) h) (add-zero _)

-- so it is ET and half a second, without the fraction
pub nearest_is : (et : ℕ) → et < 2 ^ 56 → nearest_second et ≡ (et + 2 ^ 23) / 2 ^ 24 % 2 ^ 32 * 2 ^ 24
nearest_is et b = go (dec_le (2 ^ 23) (et % 2 ^ 24))
  where
    go : Dec (2 ^ 23 ≤ et % 2 ^ 24) → nearest_second et ≡ (et + 2 ^ 23) / 2 ^ 24 % 2 ^ 32 * 2 ^ 24
    go (yes h) = nearest_next et h ∙ omega (arith, h, b)
    go (no h) = let l = lt_of_not-le h in nearest_same et l ∙ omega (arith, l, b)

-- and behind a whole second and any ticks, it is as many seconds on as are nearest to the ticks
pub nearest_after : (s d : ℕ) → s < 2 ^ 32 → nearest_second ((s * 2 ^ 24 + d) % 2 ^ 56) ≡ (s + (d + 2 ^ 23) / 2 ^ 24) % 2 ^ 32 * 2 ^ 24
nearest_after s d h = nearest_is ((s * 2 ^ 24 + d) % 2 ^ 56) (omega arith) ∙ omega (arith, h)

-- it is ahead by half a second or less, or behind by less
pub nearest_near : (et : ℕ) → et < 2 ^ 56
    → ((nearest_second et + 2 ^ 56 - et) % 2 ^ 56 ≤ 2 ^ 23) ⊎ ((et + 2 ^ 56 - nearest_second et) % 2 ^ 56 < 2 ^ 23)
nearest_near et b = go (dec_le (2 ^ 23) (et % 2 ^ 24))
  where
    go : Dec (2 ^ 23 ≤ et % 2 ^ 24) → ((nearest_second et + 2 ^ 56 - et) % 2 ^ 56 ≤ 2 ^ 23) ⊎ ((et + 2 ^ 56 - nearest_second et) % 2 ^ 56 < 2 ^ 23)
    go (yes h) = let e = nearest_next et h in inl (omega (arith, e, h, b))
    go (no h) = let l = lt_of_not-le h in let e = nearest_same et l in inr (omega (arith, e, l, b))

-- ---- the clock

module _ (c : Clock) where
  -- a time packet whose last preamble bit is 1 sets ET at once, with its epoch code, and drops a waiting value
  pub set_at_once : (et epoch : ℕ) → Shows (after_time c (record { epoch = epoch; when = AtOnce; value = et })) c.last et epoch None
  unfolding after_time
  set_at_once et epoch = (refl, refl, refl, refl)

  -- one where it is 0 makes its value wait, with its epoch code, and replaces another
  pub set_at_wrap : (et epoch : ℕ)
      → Shows (after_time c (record { epoch = epoch; when = AtWrap; value = et })) c.last c.elapsed.value c.elapsed.epoch (Some (record { value = et; epoch = epoch }))
  unfolding after_time
  set_at_wrap et epoch = (refl, refl, refl, refl)

  -- ticks add to ET, modulo 2^56, and nothing else changes
  pub ticks_add : (ticks : ℕ) → Shows (after_ticks c ticks) c.last ((c.elapsed.value + ticks) % 2 ^ 56) c.elapsed.epoch c.waiting
  unfolding after_ticks
  ticks_add ticks = (refl, refl, refl, refl)

  -- Time-Code 0 behind 63: a waiting value becomes ET and waits no longer
  pub code_waited : (w : Elapsed) → c.last ≡ 63 → c.waiting ≡ Some w → Shows (after_code c 0) 0 w.value w.epoch None
  unfolding after_code
  code_waited w e f = rw (eq-eqb c.last 63 e, f) (refl, refl, refl, refl)

  -- else ET goes to the nearest second:
  pub code_wraps : c.last ≡ 63 → c.waiting ≡ None → Shows (after_code c 0) 0 (nearest_second c.elapsed.value) c.elapsed.epoch None
  unfolding after_code
  code_wraps e f = rw (eq-eqb c.last 63 e, f) (refl, refl, refl, refl)

  -- from half a second on seconds go up by one (modulo 2^32), and the fraction is 0
  pub code_next_second : c.last ≡ 63 → c.waiting ≡ None → 2 ^ 23 ≤ c.elapsed.value % 2 ^ 24
      → Shows (after_code c 0) 0 ((c.elapsed.value / 2 ^ 24 + 1) % 2 ^ 32 * 2 ^ 24) c.elapsed.epoch None
  code_next_second e f h = let w = code_wraps e f in (w.0, w.1 ∙ nearest_next c.elapsed.value h, w.2, w.3)

  -- below it seconds stay, and the fraction is 0
  pub code_same_second : c.last ≡ 63 → c.waiting ≡ None → c.elapsed.value % 2 ^ 24 < 2 ^ 23
      → Shows (after_code c 0) 0 (c.elapsed.value / 2 ^ 24 * 2 ^ 24) c.elapsed.epoch None
  code_same_second e f h = let w = code_wraps e f in (w.0, w.1 ∙ nearest_same c.elapsed.value h, w.2, w.3)

  -- the next Time-Code becomes the top six of the 24 bits of the fraction, and the rest is 0; what waits goes on waiting
  pub code_next : Shows (after_code c (c.last + 1)) (c.last + 1) (c.elapsed.value / 2 ^ 24 * 2 ^ 24 + (c.last + 1) * 2 ^ 18) c.elapsed.epoch c.waiting
  unfolding after_code
  code_next =
      rw (ne_eqb (c.last + 1) 0 (λ e. omega (arith, e)), and-false (eqb c.last 63), eq-eqb (c.last + 1) (c.last + 1) refl) (refl, refl, refl, refl)

  -- any other leaves ET and what waits
  pub code_other : (v : ℕ) → (c.last ≡ 63 → v ≢ 0) → v ≢ c.last + 1 → Shows (after_code c v) v c.elapsed.value c.elapsed.epoch c.waiting
  unfolding after_code
  code_other v n m = rw (go (eqb c.last 63) refl, ne_eqb v (c.last + 1) m) (refl, refl, refl, refl)
    where
      go : (t : Bool) → eqb c.last 63 ≡ t → (t && eqb v 0) ≡ false
      go true e = ne_eqb v 0 (n (eqb-true c.last 63 e))
      go false e = refl
