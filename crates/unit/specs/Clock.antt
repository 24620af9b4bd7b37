-- The time (document 01, 'Time'; 004).
use Rattle.std.specs.Prelude.{ℕ, ◌+◌, ◌*◌, ◌/◌, ◌%◌, ◌^◌, Option, None, Some, cond, ◌&&◌, ◌==◌, nat_le}
use Rattle.packets.specs.declared.time.When.{When}
use Rattle.packets.specs.declared.time.When.TheVariants.{AtWrap, AtOnce}
use Rattle.packets.specs.declared.time.Time.{Time}
use Rattle.unit.specs.declared.clock.Elapsed.{Elapsed}
use Rattle.unit.specs.declared.clock.Clock.{Clock}

-- ET is seconds in 32 bits, fraction in 24.
abbrev pub seconds_of : ℕ → ℕ
seconds_of et = et / 2 ^ 24

abbrev pub fraction_of : ℕ → ℕ
fraction_of et = et % 2 ^ 24

abbrev pub time_of : ℕ → ℕ → ℕ
time_of seconds fraction = seconds * 2 ^ 24 + fraction

-- The epoch code goes with it.
abbrev pub sent : Time → Elapsed
sent t = record { value = t.value; epoch = t.epoch }

-- A time packet whose second preamble octet ends in 1 sets ET at once and drops a waiting value; one that ends in 0 makes T wait, replacing another.
abbrev pub set_at : When → Clock → Time → Clock
set_at AtOnce c t = record { last = c.last; elapsed = sent t; waiting = None }
set_at AtWrap c t = record { last = c.last; elapsed = c.elapsed; waiting = Some (sent t) }

unfoldable pub after_time : Clock → Time → Clock
after_time c t = set_at t.when c t

-- If the fraction of ET is at least one half, seconds go up by one (modulo 2^32); otherwise seconds stay. The fraction is 0 in both. (Document 02, request 3;
-- before it, seconds went up whatever the fraction.)
unfoldable pub nearest_second : ℕ → ℕ
nearest_second et = time_of (cond (nat_le (2 ^ 23) (fraction_of et)) ((seconds_of et + 1) % 2 ^ 32) (seconds_of et)) 0

-- At the wrap of the Time-Code a waiting value becomes ET, else ET goes to that second.
abbrev pub at_wrap : Elapsed → Option Elapsed → Elapsed
at_wrap e (Some w) = w
at_wrap e None = record { value = nearest_second e.value; epoch = e.epoch }

-- The top six fraction bits become v and the rest 0.
abbrev pub fraction_set : Elapsed → ℕ → Elapsed
fraction_set e v = record { value = time_of (seconds_of e.value) (v * 2 ^ 18); epoch = e.epoch }

-- Time-Code v, last u: if u = 63 and v = 0, the wrap, and nothing waits any longer; else if v = u + 1, the fraction is set; else ET
-- stays. Always v becomes last.
unfoldable pub after_code : Clock → ℕ → Clock
after_code c v =
    cond (c.last == 63 && v == 0)
    (record { last = v; elapsed = at_wrap c.elapsed c.waiting; waiting = None })
    (record { last = v; elapsed = cond (v == c.last + 1) (fraction_set c.elapsed v) c.elapsed; waiting = c.waiting })

-- Ticks add to ET, modulo 2^56.
unfoldable pub after_ticks : Clock → ℕ → Clock
after_ticks c ticks = record {
  last = c.last;
  elapsed = record { value = (c.elapsed.value + ticks) % 2 ^ 56; epoch = c.elapsed.epoch };
  waiting = c.waiting;
}

-- A write to the Time-Code counter ('Fields'): a whole word of 0 resets it, others are ignored.
abbrev pub time_code_written : Clock → ℕ → Clock
time_code_written c word = cond (word == 0) (record { last = 0; elapsed = c.elapsed; waiting = c.waiting }) c
