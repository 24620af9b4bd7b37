-- A unit is after any call as usable as before it: what it was set up with stays, and what a call makes of clock and owner keeps within its bounds.
use Rattle.std.proofs.Common.{◌≡◌, ℕ, ◌+◌, ◌*◌, ◌%◌, ◌^◌, ◌<◌, ◌≤◌, Bool, true, false, cond, not, ◌&&◌, eqb, ltb, leb, length, sym, refl, ◌∙◌, arith, ltb-true, lt-ltb, le-leb, leb-true, Option, None, Some}
use mathlib.Core.Bool.{false≢true}
use Rattle.octets.specs.Numbers.{Digits}
use Rattle.octets.proofs.PlaceLaws.{second_true}
use Rattle.packets.specs.Path.{path_of}
use Rattle.packets.specs.Reading.{read_packet, path_read}
use Rattle.packets.specs.declared.path.Path.{Path}
use Rattle.packets.specs.declared.time.When.{When}
use Rattle.packets.specs.declared.time.When.TheVariants.{AtWrap, AtOnce}
use Rattle.packets.specs.declared.time.Time.{Time as TheTime}
use Rattle.packets.proofs.BareLaws.{bare_bytes}
use Rattle.packets.proofs.ReadingLaws.{packet_path}
use Rattle.packets.proofs.TimeLaws.{taken_below}
use Rattle.unit.specs.Some.{some}
use Rattle.unit.specs.Windows.{ends_past, used}
use Rattle.unit.specs.Usable.{fits_time, usable_unit, usable}
use Rattle.unit.specs.Clock.{time_of, seconds_of, set_at, after_time, nearest_second, at_wrap, fraction_set, after_code, after_ticks, time_code_written}
use Rattle.unit.specs.Owner.{unowned, swapped}
use Rattle.unit.specs.Act.{with_clock, with_owner}
use Rattle.unit.specs.Given.{Arrived, as_read, Lent}
use Rattle.unit.specs.Judge.{is_link}
use Rattle.unit.specs.Calls.{take_packet, small_call, take_time_code, take_ticks}
use Rattle.unit.specs.declared.clock.Clock.{Clock}
use Rattle.unit.specs.declared.clock.Elapsed.{Elapsed}
use Rattle.unit.specs.declared.owner.Owner.{Owner}
use Rattle.unit.specs.declared.unit.Unit.{Unit as TheUnit}
use Rattle.unit.proofs.UnitLaws.{SetUpAs}
use Rattle.unit.proofs.ClockLaws.{nearest_is}
use Rattle.unit.proofs.CommandLaws.{unit_is, small_is}

-- ---- the causes, one by one

ten : (a b c d e f g h i j : Bool) → (a && b && c && d && e && f && g && h && i && j) ≡ true
    → (a ≡ true) × (b ≡ true) × (c ≡ true) × (d ≡ true) × (e ≡ true) × (f ≡ true) × (g ≡ true) × (h ≡ true) × (i ≡ true) × (j ≡ true)
ten true true true true true true true true true true x = (refl, refl, refl, refl, refl, refl, refl, refl, refl, refl)
ten false b c d e f g h i j x = absurd (false≢true x)
ten true false c d e f g h i j x = absurd (false≢true x)
ten true true false d e f g h i j x = absurd (false≢true x)
ten true true true false e f g h i j x = absurd (false≢true x)
ten true true true true false f g h i j x = absurd (false≢true x)
ten true true true true true false g h i j x = absurd (false≢true x)
ten true true true true true true false h i j x = absurd (false≢true x)
ten true true true true true true true false i j x = absurd (false≢true x)
ten true true true true true true true true false j x = absurd (false≢true x)
ten true true true true true true true true true false x = absurd (false≢true x)

abbrev Works : TheUnit → Type 0
Works u =
    (leb u.windows.count 16 ≡ true) × (leb 0xF0 u.number ≡ true) × (leb u.number 0xFE ≡ true) × (leb 1 u.links ≡ true)
    × (leb u.links 31 ≡ true) × (ltb u.clock.elapsed.value (2 ^ 56) ≡ true) × (fits_time u.clock.waiting ≡ true)
    × (leb u.clock.last 63 ≡ true) × (leb u.owner.path.count 12 ≡ true) × (leb u.owner.link 31 ≡ true)

works : (u : TheUnit) → usable_unit u ≡ true → Works u
unfolding usable_unit
works u =
    ten (leb u.windows.count 16) (leb 0xF0 u.number) (leb u.number 0xFE) (leb 1 u.links) (leb u.links 31)
    (ltb u.clock.elapsed.value (2 ^ 56)) (fits_time u.clock.waiting) (leb u.clock.last 63) (leb u.owner.path.count 12)
    (leb u.owner.link 31)

-- ---- another clock, another owner

abbrev ClockWorks : Clock → Type 0
ClockWorks c = (ltb c.elapsed.value (2 ^ 56) ≡ true) × (fits_time c.waiting ≡ true) × (leb c.last 63 ≡ true)

abbrev OwnerWorks : Owner → Type 0
OwnerWorks o = (leb o.path.count 12 ≡ true) × (leb o.link 31 ≡ true)

clock_works : (u : TheUnit) → usable_unit u ≡ true → ClockWorks u.clock
clock_works u e = let w = works u e in (w.5, w.6, w.7)

pub et_fits : (u : TheUnit) → usable_unit u ≡ true → u.clock.elapsed.value < 2 ^ 56
et_fits u e = ltb-true u.clock.elapsed.value (2 ^ 56) (works u e).5

pub number_fits_law : (u : TheUnit) → usable_unit u ≡ true → (0xF0 ≤ u.number) × (u.number ≤ 0xFE)
number_fits_law u e = let w = works u e in (leb-true 0xF0 u.number w.1, leb-true u.number 0xFE w.2)

owner_works : (u : TheUnit) → usable_unit u ≡ true → OwnerWorks u.owner
owner_works u e = let w = works u e in (w.8, w.9)

with_clock_law : (u : TheUnit) (c : Clock) → usable_unit u ≡ true → ClockWorks c → usable_unit (with_clock u c) ≡ true
unfolding usable_unit
with_clock_law u c e k =
    let w = works u e in
    rw (w.0, w.1, w.2, w.3, w.4, k.0, k.1, k.2, w.8, w.9)

with_owner_law : (u : TheUnit) (o : Owner) → usable_unit u ≡ true → OwnerWorks o → usable_unit (with_owner u o) ≡ true
unfolding usable_unit
with_owner_law u o e k =
    let w = works u e in
    rw (w.0, w.1, w.2, w.3, w.4, w.5, w.6, w.7, k.0, k.1)

-- ---- the time

after_ticks_law : (c : Clock) (n : ℕ) → ClockWorks c → ClockWorks (after_ticks c n)
unfolding after_ticks
after_ticks_law c n k = (lt-ltb ((c.elapsed.value + n) % 2 ^ 56) (2 ^ 56) (omega arith), k.1, k.2)

wrap_fits : (e : Elapsed) (w : Option Elapsed) → ltb e.value (2 ^ 56) ≡ true → fits_time w ≡ true → ltb (at_wrap e w).value (2 ^ 56) ≡ true
wrap_fits e (Some x) l k = k
wrap_fits e None l k =
    let n = nearest_is e.value (ltb-true e.value (2 ^ 56) l) in
    lt-ltb (nearest_second e.value) (2 ^ 56) (omega (arith, n))

-- the ways that a Time-Code can go: the wrap, the next one, any other
pub code_is : (c : Clock) (v : ℕ) (P : Clock → Type 0)
    → P (record { last = v; elapsed = at_wrap c.elapsed c.waiting; waiting = None })
    → P (record { last = v; elapsed = fraction_set c.elapsed v; waiting = c.waiting })
    → P (record { last = v; elapsed = c.elapsed; waiting = c.waiting })
    → P (after_code c v)
unfolding after_code
code_is c v P wrap next other = go (eqb c.last 63 && eqb v 0) (eqb v (c.last + 1))
  where
    go : (t s : Bool) → P (cond t (record { last = v; elapsed = at_wrap c.elapsed c.waiting; waiting = None })
        (record { last = v; elapsed = cond s (fraction_set c.elapsed v) c.elapsed; waiting = c.waiting }))
    go true s = wrap
    go false true = next
    go false false = other

after_code_law : (c : Clock) (v : ℕ) → v < 64 → ClockWorks c → ClockWorks (after_code c v)
after_code_law c v h k =
    let low : leb v 63 ≡ true = le-leb v 63 (omega arith) in
    let l = ltb-true c.elapsed.value (2 ^ 56) k.0 in
    code_is c v ClockWorks (wrap_fits c.elapsed c.waiting k.0 k.1, refl, low)
    (lt-ltb (time_of (seconds_of c.elapsed.value) (v * 2 ^ 18)) (2 ^ 56) (omega (arith, l, h)), k.1, low) (k.0, k.1, low)

set_at_law : (w : When) (c : Clock) (t : TheTime) → t.value < 2 ^ 56 → ClockWorks c → ClockWorks (set_at w c t)
set_at_law AtOnce c t h k = (lt-ltb _ _ h, refl, k.2)
set_at_law AtWrap c t h k = (k.0, lt-ltb _ _ h, k.2)

after_time_law : (c : Clock) (t : TheTime) → t.value < 2 ^ 56 → ClockWorks c → ClockWorks (after_time c t)
unfolding after_time
after_time_law c t h k = set_at_law t.when c t h k

code_written : (c : Clock) (word : ℕ) → ClockWorks c → ClockWorks (time_code_written c word)
code_written c word k = go (eqb word 0)
  where
    go : (t : Bool) → ClockWorks (cond t (record { last = 0; elapsed = c.elapsed; waiting = c.waiting }) c)
    go true = (k.0, k.1, refl)
    go false = k

-- ---- the owner

after_swap : (o : Owner) (new expected initiator : ℕ) (path : Path) (link : ℕ) → path.count ≤ 12 → link ≤ 31 → OwnerWorks o
    → OwnerWorks (swapped o new expected initiator path link)
unfolding swapped path_of
after_swap o new expected initiator path link p l k = go (eqb o.device expected) (eqb o.device 0) (eqb new 0)
  where
    go : (a b c : Bool) → OwnerWorks (cond a (cond b (cond c o (record { device = new; initiator = initiator; path = path; link = link }))
        (cond c unowned (record { device = new; initiator = o.initiator; path = o.path; link = o.link }))) o)
    go false b c = k
    go true true true = k
    go true true false = (le-leb _ _ p, le-leb _ _ l)
    go true false true = (refl, refl)
    go true false false = k

-- ---- the calls

set_up : (u : TheUnit) → SetUpAs u u
set_up u = (refl, refl, refl, refl, refl)

-- usable with a memory, where the windows are the same
with_memory_law : (u v : TheUnit) (n : ℕ) → v.windows ≡ u.windows → usable_unit v ≡ usable_unit u → usable v n ≡ usable u n
unfolding usable
with_memory_law u v n w k = rw (k, w)

pub alone : (u : TheUnit) (n : ℕ) → usable u n ≡ true → usable_unit u ≡ true
unfolding usable
alone u n e = second_true (leb 1 n && leb n 65536 && not (some (ends_past n) (used u.windows))) (usable_unit u) e

-- a packet changes nothing of the setup, and of bytes nothing of what is usable, whatever memory it is lent
pub packet_set_up : (u : TheUnit) (p : Arrived) (lent : Lent) → SetUpAs u (take_packet u p lent).answer.unit
packet_set_up u p lent =
    unit_is u p lent (SetUpAs u) (λ f v x. x) (set_up u) (λ w t g. set_up u) (λ w there h g q a. (λ x new expected. set_up u, λ x word. (set_up u, set_up u)))

pub usable_packet : (u : TheUnit) (p : Arrived) (lent : Lent) → Digits 256 p.packet → usable_unit (take_packet u p lent).answer.unit ≡ usable_unit u
unfolding usable_unit
usable_packet u p lent d =
    unit_is u p lent (λ v. usable_unit v ≡ usable_unit u) (λ f v x. x) refl
    (λ w t g. let k = alone u size w in
    with_clock_law u (after_time u.clock t) k (after_time_law u.clock t (taken_below (as_read p).packet p.end u.logical u.number t (bare_bytes p.packet d) g) (clock_works u k)) ∙ sym k)
    (λ w there h g q a. let k = alone u size w in (
      λ x new expected. with_owner_law u (swapped u.owner new expected h.initiator path p.link) k
          (after_swap u.owner new expected h.initiator path p.link (packet_path (as_read p).packet u.number) (low k there) (owner_works u k)) ∙ sym k,
      λ x word. (with_clock_law u (time_code_written u.clock word) k (code_written u.clock word (clock_works u k)) ∙ sym k, refl),
    ))
  where
    size : ℕ
    size = length lent.memory

    path : Path
    path = path_read (read_packet (as_read p).packet u.number)

    low : usable_unit u ≡ true → is_link u p.link ≡ true → p.link ≤ 31
    low k there =
        let a = leb-true p.link u.links (second_true (leb 1 p.link) (leb p.link u.links) there) in
        let b = leb-true u.links 31 (works u k).4 in
        omega (arith, a, b)

-- nor do a Time-Code and ticks
small_usable : (u : TheUnit) (c : Clock) → (ClockWorks u.clock → ClockWorks c) → usable_unit (small_call u (with_clock u c)).unit ≡ usable_unit u
small_usable u c kept =
    small_is u (with_clock u c) (λ a. usable_unit a.unit ≡ usable_unit u) (λ e. refl) (λ e. with_clock_law u c e (kept (clock_works u e)) ∙ sym e)

small_set_up : (u : TheUnit) (c : Clock) → SetUpAs u (small_call u (with_clock u c)).unit
small_set_up u c = small_is u (with_clock u c) (λ a. SetUpAs u a.unit) (λ e. set_up u) (λ e. set_up u)

pub usable_code : (u : TheUnit) (byte : ℕ) → usable_unit (take_time_code u byte).unit ≡ usable_unit u
unfolding take_time_code
usable_code u byte = small_usable u (after_code u.clock (byte % 2 ^ 6)) (after_code_law u.clock (byte % 2 ^ 6) (omega arith))

pub code_set_up : (u : TheUnit) (byte : ℕ) → SetUpAs u (take_time_code u byte).unit
unfolding take_time_code
code_set_up u byte = small_set_up u (after_code u.clock (byte % 2 ^ 6))

pub usable_ticks : (u : TheUnit) (ticks : ℕ) → usable_unit (take_ticks u ticks).unit ≡ usable_unit u
unfolding take_ticks
usable_ticks u ticks = small_usable u (after_ticks u.clock ticks) (after_ticks_law u.clock ticks)

pub ticks_set_up : (u : TheUnit) (ticks : ℕ) → SetUpAs u (take_ticks u ticks).unit
unfolding take_ticks
ticks_set_up u ticks = small_set_up u (after_ticks u.clock ticks)

-- so with a memory of any length the unit is as usable as it was
pub packet_with_memory : (u : TheUnit) (n : ℕ) (p : Arrived) (lent : Lent) → Digits 256 p.packet
    → usable (take_packet u p lent).answer.unit n ≡ usable u n
packet_with_memory u n p lent d = with_memory_law u (take_packet u p lent).answer.unit n (packet_set_up u p lent).4 (usable_packet u p lent d)

pub code_with_memory : (u : TheUnit) (n byte : ℕ) → usable (take_time_code u byte).unit n ≡ usable u n
code_with_memory u n byte = with_memory_law u (take_time_code u byte).unit n (code_set_up u byte).4 (usable_code u byte)

pub ticks_with_memory : (u : TheUnit) (n ticks : ℕ) → usable (take_ticks u ticks).unit n ≡ usable u n
ticks_with_memory u n ticks = with_memory_law u (take_ticks u ticks).unit n (ticks_set_up u ticks).4 (usable_ticks u ticks)
