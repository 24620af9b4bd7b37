-- The newer preamble: what is taken and what it shows, and the receiver of before.
use Rattle.std.specs.Prelude.{Result, Ok, Err}
use Rattle.std.specs.Prelude.{Some, None}
use mathlib.Core.Path.{◌≡◌, refl, sym, ap, ◌∙◌}
use mathlib.Core.Bool.{Bool, true, false, cond, ◌&&◌, and-true, and-false}
use mathlib.Core.Logic.{◌⊎◌, inl, inr, ⊎_elim, ◌≢◌}
use mathlib.Core.List.{List, [], ◌∷◌}
use Prim.Native.Nat.{ℕ, ◌+◌, ◌-◌, ◌%◌, ◌^◌, ◌≤◌}
use Rattle.std.proofs.Common.{Some}
use native.Mathlib.Omega.{arith}
use native.Mathlib.Decide.{ℕ_discrete, dec_le}
use native.Mathlib.Nat.{lt_of_not-le}
use borrow.Author.Tests.{eqb-true, ne_eqb}
use lib.Dec.{eqb}
use lib.ListN.{length, get_or, get_or-eq_default}
use Rattle.octets.specs.Places.{part}
use Rattle.octets.specs.Numbers.{Digits}
use Rattle.octets.proofs.NumberLaws.{digits_at}
use Rattle.packets.specs.Reading.{bare, read_packet}
use Rattle.packets.specs.Time.{when_number, time_packet_of, added_seconds, added_fraction, read_time}
use Rattle.packets.specs.declared.reading.End.{End}
use Rattle.packets.specs.declared.reading.Packet.{Packet}
use Rattle.packets.specs.declared.reading.Refusal.{Refusal}
use Rattle.packets.specs.declared.reading.Packet.TheVariants.{Time, Command}
use Rattle.packets.specs.declared.time.Time.{Time as TheTime}
use Rattle.packets.specs.declared.time.When.{When}
use Rattle.packets.specs.declared.time.When.TheVariants.{AtWrap, AtOnce}
use Rattle.packets.proofs.ReadingLaws.{packet_time, time_bare}
use Rattle.packets.proofs.BareLaws.{bare_other}
use Rattle.packets.proofs.TimeLaws.{Passed, taken_passed, taken_below, thrown_away, when_told}
use Rattle.packets.proofs.PreambleLaws.{octet_fields, time_read, length_cut, passed_is_made, tick_not_after, next_tick_after}
use Rattle.unit.specs.Counters.{counted_for}
use Rattle.unit.specs.Usable.{usable}
use Rattle.unit.specs.Given.{Arrived, as_read, Lent}
use Rattle.unit.specs.Judge.{time_ruling, judged, is_link}
use Rattle.unit.specs.Fate.{fate_number}
use Rattle.unit.specs.Clock.{set_at, after_time, after_code, after_ticks}
use Rattle.unit.specs.Act.{with_clock, counted_unit}
use Rattle.unit.specs.Calls.{Outcome, without_reply, leaving, done, take_packet, small_call, take_time_code, take_ticks}
use Rattle.unit.specs.declared.fate.Fate.TheVariants.{TimeTaken}
use Rattle.unit.specs.declared.clock.Clock.{Clock}
use Rattle.unit.specs.declared.clock.Elapsed.{Elapsed}
use Rattle.unit.specs.declared.unit.Unit.{Unit as TheUnit}
use Rattle.unit.proofs.FateLaws.{unread_number}
use Rattle.unit.proofs.UsableLaws.{number_fits_law, alone}
use Rattle.unit.proofs.CommandLaws.{packets_are, small_is, command_fate}
use Rattle.demands.proofs.SecondsHold.{others_leave_time}
use Rattle.demands.proofs.ZeroHolds.{by_second_byte}
use Rattle.demands.specs.Terminal.{ours, read_of, path_in, Call, packet, time_code, ticks, after}
use Rattle.demands.specs.Refusals.{counted_as}
use Rattle.demands.specs.Seconds.{et_of}
use Rattle.demands.specs.Preamble.{number_got, octet_in, last_bit, bytes_made, MadeOf, clock_set, Sets, MadeIsTaken, TakenIsMade, ElseSixteen, IsGreatest, GreatestTick, BeforeWrap, WaitsUntil, was_read, take_by, reading, before, ReaderAlone, TwelveAsBefore, Adds, OldAsBefore, WasThrownAway, NeverWrong}

-- ---- terminals that differ by their readers of time packets alone

module _ (u : TheUnit) (p : Arrived) (lent : Lent) where
  -- ours is one of them
  ours_is : (reading read_time).packet u p lent ≡ take_packet u p lent
  unfolding take_packet judged
  ours_is = go (read_of u p) refl
    where
      both : (a b : Bool) → usable u (length lent.memory) ≡ a → is_link u p.link ≡ b → read_of u p ≡ Ok Time
          → take_by read_time (Ok Time) u p lent ≡ take_packet u p lent
      both true true works there t = rw (works, there, t)
      both true false works there t = rw (works, there)
      both false b works there t = rw works

      go : (r : Result Packet Refusal) → read_of u p ≡ r → take_by read_time r u p lent ≡ take_packet u p lent
      go (Err why) e = refl
      go (Ok (Command c)) e = refl
      go (Ok Time) e = both (usable u (length lent.memory)) (is_link u p.link) refl refl e

pub reader_alone : ReaderAlone
reader_alone u p lent = ours_is u p lent

-- ---- the receiver of before

module _ (p : List ℕ) (end : End) (logical n : ℕ) where
  -- another second octet than 00 and 01 was no time packet's
  was_other : (get_or p 3 0 ≡ 0 → ⊥) → (get_or p 3 0 ≡ 1 → ⊥) → was_read p end logical n ≡ None
  was_other x y = rw (ne_eqb (get_or p 3 0) 0 x, ne_eqb (get_or p 3 0) 1 y) (simp and-false)

  twelve : Digits 256 p → length p ≡ 12 → read_time p end logical n ≡ was_read p end logical n
  unfolding read_time
  twelve bytes size = go (ℕ_discrete (get_or p 3 0) 0) (ℕ_discrete (get_or p 3 0) 1)
    where
      other : (get_or p 3 0 ≡ 0 → ⊥) → (get_or p 3 0 ≡ 1 → ⊥) → Passed p end logical n → ⊥
      other x y passed =
          omega (arith, size, passed.size, passed.bit_0, passed.bit_6, octet_fields (get_or p 3 0) (digits_at 256 p 3 (omega arith) bytes), x, y)

      go : Dec (get_or p 3 0 ≡ 0) → Dec (get_or p 3 0 ≡ 1) → read_time p end logical n ≡ was_read p end logical n
      go (yes e) d = rw e (simp and-true)
      go (no x) (yes e) = rw e (simp and-true)
      go (no x) (no y) = thrown_away p end logical n (other x y) ∙ sym (was_other x y)

  -- nor was one of another length
  was_longer : (length p ≡ 12 → ⊥) → was_read p end logical n ≡ None
  was_longer x = rw (ne_eqb (length p) 12 x)

-- where both read a time packet alike, the two terminals do the same
module _ (u : TheUnit) (p : Arrived) (lent : Lent) where
  alike : (read_of u p ≡ Ok Time → read_time p.packet p.end u.logical u.number ≡ was_read p.packet p.end u.logical u.number)
      → take_packet u p lent ≡ before.packet u p lent
  alike same = sym (ours_is u p lent) ∙ go (read_of u p) refl
    where
      go : (r : Result Packet Refusal) → read_of u p ≡ r → take_by read_time r u p lent ≡ take_by was_read r u p lent
      go (Err why) e = refl
      go (Ok (Command c)) e = refl
      go (Ok Time) e = rw (time_bare p.packet u.number e, same e)

  -- what it took was of twelve bytes
  took_twelve : read_of u p ≡ Ok Time → number_got (before.packet u p lent) ≡ 19 → (length p.packet ≡ 12 → ⊥) → ⊥
  unfolding take_packet judged
  took_twelve e taken other =
      let away : was_read (as_read p).packet p.end u.logical u.number ≡ None =
      rw (time_bare p.packet u.number e) (was_longer p.packet p.end u.logical u.number other) in
      go (usable u (length lent.memory)) (is_link u p.link) refl refl (rw (e, away) at taken)
    where
      go : (a b : Bool) → usable u (length lent.memory) ≡ a → is_link u p.link ≡ b
          → number_got (cond (a && b) (done (time_ruling None) u (as_read p).packet p.link lent) (take_packet u p lent)) ≡ 19 → ⊥
      go true true works there t = omega (arith, t)
      go true false works there t = omega (arith, rw (works, there) at t)
      go false b works there t = omega (arith, rw works at t)

pub twelve_as_before : TwelveAsBefore ours
twelve_as_before u p lent bytes size = alike u p lent (λ e. twelve p.packet p.end u.logical u.number bytes size)

took_as_ours : (u : TheUnit) (p : Arrived) (lent : Lent) → Digits 256 p.packet → number_got (before.packet u p lent) ≡ 19 → take_packet u p lent ≡ before.packet u p lent
took_as_ours u p lent bytes taken = alike u p lent (λ e. go (ℕ_discrete (length p.packet) 12) e)
  where
    go : Dec (length p.packet ≡ 12) → read_of u p ≡ Ok Time
        → read_time p.packet p.end u.logical u.number ≡ was_read p.packet p.end u.logical u.number
    go (yes size) e = twelve p.packet p.end u.logical u.number bytes size
    go (no other) e = absurd (took_twelve u p lent e taken other)

pub old_as_before : OldAsBefore ours
old_as_before u p lent bytes none = alike u p lent (λ e. go (ℕ_discrete (length p.packet) 12))
  where
    go : Dec (length p.packet ≡ 12) → read_time p.packet p.end u.logical u.number ≡ was_read p.packet p.end u.logical u.number
    go (yes size) = twelve p.packet p.end u.logical u.number bytes size
    go (no other) =
        let seconds : 1 ≤ added_seconds p.packet → ⊥ = λ some. none (inl some) in
        let fraction : 1 ≤ added_fraction p.packet → ⊥ = λ some. none (inr some) in
        thrown_away p.packet p.end u.logical u.number (λ passed. other (omega (arith, passed.size, seconds, fraction)))
        ∙ sym (was_longer p.packet p.end u.logical u.number other)

-- a second octet that adds something is neither 00 nor 01, and it is there
adds_octet : (p : Arrived) → Adds p → 2 ≤ get_or p.packet 3 0
adds_octet p (inl some) = omega (arith, some)
adds_octet p (inr some) = omega (arith, some)

pub was_thrown_away : WasThrownAway
unfolding counted_for
was_thrown_away u p lent otherwise adds second works there =
    let some = adds_octet p adds in
    let long : 2 ≤ length p.packet = go (dec_le 4 (length p.packet)) some in
    let fits = number_fits_law u (alone u (length lent.memory) works) in
    let bare_is = bare_other p.packet otherwise in
    let read : read_of u p ≡ Ok Time = rw bare_is (packet_time p.packet u.number long fits.0 fits.1 second) in
    let away = was_other p.packet p.end u.logical u.number (λ e. omega (arith, e, some)) (λ e. omega (arith, e, some)) in
    rw (read, works, there, bare_is, away) (refl, (refl, refl, (refl, refl)))
  where
    go : Dec (4 ≤ length p.packet) → 2 ≤ get_or p.packet 3 0 → 2 ≤ length p.packet
    go (yes four) some = omega (arith, four)
    go (no short) some = absurd (omega (arith, some, get_or-eq_default p.packet 0 {n = 3} (omega (arith, lt_of_not-le short))))

-- ---- what is taken

-- bytes in their order are those of `packets`
bit_is : (w : When) → last_bit w ≡ when_number w
bit_is AtWrap = refl
bit_is AtOnce = refl

made_bytes : (address n : ℕ) (time : TheTime) (zeros : ℕ) (cut : List ℕ) → bytes_made address n time zeros cut ≡ time_packet_of address n time zeros cut
unfolding time_packet_of
made_bytes address n time zeros cut = rw (bit_is time.when)

-- and so is the clock that of `unit`
clock_is : (c : Clock) (time : TheTime) → after_time c time ≡ clock_set time.when c time
unfolding after_time
clock_is c time = go time.when
  where
    go : (w : When) → set_at w c time ≡ clock_set w c time
    go AtWrap = refl
    go AtOnce = refl

pub made_is_taken : MadeIsTaken ours
unfolding take_packet judged counted_for time_packet_of
made_is_taken u p lent time zeros cut works there (address, addressed, known, small, few, fewer, made, eop) =
    let bytes = made ∙ made_bytes address u.number time zeros cut in
    let fits = number_fits_law u (alone u (length lent.memory) works) in
    let third : get_or p.packet 2 0 ≡ time.epoch = ap (λ (b : List ℕ). get_or b 2 0) bytes in
    let bare_is : bare p.packet ≡ p.packet =
    bare_other p.packet (λ q e. let three : time.epoch ≡ 0x03 = sym third ∙ ap (λ (b : List ℕ). get_or b 2 0) e in
    ⊎_elim (λ f. omega (arith, f, three)) (λ f. omega (arith, f, three)) known) in
    let read : read_packet p.packet u.number ≡ Ok Time =
    packet_time p.packet u.number (omega (arith, ap length bytes)) fits.0 fits.1 (ap (λ (b : List ℕ). get_or b 1 0) bytes) in
    let taken : read_time p.packet p.end u.logical u.number ≡ Some time =
    rw (bytes, eop) (time_read address u.number time zeros cut (omega (arith, few)) (omega (arith, fewer)) u.logical addressed known small) in
    rw (bare_is, works, there, read, taken) (refl, ap (λ (c : Clock). counted_as 19 (with_clock u c)) (clock_is u.clock time), refl, (refl, refl))

-- a packet that gets 19 was taken, as it arrived
module _ (u : TheUnit) (p : Arrived) (lent : Lent) (Q : Outcome → Type 0) where
  nineteen : ((t : TheTime) → read_time p.packet p.end u.logical u.number ≡ Some t
      → Q (leaving (without_reply TimeTaken (counted_unit TimeTaken (with_clock u (after_time u.clock t)))) lent))
      → number_got (take_packet u p lent) ≡ 19 → Q (take_packet u p lent)
  nineteen taken =
      packets_are u p lent lent.memory refl (λ o o'. number_got o ≡ 19 → Q o)
      (λ e n. absurd (omega (arith, n))) (λ e f n. absurd (omega (arith, n))) (λ e f why g n. absurd (omega (arith, n, (unread_number why).1)))
      (λ e f g w n. absurd (omega (arith, n)))
      (λ e f g t w n. taken t (rw (time_bare p.packet u.number g) at w))
      (λ e f h g n. absurd (command_fate u h (path_in u p) (as_read p) lent (λ f. fate_number f ≢ 19) (λ n. omega (arith, n)) (λ s n. omega (arith, n)) (λ o n. omega (arith, n)) (λ n. omega (arith, n)) n))

pub taken_is_made : TakenIsMade ours
unfolding counted_for
taken_is_made u p lent bytes =
    nineteen u p lent (λ o. (time : TheTime) × (zeros : ℕ) × (cut : List ℕ) × MadeOf u p time zeros cut × Sets u lent time o)
    (λ t w.
    let passed = (taken_passed p.packet p.end u.logical u.number t w).0 in
    let says = (taken_passed p.packet p.end u.logical u.number t w).1 in
    let known : (t.epoch ≡ 0x9F) ⊎ (t.epoch ≡ 0xAF) = rw (ap (λ (s : TheTime). s.epoch) says) at passed.epoch in
    let made = passed_is_made p.packet bytes p.end u.logical u.number passed in
    let cut = part (4 + added_seconds p.packet + 7) (added_fraction p.packet) p.packet in
    let few : added_seconds p.packet ≤ 3 = omega arith in
    let fewer : length cut ≤ 7 = omega (arith, length_cut p.packet bytes p.end u.logical u.number passed) in
    let below = taken_below p.packet p.end u.logical u.number t bytes w in
    (t, added_seconds p.packet, cut, (get_or p.packet 0 0, passed.address, known, below, few, fewer, (rw says at made) ∙ sym (made_bytes (get_or p.packet 0 0) u.number t (added_seconds p.packet) cut), passed.eop), (refl, ap (λ (c : Clock). counted_as 19 (with_clock u c)) (clock_is u.clock t), refl, (refl, refl))))

pub greatest_tick : GreatestTick ours
unfolding after_time
greatest_tick u p lent bytes =
    nineteen u p lent Shown (λ t w.
    let passed = (taken_passed p.packet p.end u.logical u.number t w).0 in
    let says = (taken_passed p.packet p.end u.logical u.number t w).1 in
    let value = ap (λ (s : TheTime). s.value) says in
    let size : length p.packet - 5 ≡ added_seconds p.packet + 7 + added_fraction p.packet = omega (arith, passed.size) in
    let most : IsGreatest p t.value = rw (size, ← value) (
      tick_not_after p.packet bytes p.end u.logical u.number passed,
      next_tick_after p.packet bytes p.end u.logical u.number passed,
    ) in
    let told = when_told p.packet in
    go t t.when refl (ap (λ (s : TheTime). when_number s.when) (sym says) ∙ omega (arith, told)) most)
  where
    Shown : Outcome → Type 0
    Shown o =
        (octet_in p % 2 ≡ 1 → IsGreatest p (et_of o.answer.unit))
        × (octet_in p % 2 ≡ 0 → (w : Elapsed) × (o.answer.unit.clock.waiting ≡ Some w) × IsGreatest p w.value)

    go : (t : TheTime) (when : When) → t.when ≡ when → when_number when ≡ octet_in p % 2 → IsGreatest p t.value
        → Shown (leaving (without_reply TimeTaken (counted_unit TimeTaken (with_clock u (after_time u.clock t)))) lent)
    go t AtOnce e bit most = rw e (λ one. most, λ none. absurd (omega (arith, bit, none)))
    go t AtWrap e bit most = rw e (λ one. absurd (omega (arith, bit, one)), λ none. (record { value = t.value; epoch = t.epoch }, refl, most))

-- what waits goes on to wait
small_waits : (v after : TheUnit) (w : Elapsed) → v.clock.waiting ≡ Some w → after.clock.waiting ≡ Some w → (small_call v after).unit.clock.waiting ≡ Some w
small_waits v after w e f = small_is v after (λ a. a.unit.clock.waiting ≡ Some w) (λ u. e) (λ u. f)

waits_on : (v : TheUnit) (w : Elapsed) (cs : List Call) → v.clock.waiting ≡ Some w → BeforeWrap ours v cs → (after ours v cs).clock.waiting ≡ Some w
unfolding after take_time_code take_ticks after_code after_ticks
waits_on v w [] e b = e
waits_on v w (packet p lent ∷ cs) e b = waits_on (take_packet v p lent).answer.unit w cs ((others_leave_time v p lent b.0).1 ∙ e) b.1
waits_on v w (time_code byte ∷ cs) e b =
    waits_on (take_time_code v byte).unit w cs (small_waits v (with_clock v (after_code v.clock (byte % 2 ^ 6))) w e (go (eqb v.clock.last 63) (eqb (byte % 2 ^ 6) 0) refl refl)) b.1
  where
    go : (s t : Bool) → eqb v.clock.last 63 ≡ s → eqb (byte % 2 ^ 6) 0 ≡ t → (after_code v.clock (byte % 2 ^ 6)).waiting ≡ Some w
    go true true f g = absurd (b.0 (eqb-true _ _ f, eqb-true _ _ g))
    go true false f g = rw (f, g) e
    go false t f g = rw f e
waits_on v w (ticks n ∷ cs) e b = waits_on (take_ticks v n).unit w cs (small_waits v (with_clock v (after_ticks v.clock n)) w e e) b

pub set_at_wrap : (u : TheUnit) (p : Arrived) (lent : Lent) (between : List Call) (byte : ℕ) → WaitsUntil ours u p lent between byte
    → IsGreatest p (et_of (take_time_code (after ours (take_packet u p lent).answer.unit between) byte).unit)
unfolding take_time_code after_code
set_at_wrap u p lent between byte (bytes, taken, later, before-wrap, works, wraps) =
    let waits = (greatest_tick u p lent bytes taken).1 later in
    let still = waits_on (take_packet u p lent).answer.unit waits.0 between waits.1 before-wrap in
    rw (works, wraps.0, wraps.1, still) waits.2

pub else_sixteen : ElseSixteen ours
else_sixteen u p lent bytes otherwise two second works there none =
    ⊎_elim (λ e. e) (λ e. let is = taken_is_made u p lent bytes e in absurd (none is.0 is.1 is.2 is.3)) ((by_second_byte u p lent otherwise two works there).1 second)

pub never_wrong : NeverWrong ours
never_wrong = (
  took_as_ours,
  λ u p lent bytes taken. let same = took_as_ours u p lent bytes taken in rw same at (greatest_tick u p lent bytes (ap number_got same ∙ taken)),
)
