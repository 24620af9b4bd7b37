-- Counters are the history: each call counts its fate, and counting is adding modulo 2^32.
use mathlib.Core.Path.{◌≡◌, refl, sym, ◌∙◌, ap}
use mathlib.Core.Bool.{Bool, true, false, cond}
use mathlib.Core.List.{List, [], ◌∷◌}
use Prim.Native.Nat.{ℕ, ◌+◌, ◌-◌, ◌%◌, ◌^◌, ◌<◌, ◌≤◌}
use native.Mathlib.Omega.{arith}
use borrow.Author.Tests.{eqb-true, eqb-false, eq-eqb, ne_eqb, ltb-true, ltb-false, lt-ltb}
use lib.Dec.{eqb, ltb}
use lib.ListN.{length, get_or, set, length-set}
use lib.Seq.{get_or-set_same, get_or-set_other}
use Rattle.octets.proofs.NumberLaws.{digits_at}
use Rattle.packets.specs.declared.reading.Refusal.TheVariants.{Incomplete, UnknownProtocol, ExtendedProtocol, Reply, HeaderCrc}
use Rattle.unit.specs.Fate.{fate_number}
use Rattle.unit.specs.Counters.{bumped_at, counter_of, total, counted_for}
use Rattle.unit.specs.Clock.{after_code, after_ticks}
use Rattle.unit.specs.Act.{with_clock}
use Rattle.unit.specs.Given.{Arrived, Lent}
use Rattle.unit.specs.Calls.{Outcome, take_packet, small_call, take_time_code, take_ticks}
use Rattle.unit.specs.declared.fate.Fate.{Fate}
use Rattle.unit.specs.declared.fate.Fate.TheVariants.{TimeChanged, Unusable, NoSuchLink, NoRoom, Unread, TimeThrownAway, NotObeyed, Obeyed, TimeTaken, Replied}
use Rattle.unit.specs.declared.clock.Clock.{Clock}
use Rattle.unit.specs.declared.unit.Unit.{Unit as TheUnit}
use Rattle.unit.proofs.CommandLaws.{small_is}
use Rattle.unit.proofs.CounterLaws.{counters_aside}
use Rattle.demands.specs.Terminal.{ours, Call, packet, time_code, ticks, answer_to, after, fates_of}
use Rattle.demands.specs.Counts.{count_of, count_of_all, counted, CountersAreHistory, LowCountNothing}

-- ---- each call counts its fate

-- with its own counters a unit is itself
packet_counts : (u : TheUnit) (p : Arrived) (lent : Lent)
    → (take_packet u p lent).answer.unit.counters ≡ counted_for (take_packet u p lent).answer.fate u.counters
packet_counts u p lent = ap (λ (o : Outcome). o.answer.unit.counters) (counters_aside u u.counters p lent)

small_counts : (u : TheUnit) (c : Clock) → (small_call u (with_clock u c)).unit.counters ≡ counted_for (small_call u (with_clock u c)).fate u.counters
unfolding counted_for
small_counts u c =
    small_is u (with_clock u c) (λ a. a.unit.counters ≡ counted_for a.fate u.counters) (λ e. refl) (λ e. refl)

call_counts : (u : TheUnit) (c : Call) → (answer_to ours u c).unit.counters ≡ counted_for (answer_to ours u c).fate u.counters
unfolding take_time_code take_ticks
call_counts u (packet p lent) = packet_counts u p lent
call_counts u (time_code byte) = small_counts u (after_code u.clock (byte % 2 ^ 6))
call_counts u (ticks count) = small_counts u (after_ticks u.clock count)

pub low_count_nothing : LowCountNothing ours
unfolding counted_for
low_count_nothing u c low = call_counts u c ∙ rw (lt-ltb (fate_number (answer_to ours u c).fate) 11 (omega (arith, low)))

-- ---- counting is adding, modulo 2^32

abbrev Good : List ℕ → Type 0
Good c = (length c ≡ 11) × ((k : ℕ) → k < 11 → get_or c k 0 < 2 ^ 32)

bump_at : (c : List ℕ) (place k : ℕ) → Good c → k < 11 → get_or (bumped_at place c) k 0 ≡ counted (get_or c k 0) (cond (eqb place k) 1 0)
bump_at c place k good h = go (eqb place k) refl
  where
    new : ℕ
    new = (get_or c place 0 + 1) % 2 ^ 32

    go : (t : Bool) → eqb place k ≡ t → get_or (set c place new) k 0 ≡ counted (get_or c k 0) (cond t 1 0)
    go true e =
        let p = eqb-true place k e in
        rw p (get_or-set_same c k ((get_or c k 0 + 1) % 2 ^ 32) 0 (omega (arith, good.0, h)))
    go false e =
        let b = good.1 k h in
        get_or-set_other c place k new 0 (λ q. eqb-false place k e (sym q)) ∙ omega (arith, b)

bump_good : (c : List ℕ) (place : ℕ) → Good c → Good (bumped_at place c)
bump_good c place good = (
  length-set c place ((get_or c place 0 + 1) % 2 ^ 32) ∙ good.0,
  λ k h. let e = bump_at c place k good h in omega (arith, e),
)

-- how much a fate adds to the counter at a place
abbrev adds : Fate → ℕ → ℕ
adds f k = cond (ltb (fate_number f) 11) 0 (cond (eqb (counter_of f) k) 1 0 + cond (eqb total k) 1 0)

fate_at : (f : Fate) (c : List ℕ) (k : ℕ) → Good c → k < 11 → get_or (counted_for f c) k 0 ≡ counted (get_or c k 0) (adds f k)
unfolding counted_for
fate_at f c k good h = go (ltb (fate_number f) 11)
  where
    go : (t : Bool) → get_or (cond t c (bumped_at total (bumped_at (counter_of f) c))) k 0
        ≡ counted (get_or c k 0) (cond t 0 (cond (eqb (counter_of f) k) 1 0 + cond (eqb total k) 1 0))
    go true = let b = good.1 k h in omega (arith, b)
    go false =
        let first = bump_at c (counter_of f) k good h in
        let second = bump_at (bumped_at (counter_of f) c) total k (bump_good c (counter_of f) good) h in
        omega (arith, first, second)

fate_good : (f : Fate) (c : List ℕ) → Good c → Good (counted_for f c)
unfolding counted_for
fate_good f c good = go (ltb (fate_number f) 11)
  where
    go : (t : Bool) → Good (cond t c (bumped_at total (bumped_at (counter_of f) c)))
    go true = good
    go false = bump_good (bumped_at (counter_of f) c) total (bump_good c (counter_of f) good)

-- ---- along a history

adds_all : List Fate → ℕ → ℕ
adds_all [] k = 0
adds_all (f ∷ fs) k = adds f k + adds_all fs k

along : (u : TheUnit) (calls : List Call) (k : ℕ) → Good u.counters → k < 11
    → get_or (after ours u calls).counters k 0 ≡ counted (get_or u.counters k 0) (adds_all (fates_of ours u calls) k)
unfolding after fates_of adds_all
along u [] k good h = let b = good.1 k h in omega (arith, b)
along u (c ∷ cs) k good h =
    let v = (answer_to ours u c).unit in
    let f = (answer_to ours u c).fate in
    let e = call_counts u c in
    let step : get_or v.counters k 0 ≡ counted (get_or u.counters k 0) (adds f k) =
    ap (λ (l : List ℕ). get_or l k 0) e ∙ fate_at f u.counters k good h in
    let rest = along v cs k (rw e (fate_good f u.counters good)) h in
    omega (arith, step, rest)

-- ---- what is added is what the history counts

-- a fate's number is counted at its own place
own_place : (f : Fate) (number : ℕ) → 11 ≤ number → number ≤ 20 → adds f (number - 11) ≡ cond (eqb (fate_number f) number) 1 0
own_place f number low high = go (ltb (fate_number f) 11) (eqb (fate_number f) number) refl refl
  where
    x : ℕ
    x = fate_number f

    not_total : eqb total (number - 11) ≡ false
    not_total = ne_eqb total (number - 11) (λ e. omega (arith, e, low, high))

    go : (s t : Bool) → ltb x 11 ≡ s → eqb x number ≡ t → cond s 0 (cond (eqb (x - 11) (number - 11)) 1 0 + cond (eqb total (number - 11)) 1 0) ≡ cond t 1 0
    go true true e g = let a = ltb-true x 11 e in let b = eqb-true x number g in absurd (omega (arith, a, b, low))
    go true false e g = refl
    go false true e g = let b = eqb-true x number g in rw (not_total, eq-eqb (x - 11) (number - 11) (omega (arith, b)))
    go false false e g =
        let a = ltb-false x 11 e in
        rw (not_total, ne_eqb (x - 11) (number - 11) (λ q. eqb-false x number g (omega (arith, a, low, q))))

adds_count : (fs : List Fate) (number : ℕ) → 11 ≤ number → number ≤ 20 → adds_all fs (number - 11) ≡ count_of number fs
unfolding adds_all count_of
adds_count [] number low high = refl
adds_count (f ∷ fs) number low high = let e = own_place f number low high in let r = adds_count fs number low high in omega (arith, e, r)

-- and once in the total
abbrev ones : ℕ → ℕ
ones n =
    cond (eqb n 11) 1 0 + cond (eqb n 12) 1 0 + cond (eqb n 13) 1 0 + cond (eqb n 14) 1 0 + cond (eqb n 15) 1 0
    + cond (eqb n 16) 1 0 + cond (eqb n 17) 1 0 + cond (eqb n 18) 1 0 + cond (eqb n 19) 1 0 + cond (eqb n 20) 1 0

in_total : (f : Fate) → adds f total ≡ ones (fate_number f)
in_total TimeChanged = refl
in_total Unusable = refl
in_total NoSuchLink = refl
in_total NoRoom = refl
in_total (Unread Incomplete) = refl
in_total (Unread UnknownProtocol) = refl
in_total (Unread ExtendedProtocol) = refl
in_total (Unread Reply) = refl
in_total (Unread HeaderCrc) = refl
in_total TimeThrownAway = refl
in_total (NotObeyed offence) = refl
in_total Obeyed = refl
in_total TimeTaken = refl
in_total (Replied s) = refl

adds_total : (fs : List Fate) → adds_all fs total ≡ count_of_all fs
unfolding adds_all count_of
adds_total [] = refl
adds_total (f ∷ fs) = let e = in_total f in let r = adds_total fs in omega (arith, e, r)

pub counters_are_history : CountersAreHistory ours
counters_are_history u calls words =
    let good : Good u.counters = (words.0, λ k h. digits_at (2 ^ 32) u.counters k (omega arith) words.1) in (
      λ number low high.
          along u calls (number - 11) good (omega (arith, low, high)) ∙ ap (counted (get_or u.counters (number - 11) 0)) (adds_count (fates_of ours u calls) number low high),
      along u calls total good (omega arith) ∙ ap (counted (get_or u.counters total 0)) (adds_total (fates_of ours u calls)),
    )
