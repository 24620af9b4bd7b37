-- Demand 1 leaves no room: 1, 2 and 3 are given exactly where they are due, each other row says how the packet was read and which status it is due, and with that
-- all that it leaves. So the rows together are a function, `due`; what meets them is its value; and ours meets them too.
use Rattle.std.proofs.Common.{Ok, Err}
use Rattle.std.specs.Prelude.{Result, Ok, Err}
use Rattle.packets.specs.declared.time.Time.{Time as TheTime}
use Rattle.std.specs.Prelude.{Option, Some, None}
use mathlib.Core.Path.{◌≡◌, refl, sym, ◌∙◌, ap}
use mathlib.Core.Bool.{Bool, true, false, cond, false≢true, not-eq-not}
use mathlib.Core.Logic.{inl, inr}
use mathlib.Core.List.{List}
use Prim.Native.Nat.{ℕ, ◌%◌, ◌^◌, ◌<◌}
use native.Mathlib.Omega.{arith}
use borrow.Author.Tests.{lt-ltb, ltb-true, eq-eqb, ne_eqb}
use lib.Dec.{eqb, ltb}
use lib.ListN.{length}
use Rattle.octets.specs.Places.{placed}
use Rattle.packets.specs.Instruction.{wants_reply}
use Rattle.packets.specs.Header.{kind_in}
use Rattle.packets.specs.Reading.{number_of}
use Rattle.packets.specs.Time.{read_time}
use Rattle.packets.specs.declared.header.Header.{Header}
use Rattle.unit.specs.Fate.{Status, is_success, fate_number}
use Rattle.packets.specs.declared.reading.Packet.{Packet}
use Rattle.packets.specs.declared.reading.Refusal.{Refusal}
use Rattle.packets.specs.declared.reading.Packet.TheVariants.{Time, Command}
use Rattle.unit.specs.Clock.{after_time, after_code, after_ticks}
use Rattle.unit.specs.Usable.{usable}
use Rattle.unit.specs.Act.{with_clock}
use Rattle.unit.specs.Given.{Arrived, as_read, Lent}
use Rattle.unit.specs.Judge.{is_link}
use Rattle.unit.specs.Calls.{Outcome, without_reply, leaving, take_packet, small_call, take_time_code, take_ticks}
use Rattle.unit.specs.declared.fate.Fate.{Fate}
use Rattle.unit.specs.declared.fate.Fate.TheVariants.{TimeChanged, Unusable, NoSuchLink, NoRoom, Unread, TimeThrownAway, NotObeyed, Obeyed, TimeTaken, Replied}
use Rattle.unit.specs.declared.clock.Clock.{Clock}
use Rattle.unit.specs.declared.calls.Answer.{Answer}
use Rattle.unit.specs.declared.unit.Unit.{Unit as TheUnit}
use Rattle.unit.proofs.FateLaws.{unread_number}
use Rattle.packets.proofs.ReadingLaws.{one_command}
use Rattle.demands.specs.Terminal.{read_of, IsCommand}
use Rattle.demands.specs.ReplyDue.{reply_due}
use Rattle.demands.specs.Refusals.{counted_as, obeyed_by, obeyed_on, refused_on, status_due, length_due, Obeys, Leaves, Exactly, SmallRow, ByCode, ByTicks}
use Rattle.demands.specs.Only.{OnlyOurs}
use Rattle.demands.proofs.RefusalsHold.{row_by_row}
use Rattle.demands.proofs.NumbersHold.{one_two_three}

-- ---- statuses and fates by their numbers

-- status 0 is one status
zero_is : (s : Status) → is_success s ≡ true → s ≡ Ok tt
zero_is (Ok done) e = refl
zero_is (Err offence) e = absurd (false≢true e)

-- 0 and 1 are one fate each
low_fate : (f : Fate) → fate_number f < 2 → f ≡ cond (eqb (fate_number f) 0) TimeChanged Unusable
low_fate TimeChanged l = refl
low_fate Unusable l = refl
low_fate NoSuchLink l = absurd (omega (arith, l))
low_fate NoRoom l = absurd (omega (arith, l))
low_fate (Unread why) l = absurd (omega (arith, l, (unread_number why).0))
low_fate TimeThrownAway l = absurd (omega (arith, l))
low_fate (NotObeyed offence) l = absurd (omega (arith, l))
low_fate Obeyed l = absurd (omega (arith, l))
low_fate TimeTaken l = absurd (omega (arith, l))
low_fate (Replied s) l = absurd (omega (arith, l))

-- ---- an answer and an outcome are their parts

abbrev answering : TheUnit → Fate → ℕ → Answer
answering v f n = record { unit = v; fate = f; length = n }

answer_is : (a : Answer) {v : TheUnit} {f : Fate} {n : ℕ} → a.unit ≡ v → a.fate ≡ f → a.length ≡ n → a ≡ answering v f n
answer_is a unit fate long = λ i. record { unit = unit i; fate = fate i; length = long i }

abbrev ending : Fate → TheUnit → List ℕ → List ℕ → ℕ → Outcome
ending f v m r n = record { answer = answering v f n; memory = m; reply = r }

outcome_is : (o : Outcome) {f : Fate} {v : TheUnit} {m r : List ℕ} {n : ℕ} → o.answer.fate ≡ f → o.answer.unit ≡ v → o.memory ≡ m
    → (o.reply ≡ r) × (o.answer.length ≡ n) → o ≡ ending f v m r n
outcome_is o fate unit memory reply =
    λ i. record { answer = answer_is o.answer unit fate reply.1 i; memory = memory i; reply = reply.0 i }

module _ (u : TheUnit) (p : Arrived) (lent : Lent) where
  -- ---- what the rows make of a packet

  -- an obeyed command: its unit, before it is counted, and its memory
  abbrev unit_due : Header → TheUnit
  unit_due h = cond (eqb h.protocol 0x01) u (obeyed_by (kind_in h) u h p)

  abbrev memory_due : Header → List ℕ
  memory_due h = cond (eqb h.protocol 0x01) (obeyed_on (kind_in h) h p lent) lent.memory

  -- a command that is due the status s, replied to, and without a reply
  abbrev spoken_due : Header → Status → Outcome
  spoken_due h s =
      ending (Replied s) (counted_as 20 (cond (is_success s) (unit_due h) u)) (cond (is_success s) (memory_due h) (refused_on h s p lent))
      (placed 0 (reply_due u p lent h s) lent.reply) (length (reply_due u p lent h s))

  abbrev silent_due : Header → Status → Outcome
  silent_due h (Ok done) = ending Obeyed (counted_as 18 (unit_due h)) (memory_due h) lent.reply 0
  silent_due h (Err offence) = ending (NotObeyed (Err offence)) (counted_as 17 u) (refused_on h (Err offence) p lent) lent.reply 0

  -- a time packet
  abbrev time_due : Option TheTime → Outcome
  time_due None = ending TimeThrownAway (counted_as 16 u) lent.memory lent.reply 0
  time_due (Some t) = ending TimeTaken (counted_as 19 (with_clock u (after_time u.clock t))) lent.memory lent.reply 0

  -- past 1 and 2, by its reading
  abbrev due_as : Result Packet Refusal → Outcome
  due_as (Err why) = ending (Unread why) (counted_as (number_of why) u) lent.memory lent.reply 0
  due_as (Ok Time) = time_due (read_time (as_read p).packet p.end u.logical u.number)
  due_as (Ok (Command c)) =
      let h = c.header in
      cond (wants_reply h.instruction)
      (cond (ltb (length lent.reply) (length_due u p h)) (leaving (without_reply NoRoom u) lent) (spoken_due h (status_due u p h)))
      (silent_due h (status_due u p h))

  abbrev read : Result Packet Refusal
  read = read_of u p

  abbrev works : Bool
  works = usable u (length lent.memory)

  abbrev linked : Bool
  linked = is_link u p.link

  -- and any packet
  abbrev due : Outcome
  due = cond works (cond linked (due_as read) (leaving (without_reply NoSuchLink u) lent)) (leaving (without_reply Unusable u) lent)

  -- ---- an outcome that meets its row

  -- past 1, 2 and 3: the unit is usable, the link is one, and a reply that was asked for has room
  past : (f : Fate) → 3 < fate_number f → Exactly u p lent (fate_number f) → (works ≡ true) × (linked ≡ true)
  past f high exactly =
      let e : works ≡ true = not-eq-not.0 (λ e. omega (arith, high, exactly.0.1 e)) in
      (e, not-eq-not.0 (λ l. omega (arith, high, exactly.1.1 (e, l))))

  roomy : (f : Fate) → 3 < fate_number f → Exactly u p lent (fate_number f) → (h : Header) → IsCommand u p h → wants_reply h.instruction ≡ true
      → ltb (length lent.reply) (length_due u p h) ≡ false
  roomy f high exactly h is asked =
      let x = past f high exactly in
      not-eq-not.0 (λ l. omega (arith, high, exactly.2.1 (x.0, x.1, (h, is, asked, ltb-true (length lent.reply) (length_due u p h) l))))

  module _ (o : Outcome) where
    -- obeyed, on memory or on fields
    obeyed : (n : ℕ) (asked : Bool) (k : Obeys n asked u p lent o) → (o.answer.unit ≡ counted_as n (unit_due k.0)) × (o.memory ≡ memory_due k.0)
    obeyed n asked (h, is, w, e, inl (q, unit, memory)) = rw (eq-eqb h.protocol 0x01 q) (unit, memory)
    obeyed n asked (h, is, w, e, inr (q, unit, memory)) = rw (ne_eqb h.protocol 0x01 (λ f. omega (arith, q, f))) (unit, memory)

    -- replied to: the status is the one that is due, 0 being one status, and the command is the one that was read
    abbrev Spoken : Header → Status → Status → Type 0
    Spoken h s d =
        (s ≡ d)
        × ((o.answer.unit ≡ counted_as 20 (cond (is_success d) (unit_due h) u)) × (o.memory ≡ cond (is_success d) (memory_due h) (refused_on h d p lent)))

    spoken : (s : Status) (row : Leaves (Replied s) u p lent o) → Spoken row.2.0 s (status_due u p row.2.0)
    spoken s row = go (is_success s) refl
      where
        h : Header
        h = row.2.0

        go : (t : Bool) → is_success s ≡ t → Spoken h s (status_due u p h)
        go true e =
            let k = row.0 e in
            let x = obeyed 20 true k in
            rw (one_command read k.0 h k.1 row.2.1) (zero_is s e ∙ sym (zero_is (status_due u p k.0) k.3), rw k.3 x)
        go false e =
            let k = row.1 e in
            rw (one_command read k.0 h k.1 row.2.1) (k.3, rw (rw k.3 at e) (k.5, rw k.3 at k.6))

    -- past them the reading decides
    by_reading : (f : Fate) → 3 < fate_number f → Exactly u p lent (fate_number f) → {r : Result Packet Refusal} → read ≡ r → o ≡ due_as r → o ≡ due
    by_reading f high exactly is e = rw ((past f high exactly).0, (past f high exactly).1, is) e

    -- row by row
    is_due : (f : Fate) → o.answer.fate ≡ f → Exactly u p lent (fate_number f) → Leaves f u p lent o → o ≡ due
    is_due TimeChanged e exactly row = absurd row
    is_due Unusable e exactly (unit, memory, reply) = rw (exactly.0.0 refl) (outcome_is o e unit memory reply)
    is_due NoSuchLink e exactly (unit, memory, reply) =
        let x = exactly.1.0 refl in
        rw (x.0, x.1) (outcome_is o e unit memory reply)
    is_due NoRoom e exactly (unit, memory, reply) =
        let x = exactly.2.0 refl in
        let k = x.2 in
        rw (x.0, x.1, k.1, k.2, lt-ltb (length lent.reply) (length_due u p k.0) k.3) (outcome_is o e unit memory reply)
    is_due (Unread why) e exactly (is, (unit, memory, reply)) =
        by_reading (Unread why) (omega (arith, (unread_number why).0)) exactly is (outcome_is o e unit memory reply)
    is_due TimeThrownAway e exactly ((is, time), (unit, memory, reply)) =
        by_reading TimeThrownAway (omega arith) exactly is (rw time (outcome_is o e unit memory reply))
    is_due (NotObeyed (Ok done)) e exactly ((h, is, asked, d, f, unit, memory), reply) = absurd (false≢true (sym f))
    is_due (NotObeyed (Err offence)) e exactly ((h, is, asked, d, f, unit, memory), reply) =
        by_reading (NotObeyed (Err offence)) (omega arith) exactly is (rw (asked, ← d) (outcome_is o e unit memory reply))
    is_due Obeyed e exactly (k, reply) =
        let x = obeyed 18 false k in
        by_reading Obeyed (omega arith) exactly k.1 (rw (k.2, zero_is (status_due u p k.0) k.3) (outcome_is o e x.0 x.1 reply))
    is_due TimeTaken e exactly (t, (is, time), unit, memory, reply) =
        by_reading TimeTaken (omega arith) exactly is (rw time (outcome_is o e unit memory reply))
    is_due (Replied s) e exactly row =
        let k = row.2 in
        let x = spoken s row in
        by_reading (Replied s) (omega arith) exactly k.1 (rw (k.2, roomy (Replied s) (omega arith) exactly k.0 k.1 k.2)
        (outcome_is o (e ∙ ap Replied x.0) x.1.0 x.1.1 (rw x.0 at k.3.0, rw x.0 at k.3.1)))

-- ---- a small call that meets its row

small_due : (Moved : Clock → Type 0) (u : TheUnit) (c : Clock) (a : Answer) → ((k : Clock) → Moved k → k ≡ c) → SmallRow Moved u a
    → a ≡ small_call u (with_clock u c)
small_due Moved u c a moved (inl (e, n, unit, long)) = rw e (answer_is a unit (rw n at (low_fate a.fate (omega (arith, n)))) long)
small_due Moved u c a moved (inr (e, n, unit, m, long)) =
    rw e (answer_is a (unit ∙ ap (with_clock u) (moved a.unit.clock m)) (rw n at (low_fate a.fate (omega (arith, n)))) long)

-- ---- whatever meets demand 1

pub only_ours : OnlyOurs
unfolding take_time_code take_ticks
only_ours t rows numbers small = (
  λ u p lent bytes.
      is_due u p lent (t.packet u p lent) (t.packet u p lent).answer.fate refl (numbers u p lent) (rows u p lent bytes)
      ∙ sym (is_due u p lent (take_packet u p lent) (take_packet u p lent).answer.fate refl (one_two_three u p lent) (row_by_row u p lent bytes)),
  λ u byte. small_due (ByCode u byte) u (after_code u.clock (byte % 2 ^ 6)) (t.time_code u byte) (λ k moved. moved.0) (small.0 u byte),
  λ u count. small_due (ByTicks u count) u (after_ticks u.clock count) (t.ticks u count) (λ k moved. moved.0) (small.1 u count),
)
