-- The ways that a packet and a command can go: what holds of each of them holds of every one. No memory command changes the unit, no field
-- command changes memory.
use Rattle.std.proofs.Common.{◌≡◌, ℕ, ◌+◌, Bool, true, false, cond, eqb, ◌≢◌, List, [], length, refl, Ok, Err, ap, subst}
use Rattle.std.specs.Prelude.{Option, Some, None, Result, Ok, Err}
use Rattle.octets.specs.Places.{part}
use Rattle.octets.specs.Numbers.{number}
use Rattle.packets.specs.Instruction.{wants_reply, header_size}
use Rattle.packets.specs.Header.{kind_in}
use Rattle.packets.specs.Reading.{read_packet, path_read}
use Rattle.packets.proofs.ReadingLaws.{with_path}
use Rattle.packets.specs.Reply.{reply_length, replied}
use Rattle.packets.specs.Time.{read_time}
use Rattle.packets.specs.declared.instruction.Kind.{Kind}
use Rattle.packets.specs.declared.instruction.Kind.TheVariants.{Unused, Read, ReadModifyWrite, Write}
use Rattle.packets.specs.declared.header.Header.{Header}
use Rattle.packets.specs.declared.path.Path.{Path}
use Rattle.packets.specs.declared.reading.Packet.{Packet}
use Rattle.packets.specs.declared.reading.Packet.TheVariants.{Time, Command}
use Rattle.packets.specs.declared.reading.Refusal.{Refusal}
use Rattle.packets.specs.declared.time.Time.{Time as TheTime}
use Rattle.unit.specs.Fate.{Status, byte_of, is_success, fate_number}
use Rattle.unit.specs.Counters.{counted_for}
use Rattle.unit.specs.Clock.{after_time, time_code_written}
use Rattle.unit.specs.Owner.{swapped}
use Rattle.unit.specs.Fields.{row_of, time_code_counter, divider, divider_written}
use Rattle.unit.specs.Usable.{usable_unit, usable}
use Rattle.unit.specs.Given.{Arrived, as_read, Lent, sizes_of}
use Rattle.unit.specs.Decide.{header_status, all_at_hand, data_count, data_status_of}
use Rattle.unit.specs.Plan.{action_of, field_action_of, unanswered_fate, reply_count, planned_for, decided}
use Rattle.unit.specs.Judge.{is_link}
use Rattle.unit.specs.Act.{stored, data_for, replied_to, with_owner, with_fields, with_clock, field_written, changed, counted_unit}
use Rattle.unit.specs.Calls.{Outcome, without_reply, leaving, acted, done, take_packet, small_call}
use Rattle.unit.specs.declared.fate.Offence.{Offence}
use Rattle.unit.specs.declared.fate.Fate.{Fate}
use Rattle.unit.specs.declared.fate.Fate.TheVariants.{TimeChanged, Unusable, NoSuchLink, NoRoom, Unread, TimeThrownAway, NotObeyed, Obeyed, TimeTaken, Replied}
use Rattle.unit.specs.declared.calls.Answer.{Answer}
use Rattle.unit.specs.declared.decide.Action.{Action}
use Rattle.unit.specs.declared.decide.Action.TheVariants.{Nothing}
use Rattle.unit.specs.declared.decide.Plan.{Plan}
use Rattle.unit.specs.declared.unit.Unit.{Unit as TheUnit}
use Rattle.unit.proofs.JudgeLaws.{judged_is}
use Rattle.unit.proofs.PlanLaws.{action_is, memory_action_in, field_action_in, planned_is, decided_is}
use Rattle.unit.proofs.MemoryLaws.{fields_store_none}

-- what is lent, with another memory
abbrev pub with_memory : Lent → List ℕ → Lent
with_memory lent n = record { memory = n; reply = lent.reply }

-- a command that was judged, done
unfoldable pub take_command : TheUnit → Header → Path → Arrived → Lent → Outcome
take_command u h path p lent = acted (decided u h path p (length lent.reply)) u h path p.packet p.link lent

-- ---- a packet: 1, 2, refused as it was read, a time packet thrown away or taken, or a command

module _ (u : TheUnit) (p : Arrived) where
  abbrev path : Path
  path = path_read (read_packet (as_read p).packet u.number)

  abbrev read : Result Packet Refusal
  read = read_packet (as_read p).packet u.number

  -- it is the command with that header, and with its path
  abbrev Commands : Header → Type 0
  Commands h = read ≡ Ok (Command (record { header = h; path = path }))

  abbrev time : Option TheTime
  time = read_time (as_read p).packet p.end u.logical u.number

  -- the fate is all, counted; and the time is taken
  abbrev ended : Fate → Answer
  ended fate = without_reply fate (counted_unit fate u)

  abbrev timed : TheTime → Answer
  timed t = without_reply TimeTaken (counted_unit TimeTaken (with_clock u (after_time u.clock t)))

  -- on two memories of one length it goes the same way
  module _ (lent : Lent) (n : List ℕ) (long : length lent.memory ≡ length n) (R : Outcome → Outcome → Type 0) where
    abbrev Both : Answer → Type 0
    Both a = R (leaving a lent) (leaving a (with_memory lent n))

    abbrev Works : Bool → Type 0
    Works t = usable u (length lent.memory) ≡ t

    abbrev Linked : Bool → Type 0
    Linked t = is_link u p.link ≡ t

    pub packets_are : (Works false → Both (without_reply Unusable u))
        → (Works true → Linked false → Both (without_reply NoSuchLink u))
        → (Works true → Linked true → (why : Refusal) → read ≡ Err why → Both (ended (Unread why)))
        → (Works true → Linked true → read ≡ Ok Time → time ≡ None → Both (ended TimeThrownAway))
        → (Works true → Linked true → read ≡ Ok Time → (t : TheTime) → time ≡ Some t → Both (timed t))
        → (Works true → Linked true → (h : Header) → Commands h → R (take_command u h path (as_read p) lent) (take_command u h path (as_read p) (with_memory lent n)))
        → R (take_packet u p lent) (take_packet u p (with_memory lent n))
    unfolding take_packet take_command counted_for
    packets_are one two refused away taken command =
        rw (← long)
        (judged_is u (as_read p) (sizes_of lent) (λ j. R (done j u (as_read p).packet p.link lent) (done j u (as_read p).packet p.link (with_memory lent n))) one two refused away taken
        (λ e f c g.
        subst (λ (k : Path). R (take_command u c.header k (as_read p) lent) (take_command u c.header k (as_read p) (with_memory lent n))) (ap path_read g)
        (command e f c.header (with_path read c g))))

  -- and on one memory
  module _ (lent : Lent) (Q : Outcome → Type 0) where
    pub packet_is : (usable u (length lent.memory) ≡ false → Q (leaving (without_reply Unusable u) lent))
        → (usable u (length lent.memory) ≡ true → is_link u p.link ≡ false → Q (leaving (without_reply NoSuchLink u) lent))
        → (usable u (length lent.memory) ≡ true → is_link u p.link ≡ true → (why : Refusal) → read ≡ Err why → Q (leaving (ended (Unread why)) lent))
        → (usable u (length lent.memory) ≡ true → is_link u p.link ≡ true → read ≡ Ok Time → Q (leaving (ended TimeThrownAway) lent))
        → (usable u (length lent.memory) ≡ true → is_link u p.link ≡ true → read ≡ Ok Time → (t : TheTime) → Q (leaving (timed t) lent))
        → (usable u (length lent.memory) ≡ true → is_link u p.link ≡ true → (h : Header) → Commands h → Q (take_command u h path (as_read p) lent))
        → Q (take_packet u p lent)
    packet_is one two refused away taken command =
        packets_are lent lent.memory refl (λ o o'. Q o) one two refused (λ e f g w. away e f g) (λ e f g t w. taken e f g t) command

-- ---- a small call: 1, or 0 and another unit

pub small_is : (u v : TheUnit) (Q : Answer → Type 0) → (usable_unit u ≡ false → Q (without_reply Unusable u)) → (usable_unit u ≡ true → Q (without_reply TimeChanged v))
    → Q (small_call u v)
small_is u v Q one zero = go (usable_unit u) refl
  where
    go : (t : Bool) → usable_unit u ≡ t → Q (cond t (without_reply TimeChanged v) (without_reply Unusable u))
    go true e = zero e
    go false e = one e

-- ---- a memory action changes nothing of the unit

memory_unit : (kind : Kind) (h : Header) (s : Status) (from k : ℕ) (u : TheUnit) (path : Path) (link : ℕ)
    → changed (action_of kind h s from k) u h.initiator path link ≡ u
unfolding changed
memory_unit kind h s from k u path link =
    action_is (λ a. changed a u h.initiator path link ≡ u) kind h s from k refl (λ a b c. refl) (λ a b c. refl) (λ a b. refl) (λ a c. refl) (λ a c. refl)

-- ---- a field action: nothing, a swap, or a write to the Time-Code counter or to the divider

module _ (u : TheUnit) (h : Header) (path : Path) (p : List ℕ) (link from : ℕ) (Q : TheUnit → Type 0) where
  write_changes : (address word : ℕ) → Q u → Q (with_clock u (time_code_written u.clock word)) → Q (with_fields u (divider_written u.fields word))
      → Q (field_written u address word)
  unfolding field_written
  write_changes address word same code div = go (eqb (row_of address) time_code_counter) (eqb (row_of address) divider)
    where
      go : (a b : Bool) → Q (cond a (with_clock u (time_code_written u.clock word)) (cond b (with_fields u (divider_written u.fields word)) u))
      go true b = code
      go false true = div
      go false false = same

  pub field_changes : (t : Bool) (kind : Kind) → Q u
      → ((new expected : ℕ) → t ≡ true → kind ≡ ReadModifyWrite → Q (with_owner u (swapped u.owner new expected h.initiator path link)))
      → ((word : ℕ) → t ≡ true → kind ≡ Write → Q (with_clock u (time_code_written u.clock word)) × Q (with_fields u (divider_written u.fields word)))
      → Q (changed (cond t (field_action_of kind h p from) Nothing) u h.initiator path link)
  unfolding changed
  field_changes false kind same swap write = same
  field_changes true Unused same swap write = same
  field_changes true Read same swap write = same
  field_changes true ReadModifyWrite same swap write = swap (number (part from 4 p)) (number (part (from + 4) 4 p)) refl refl
  field_changes true Write same swap write =
      let w = write (number (part from 4 p)) refl refl in
      write_changes h.address (number (part from 4 p)) same w.0 w.1

-- ---- a command: no room for its reply, or its effect with a reply or none asked for

-- an outcome whose fate is counted
abbrev pub settled : Fate → TheUnit → List ℕ → List ℕ → ℕ → Outcome
settled fate v m r n = record { answer = record { unit = counted_unit fate v; fate = fate; length = n }; memory = m; reply = r }

module _ (u : TheUnit) (h : Header) (path : Path) (p : Arrived) where
  abbrev first : Status
  first = header_status u h path p.link

  abbrev second : Status
  second = data_status_of h p

  -- what an answer with status s is, where it leaves the unit v and the memory n, with d as data of a reply
  abbrev pub spoken : List ℕ → Status → TheUnit → List ℕ → List ℕ → Outcome
  spoken r s v n d = settled (Replied s) v n (replied path h (byte_of s) d r) (reply_length path h (byte_of s) (reply_count h))

  abbrev pub silent : List ℕ → Status → TheUnit → List ℕ → Outcome
  silent r s v n = settled (unanswered_fate s) v n r 0

  abbrev asked : Bool → Type 0
  asked t = wants_reply h.instruction ≡ t

  -- on two memories
  module _ (lent : Lent) (n : List ℕ) (R : Outcome → Outcome → Type 0) where
    abbrev m : List ℕ
    m = lent.memory

    abbrev r : List ℕ
    r = lent.reply

    abbrev pub BothAnswer : Status → TheUnit → List ℕ → List ℕ → List ℕ → List ℕ → Type 0
    BothAnswer s v a b d e = (asked true → R (spoken r s v a d) (spoken r s v b e)) × (asked false → R (silent r s v a) (silent r s v b))

    -- of an action: what it leaves of both memories, and its data
    abbrev BothDo : Status → TheUnit → Action → Type 0
    BothDo s v a = BothAnswer s v (stored a p.packet m) (stored a p.packet n) (data_for a u p.link m) (data_for a u p.link n)

    abbrev NoRooms : Type 0
    NoRooms = R (leaving (without_reply NoRoom u) lent) (leaving (without_reply NoRoom u) (with_memory lent n))

    abbrev acting : Plan → Type 0
    acting plan = R (acted plan u h path p.packet p.link lent) (acted plan u h path p.packet p.link (with_memory lent n))

    planned_acts : (s : Status) (a : Action) → NoRooms → BothDo s (changed a u h.initiator path p.link) a → acting (planned_for h path s a (length r))
    unfolding replied_to stored changed counted_for
    planned_acts s a none does =
        planned_is h path s a (length r) acting (λ w l. none) (λ w l. does.0 w) (λ w e. rw e at (does.1 w)) (λ w o e. rw e at (does.1 w))

    pub commands_are : NoRooms
        → (is_success first ≡ false → BothAnswer first u m n [] [])
        → (h.protocol ≡ 0x01 → is_success first ≡ true → BothDo second u (memory_action_in h p))
        → ((h.protocol ≡ 0x01 → ⊥) → is_success first ≡ true
        → BothAnswer second (changed (field_action_in h p) u h.initiator path p.link) m n
        (data_for (field_action_in h p) u p.link m) (data_for (field_action_in h p) u p.link n))
        → R (take_command u h path p lent) (take_command u h path p (with_memory lent n))
    unfolding take_command changed stored data_for
    commands_are none refused memory fields =
        decided_is u h path (all_at_hand h p) p.end p.link (length r) acting
        (λ s. planned_acts first Nothing none (refused s))
        (λ e s. planned_acts second (memory_action_in h p) none
        (rw (memory_unit (kind_in h) h second (header_size h.instruction) (data_count h (all_at_hand h p)) u path p.link) (memory e s)))
        (λ e s. planned_acts second (field_action_in h p) none
        (rw (
          fields_store_none (is_success second) (kind_in h) h p.packet m (header_size h.instruction),
          fields_store_none (is_success second) (kind_in h) h p.packet n (header_size h.instruction),
        ) (fields e s)))

  -- and on one memory
  module _ (lent : Lent) (Q : Outcome → Type 0) where
    abbrev pub Answers : Status → TheUnit → List ℕ → List ℕ → Type 0
    Answers s v n d = (asked true → Q (spoken lent.reply s v n d)) × (asked false → Q (silent lent.reply s v n))

    pub command_is : Q (leaving (without_reply NoRoom u) lent)
        → (is_success first ≡ false → Answers first u lent.memory [])
        → (h.protocol ≡ 0x01 → is_success first ≡ true
        → Answers second u (stored (memory_action_in h p) p.packet lent.memory) (data_for (memory_action_in h p) u p.link lent.memory))
        → ((h.protocol ≡ 0x01 → ⊥) → is_success first ≡ true
        → Answers second (changed (field_action_in h p) u h.initiator path p.link) lent.memory (data_for (field_action_in h p) u p.link lent.memory))
        → Q (take_command u h path p lent)
    command_is = commands_are lent lent.memory (λ o o'. Q o)

-- its fate: 3, 20, 17 with a status that is not 0, or 18
pub command_fate : (u : TheUnit) (h : Header) (path : Path) (p : Arrived) (lent : Lent) (P : Fate → Type 0)
    → P NoRoom → ((s : Status) → P (Replied s)) → ((offence : Offence) → P (NotObeyed (Err offence))) → P Obeyed
    → P (take_command u h path p lent).answer.fate
command_fate u h path p lent P three twenty seventeen eighteen =
    command_is u h path p lent (λ o. P o.answer.fate) three (λ e. either (header_status u h path p.link)) (λ e a. either (data_status_of h p))
    (λ e a. either (data_status_of h p))
  where
    quiet : (s : Status) → P (unanswered_fate s)
    quiet (Ok done) = eighteen
    quiet (Err offence) = seventeen offence

    either : {A B : Type 0} (s : Status) → (A → P (Replied s)) × (B → P (unanswered_fate s))
    either s = (λ w. twenty s, λ w. quiet s)

-- ---- the unit after a packet: as it was, with the time of a time packet, or after a swap or a write to a field; and counted

module _ (u : TheUnit) (p : Arrived) (lent : Lent) (Q : TheUnit → Type 0) (counted : (f : Fate) (v : TheUnit) → Q v → Q (counted_unit f v)) where
  abbrev path' : Path
  path' = path_read (read_packet (as_read p).packet u.number)

  -- what holds where a command on fields is accepted
  abbrev Changes : Header → Type 0
  Changes h =
      (kind_in h ≡ ReadModifyWrite → (new expected : ℕ) → Q (with_owner u (swapped u.owner new expected h.initiator path' p.link)))
      × (kind_in h ≡ Write → (word : ℕ) → Q (with_clock u (time_code_written u.clock word)) × Q (with_fields u (divider_written u.fields word)))

  pub unit_is : Q u
      → (usable u (length lent.memory) ≡ true → (t : TheTime) → read_time (as_read p).packet p.end u.logical u.number ≡ Some t → Q (with_clock u (after_time u.clock t)))
      → (usable u (length lent.memory) ≡ true → is_link u p.link ≡ true → (h : Header) → read_packet (as_read p).packet u.number ≡ Ok (Command (record { header = h; path = path' }))
      → (h.protocol ≡ 0x01 → ⊥) → is_success (header_status u h path' p.link) ≡ true → Changes h)
      → Q (take_packet u p lent).answer.unit
  unit_is same time fields =
      packets_are u p lent lent.memory refl (λ o o'. Q o.answer.unit) (λ e. same) (λ e f. same) (λ e f why g. counted (Unread why) u same)
      (λ e f g w. counted TimeThrownAway u same) (λ e f g t w. counted TimeTaken (with_clock u (after_time u.clock t)) (time e t w))
      (λ e f h g. command_is u h path' (as_read p) lent (λ o. Q o.answer.unit) same (λ a. both (header_status u h path' p.link) u same) (λ q a. both (data_status_of h (as_read p)) u same)
      (λ q a. both (data_status_of h (as_read p)) (changed (field_action_in h (as_read p)) u h.initiator path' p.link) (after h (fields e f h g q a))))
    where
      both : {A B : Type 0} (s : Status) (v : TheUnit) → Q v → (A → Q (counted_unit (Replied s) v)) × (B → Q (counted_unit (unanswered_fate s) v))
      both s v x = (λ w. counted (Replied s) v x, λ w. counted (unanswered_fate s) v x)

      after : (h : Header) → Changes h → Q (changed (field_action_in h (as_read p)) u h.initiator path' p.link)
      after h changes =
          field_changes u h path' (as_read p).packet p.link (header_size h.instruction) Q (is_success (data_status_of h (as_read p))) (kind_in h) same
          (λ new expected t k. changes.0 k new expected) (λ word t k. changes.1 k word)

-- ---- the time after a packet: as it was, unless a time packet was taken (19)

module _ (u : TheUnit) (p : Arrived) (lent : Lent) where
  abbrev pub TimeStays : TheUnit → Type 0
  TimeStays v = (v.clock.elapsed ≡ u.clock.elapsed) × (v.clock.waiting ≡ u.clock.waiting)

  pub time_stays : fate_number (take_packet u p lent).answer.fate ≢ 19 → TimeStays (take_packet u p lent).answer.unit
  time_stays =
      packet_is u p lent (λ o. fate_number o.answer.fate ≢ 19 → TimeStays o.answer.unit) (λ e n. same) (λ e f n. same) (λ e f why g n. same) (λ e f g n. same)
      (λ e f g t n. absurd (n refl))
      (λ e f h g. command_is u h (path u p) (as_read p) lent (λ o. fate_number o.answer.fate ≢ 19 → TimeStays o.answer.unit) (λ n. same) (λ a. (λ w n. same, λ w n. same))
      (λ q a. (λ w n. same, λ w n. same)) (λ q a. (λ w n. fields h, λ w n. fields h)))
    where
      same : TimeStays u
      same = (refl, refl)

      -- the Time-Code counter has the last Time-Code alone
      written : (word : ℕ) → TimeStays (with_clock u (time_code_written u.clock word))
      written word = go (eqb word 0)
        where
          go : (t : Bool) → TimeStays (with_clock u (cond t (record { last = 0; elapsed = u.clock.elapsed; waiting = u.clock.waiting }) u.clock))
          go true = (refl, refl)
          go false = (refl, refl)

      fields : (h : Header) → TimeStays (changed (field_action_in h (as_read p)) u h.initiator (path u p) p.link)
      fields h =
          field_changes u h (path u p) (as_read p).packet p.link (header_size h.instruction) TimeStays (is_success (data_status_of h (as_read p))) (kind_in h) same
          (λ new expected t k. same) (λ word t k. (written word, same))
