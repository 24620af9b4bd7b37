-- Demand 1: the table of numbers, row by row (document 01, 'Numbers a caller gets' and 'Effects').
use Rattle.std.specs.Prelude.{◌≡◌, Bool, true, false, cond, not, ◌&&◌, ◌⊎◌, ◌↔◌, List, [], ◌∷◌, ℕ, ◌+◌, ◌-◌, ◌%◌, ◌^◌, ◌<◌, min, eqb, length, drop, Option, Some, None, Err, Ok}
use Rattle.octets.specs.Places.{part, placed}
use Rattle.octets.specs.Numbers.{Digits, number}
use Rattle.octets.specs.Crc.{crc}
use Rattle.packets.specs.Instruction.{is_write, is_verified, wants_reply, is_incrementing, header_size}
use Rattle.packets.specs.Header.{kind_in}
use Rattle.packets.specs.Reading.{number_of}
use Rattle.packets.specs.Reply.{reply_length}
use Rattle.packets.specs.Time.{read_time}
use Rattle.packets.specs.declared.instruction.Kind.{Kind}
use Rattle.packets.specs.declared.instruction.Kind.TheVariants.{Unused, Read, ReadModifyWrite, Write}
use Rattle.packets.specs.declared.header.Header.{Header}
use Rattle.packets.specs.declared.reading.Packet.TheVariants.{Time}
use Rattle.packets.specs.declared.time.Time.{Time as TheTime}
use Rattle.unit.specs.Some.{some}
use Rattle.unit.specs.Fate.{Status, byte_of, is_success, or_else, fate_number, fate_status}
use Rattle.unit.specs.Counters.{bumped_at, total}
use Rattle.unit.specs.Clock.{after_time, after_code, after_ticks}
use Rattle.unit.specs.Usable.{usable, usable_unit}
use Rattle.unit.specs.Given.{Arrived, as_read, Lent}
use Rattle.unit.specs.Decide.{rmw_count, header_status, wanted_count, data_status}
use Rattle.unit.specs.Plan.{reply_count}
use Rattle.unit.specs.Owner.{swapped}
use Rattle.unit.specs.Act.{combined, last_of, with_counters, with_clock, with_owner, field_written}
use Rattle.unit.specs.Judge.{is_link}
use Rattle.unit.specs.Calls.{Outcome}
use Rattle.unit.specs.declared.fate.Fate.{Fate}
use Rattle.unit.specs.declared.fate.Fate.TheVariants.{TimeChanged, Unusable, NoSuchLink, NoRoom, Unread, TimeThrownAway, NotObeyed, Obeyed, TimeTaken, Replied}
use Rattle.unit.specs.declared.clock.Clock.{Clock}
use Rattle.unit.specs.declared.calls.Answer.{Answer}
use Rattle.unit.specs.declared.unit.Unit.{Unit as TheUnit}
use Rattle.demands.specs.Terminal.{Terminal, ReadAs, IsCommand, path_in, Every}
use Rattle.demands.specs.ReplyDue.{ReplyBytes}

-- ---- what a row says of the unit

-- The unit with one more in the counter of a number from 11 to 20, and one more in the total; all else as it was.
abbrev pub counted_as : ℕ → TheUnit → TheUnit
counted_as number u = with_counters u (bumped_at total (bumped_at (number - 11) u.counters))

-- The word that the data of a plug-and-play command begin with, behind the header, and the next one.
abbrev pub first_word : Header → Arrived → ℕ
first_word h p = number (part (header_size h.instruction) 4 (as_read p).packet)

abbrev pub second_word : Header → Arrived → ℕ
second_word h p = number (part (header_size h.instruction + 4) 4 (as_read p).packet)

-- What an obeyed plug-and-play command makes of the unit, by its kind: a swap has the new value first, the expected one second, and its sender is known by initiator
-- address, reply path and link; a write has its word.
abbrev pub obeyed_by : Kind → TheUnit → Header → Arrived → TheUnit
obeyed_by Unused u h p = u
obeyed_by Read u h p = u
obeyed_by ReadModifyWrite u h p = with_owner u (swapped u.owner (first_word h p) (second_word h p) h.initiator (path_in u p) p.link)
obeyed_by Write u h p = field_written u h.address (first_word h p)

-- ---- what a row says of memory

-- The first min(k, L) of the k bytes behind the header.
abbrev pub first_data : Header → Arrived → List ℕ
first_data h p = part (header_size h.instruction) (min (length (as_read p).packet - header_size h.instruction) h.length) (as_read p).packet

-- A write puts them into memory from A on; single, it leaves the last of them at A.
abbrev pub written_to : Header → Arrived → Lent → List ℕ
written_to h p lent = placed h.address (cond (is_incrementing h.instruction) (first_data h p) (last_of (first_data h p))) lent.memory

-- An RMW combines the n = L/2 bytes that it reads from A on with n data and then n masks.
abbrev pub combined_in : Header → Arrived → Lent → List ℕ
combined_in h p lent =
    placed h.address
    (combined (part h.address (rmw_count h) lent.memory) (part (header_size h.instruction) (rmw_count h) (as_read p).packet)
    (part (header_size h.instruction + rmw_count h) (rmw_count h) (as_read p).packet)) lent.memory

-- What an obeyed RMAP command leaves in memory, by its kind.
abbrev pub obeyed_on : Kind → Header → Arrived → Lent → List ℕ
obeyed_on Unused h p lent = lent.memory
obeyed_on Read h p lent = lent.memory
obeyed_on ReadModifyWrite h p lent = combined_in h p lent
obeyed_on Write h p lent = written_to h p lent

-- What a refused command leaves: an RMAP write without verify has stored, where it ended in 4, 5, 6 or 7; nothing else has.
abbrev pub has_stored : Header → Status → Bool
has_stored h s =
    eqb h.protocol 0x01 && is_write h.instruction && not (is_verified h.instruction) && some (eqb (byte_of s)) (4 ∷ 5 ∷ 6 ∷ 7 ∷ [])

abbrev pub refused_on : Header → Status → Arrived → Lent → List ℕ
refused_on h s p lent = cond (has_stored h s) (written_to h p lent) lent.memory

-- ---- what a row says of the reply buffer

-- No reply: all bytes keep what they held. (A reply: `ReplyBytes`, in ReplyDue.)
abbrev pub NoReply : Lent → Outcome → Type 0
NoReply lent o = (o.reply ≡ lent.reply) × (o.answer.length ≡ 0)

-- ---- when a row is given

-- The status that a command is due: the header's, and where the header allows it the data's, by the number k of bytes behind the header, their CRC, how many are
-- wanted, and the end; and the length of its reply.
abbrev pub status_due : TheUnit → Arrived → Header → Status
status_due u p h =
    or_else (header_status u h (path_in u p) p.link)
    (data_status (length (as_read p).packet - header_size h.instruction) (crc (drop (header_size h.instruction) (as_read p).packet)) (wanted_count h) p.end)

abbrev pub length_due : TheUnit → Arrived → Header → ℕ
length_due u p h = reply_length (path_in u p) h (byte_of (status_due u p h)) (reply_count h)

-- The packet is read as a time packet, thrown away or taken.
abbrev pub TimeReadAs : TheUnit → Arrived → Option TheTime → Type 0
TimeReadAs u p time = ReadAs u p (Ok Time) × (read_time (as_read p).packet p.end u.logical u.number ≡ time)

-- ---- the rows

-- 1, 2, 3: everything unchanged, nothing counted. When they are given: `OneTwoThree`.
abbrev pub Unchanged : TheUnit → Lent → Outcome → Type 0
Unchanged u lent o = (o.answer.unit ≡ u) × (o.memory ≡ lent.memory) × NoReply lent o

-- 11 to 16: counted, no reply.
abbrev pub OnlyCounted : ℕ → TheUnit → Lent → Outcome → Type 0
OnlyCounted number u lent o = (o.answer.unit ≡ counted_as number u) × (o.memory ≡ lent.memory) × NoReply lent o

-- 19: counted, no reply, and the time changed by what the packet says.
abbrev pub TimeSet : TheUnit → Arrived → Lent → Outcome → Type 0
TimeSet u p lent o =
    (t : TheTime)
    × TimeReadAs u p (Some t)
    × (o.answer.unit ≡ counted_as 19 (with_clock u (after_time u.clock t)))
    × (o.memory ≡ lent.memory)
    × NoReply lent o

-- A command that asked for a reply or did not, refused with the status that it is due, which is not 0: counted.
abbrev pub Refuses : Status → ℕ → Bool → TheUnit → Arrived → Lent → Outcome → Type 0
Refuses s number asked u p lent o =
    (h : Header)
    × IsCommand u p h
    × (wants_reply h.instruction ≡ asked)
    × (s ≡ status_due u p h)
    × (is_success s ≡ false)
    × (o.answer.unit ≡ counted_as number u)
    × (o.memory ≡ refused_on h s p lent)

-- A command that asked for a reply or did not, obeyed, since status 0 is due: counted, effect done. RMAP changes nothing else of the unit, plug-and-play
-- changes no memory.
abbrev pub Obeys : ℕ → Bool → TheUnit → Arrived → Lent → Outcome → Type 0
Obeys number asked u p lent o =
    (h : Header)
    × IsCommand u p h
    × (wants_reply h.instruction ≡ asked)
    × (is_success (status_due u p h) ≡ true)
    × (((h.protocol ≡ 0x01) × (o.answer.unit ≡ counted_as number u) × (o.memory ≡ obeyed_on (kind_in h) h p lent))
    ⊎ ((h.protocol ≡ 0x03) × (o.answer.unit ≡ counted_as number (obeyed_by (kind_in h) u h p)) × (o.memory ≡ lent.memory)))

-- The table: when a packet that arrived gets a fate, and what it then leaves of unit, memory and reply buffer.
abbrev pub Leaves : Fate → TheUnit → Arrived → Lent → Outcome → Type 0
Leaves TimeChanged u p lent o = ⊥  -- 0 is no packet's
Leaves Unusable u p lent o = Unchanged u lent o  -- 1
Leaves NoSuchLink u p lent o = Unchanged u lent o  -- 2
Leaves NoRoom u p lent o = Unchanged u lent o  -- 3
Leaves (Unread why) u p lent o = ReadAs u p (Err why) × OnlyCounted (number_of why) u lent o  -- 11 to 15
Leaves TimeThrownAway u p lent o = TimeReadAs u p None × OnlyCounted 16 u lent o
Leaves (NotObeyed s) u p lent o = Refuses s 17 false u p lent o × NoReply lent o
Leaves Obeyed u p lent o = Obeys 18 false u p lent o × NoReply lent o
Leaves TimeTaken u p lent o = TimeSet u p lent o  -- 19
Leaves (Replied s) u p lent o =
    (is_success s ≡ true → Obeys 20 true u p lent o) × (is_success s ≡ false → Refuses s 20 true u p lent o) × ReplyBytes u p lent s o

-- ---- the demand

-- Every packet of bytes, whatever its end, link, memory and reply buffer, is due its fate by that fate's row, and leaves what the row says.
abbrev pub RowByRow : Terminal → Type 0
RowByRow t =
    (u : TheUnit) (p : Arrived) (lent : Lent) → Digits 256 p.packet
    → Leaves (t.packet u p lent).answer.fate u p lent (t.packet u p lent)

-- The packet is a command whose reply, asked for, is longer than the reply buffer.
abbrev pub LacksRoom : TheUnit → Arrived → Lent → Type 0
LacksRoom u p lent = (h : Header) × IsCommand u p h × (wants_reply h.instruction ≡ true) × (length lent.reply < length_due u p h)

-- 1 goes before 2, 2 before all else. 1 exactly if the unit is unusable with that memory; 2 exactly if it is usable, and the link is 0 or above
-- the link count; 3 exactly if neither is so, and a reply lacks room.
abbrev pub Exactly : TheUnit → Arrived → Lent → ℕ → Type 0
Exactly u p lent number =
    ((number ≡ 1) ↔ (usable u (length lent.memory) ≡ false))
    × ((number ≡ 2) ↔ ((usable u (length lent.memory) ≡ true) × (is_link u p.link ≡ false)))
    × ((number ≡ 3) ↔ ((usable u (length lent.memory) ≡ true) × (is_link u p.link ≡ true) × LacksRoom u p lent))

abbrev pub OneTwoThree : Terminal → Type 0
OneTwoThree t = (u : TheUnit) (p : Arrived) (lent : Lent) → Exactly u p lent (fate_number (t.packet u p lent).answer.fate)

-- The small calls answer 1 and leave the unit, where it is unusable for another cause than memory; else 0, and only the clock changes, to what the
-- definitions make of it. Neither counts, and neither has a reply. A Time-Code becomes the last one, whoever owns the unit: it is no packet. Ticks leave the
-- last one, and what waits.
abbrev pub SmallRow : (Clock → Type 0) → TheUnit → Answer → Type 0
SmallRow Moved u a =
    ((usable_unit u ≡ false) × (fate_number a.fate ≡ 1) × (a.unit ≡ u) × (a.length ≡ 0))
    ⊎ ((usable_unit u ≡ true) × (fate_number a.fate ≡ 0) × (a.unit ≡ with_clock u a.unit.clock) × Moved a.unit.clock × (a.length ≡ 0))

abbrev pub ByCode : TheUnit → ℕ → Clock → Type 0
ByCode u byte c = (c ≡ after_code u.clock (byte % 2 ^ 6)) × (c.last ≡ byte % 2 ^ 6)

abbrev pub ByTicks : TheUnit → ℕ → Clock → Type 0
ByTicks u count c = (c ≡ after_ticks u.clock count) × (c.last ≡ u.clock.last) × (c.waiting ≡ u.clock.waiting)

abbrev pub SmallRows : Terminal → Type 0
SmallRows t =
    ((u : TheUnit) (byte : ℕ) → SmallRow (ByCode u byte) u (t.time_code u byte))
    × ((u : TheUnit) (count : ℕ) → SmallRow (ByTicks u count) u (t.ticks u count))

-- ---- the numbers

abbrev pub numbers : List ℕ
numbers = 1 ∷ 2 ∷ 3 ∷ 11 ∷ 12 ∷ 13 ∷ 14 ∷ 15 ∷ 16 ∷ 17 ∷ 18 ∷ 19 ∷ 20 ∷ []

-- 1 and 8 are not used.
abbrev pub statuses : List ℕ
statuses = 0 ∷ 2 ∷ 3 ∷ 4 ∷ 5 ∷ 6 ∷ 7 ∷ 9 ∷ 10 ∷ 11 ∷ 12 ∷ 0xF0 ∷ 0xF1 ∷ 0xF2 ∷ 0xF3 ∷ []

-- 17, 18 and 20 have a status, the others none.
abbrev pub Carries : ℕ → Option ℕ → Type 0
Carries number None = some (eqb number) (17 ∷ 18 ∷ 20 ∷ []) ≡ false
Carries number (Some status) = (some (eqb number) (17 ∷ 18 ∷ 20 ∷ []) ≡ true) × (some (eqb status) statuses ≡ true)

-- A packet gets one of these numbers (one, since a fate has one), with a status or none. Most of that holds of the enum `Fate`, whatever a terminal does; which
-- fate a packet has is said by the rows.
abbrev pub Listed : Terminal → Type 0
Listed t =
    (u : TheUnit) (p : Arrived) (lent : Lent)
    → (some (eqb (fate_number (t.packet u p lent).answer.fate)) numbers ≡ true)
    × Carries (fate_number (t.packet u p lent).answer.fate) (fate_status (t.packet u p lent).answer.fate)

-- No row is empty: each of the numbers is some packet's.
abbrev pub Gives : Terminal → ℕ → Type 0
Gives t number =
    (u : TheUnit) × (p : Arrived) × (lent : Lent) × (fate_number (t.packet u p lent).answer.fate ≡ number)

abbrev pub NoRowEmpty : Terminal → Type 0
NoRowEmpty t = Every (Gives t) numbers
