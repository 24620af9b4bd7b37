-- The plan for a command (document 01, 'Effects', 'Reply', 'Numbers a caller gets'): fate, status, what is to be done, and how long the
-- reply is.
use Rattle.std.specs.Prelude.{ℕ, ◌+◌, ◌/◌, min, cond, not, ◌&&◌, List, ◌==◌, nat_lt, Ok, Err}
use Rattle.octets.specs.Places.{part}
use Rattle.octets.specs.Numbers.{number}
use Rattle.packets.specs.Instruction.{is_rmw, is_verified, is_incrementing, wants_reply, header_size}
use Rattle.packets.specs.Header.{kind_in}
use Rattle.packets.specs.Reply.{reply_length}
use Rattle.packets.specs.declared.instruction.Instruction.{Instruction}
use Rattle.packets.specs.declared.instruction.Kind.{Kind}
use Rattle.packets.specs.declared.instruction.Kind.TheVariants.{Unused, Read, ReadModifyWrite, Write}
use Rattle.packets.specs.declared.header.Header.{Header}
use Rattle.packets.specs.declared.path.Path.{Path}
use Rattle.packets.specs.declared.reading.End.{End}
use Rattle.unit.specs.Fate.{Status, byte_of, is_success}
use Rattle.unit.specs.Given.{Arrived}
use Rattle.unit.specs.Decide.{rmw_count, header_status, AtHand, all_at_hand, data_count, data_status_on}
use Rattle.unit.specs.declared.fate.Fate.{Fate}
use Rattle.unit.specs.declared.fate.Fate.TheVariants.{NoRoom, NotObeyed, Obeyed, Replied}
use Rattle.unit.specs.declared.decide.Action.{Action}
use Rattle.unit.specs.declared.decide.Action.TheVariants.{Nothing, ReadMemory, RepeatByte, Store, StoreLast, Combine, ReadFields, Swap, WriteField}
use Rattle.unit.specs.declared.decide.Plan.{Plan}
use Rattle.unit.specs.declared.unit.Unit.{Unit as TheUnit}

-- What a command does that its header allows, by its status. Its data stand in the packet from the place `from` on.

-- Read: L bytes from A, or L times the byte at A if single.
abbrev pub read_action : Instruction → Status → ℕ → ℕ → Action
read_action i status at count = cond (is_success status) (cond (is_incrementing i) (ReadMemory at count) (RepeatByte at count)) Nothing

-- RMW: n = L/2 bytes.
abbrev pub rmw_action : Status → ℕ → ℕ → ℕ → Action
rmw_action status at from count = cond (is_success status) (Combine at from count) Nothing

-- Write: the bytes upward; single leaves the last. A write without verify stores even where it ends in 4, 5, 6 or 7.
abbrev pub write_action : Instruction → Status → ℕ → ℕ → ℕ → Action
write_action i status at from count =
    cond (is_verified i && not (is_success status)) Nothing (cond (is_incrementing i) (Store at from count) (StoreLast at from count))

-- It stores the first min(k, L) of the k bytes behind the header.
abbrev pub action_of : Kind → Header → Status → ℕ → ℕ → Action
action_of Unused h status from k = Nothing
action_of Read h status from k = read_action h.instruction status h.address h.length
action_of ReadModifyWrite h status from k = rmw_action status h.address from (rmw_count h)
action_of Write h status from k = write_action h.instruction status h.address from (min k h.length)

abbrev pub memory_action : Header → Status → ℕ → ℕ → Action
memory_action h status from k = action_of (kind_in h) h status from k

-- Fields: a read of L/4; a swap, new value first, expected second; a write of one word (that it is one is a law).
abbrev pub field_action_of : Kind → Header → List ℕ → ℕ → Action
field_action_of Unused h p from = Nothing
field_action_of Read h p from = ReadFields h.address (h.length / 4)
field_action_of ReadModifyWrite h p from = Swap (number (part from 4 p)) (number (part (from + 4) 4 p))
field_action_of Write h p from = WriteField h.address (number (part from 4 p))

abbrev pub field_action : Header → Status → List ℕ → ℕ → Action
field_action h status p from = cond (is_success status) (field_action_of (kind_in h) h p from) Nothing

-- Data of the reply to an obeyed read: L bytes; RMW and swap: L/2.
unfoldable pub reply_count : Header → ℕ
reply_count h = cond (is_rmw (kind_in h)) (rmw_count h) h.length

-- No reply asked for: 18 obeyed, 17 refused with a status.
abbrev pub unanswered_fate : Status → Fate
unanswered_fate (Ok done) = Obeyed
unanswered_fate (Err offence) = NotObeyed (Err offence)

-- A reply asked for: 20, or 3 where it is longer than the room. 3 goes before any effect.
abbrev pub answered : Status → Action → ℕ → ℕ → Plan
answered status action size room =
    cond (nat_lt room size)
    (record { fate = NoRoom; status = status; action = Nothing; length = 0 })
    (record { fate = Replied status; status = status; action = action; length = size })

unfoldable pub planned_for : Header → Path → Status → Action → ℕ → Plan
planned_for h path status action room =
    cond (wants_reply h.instruction)
    (answered status action (reply_length path h (byte_of status) (reply_count h)) room)
    (record { fate = unanswered_fate status; status = status; action = action; length = 0 })

-- The second half, where the header allows the command, by the status that the data give. They stand behind the header.
unfoldable pub decided_by_data : Header → Path → AtHand → Status → ℕ → Plan
decided_by_data h path hand status room =
    planned_for h path status
    (cond (h.protocol == 0x01)
    (memory_action h status (header_size h.instruction) (data_count h hand))
    (field_action h status hand.bytes (header_size h.instruction))) room

-- Both, from what is at hand: what the header refuses is refused; else the data decide.
unfoldable pub decided_on : TheUnit → Header → Path → AtHand → End → ℕ → ℕ → Plan
decided_on u h path hand end link room =
    cond (is_success (header_status u h path link))
    (decided_by_data h path hand (data_status_on h hand end) room)
    (planned_for h path (header_status u h path link) Nothing room)

-- Where all is at hand.
abbrev pub decided : TheUnit → Header → Path → Arrived → ℕ → Plan
decided u h path p room = decided_on u h path (all_at_hand h p) p.end p.link room
