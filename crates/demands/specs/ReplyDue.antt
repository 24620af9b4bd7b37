-- The reply that a command is due, byte by byte (document 01, 'Effects', 'Fields' and 'Reply').
use Rattle.std.specs.Prelude.{◌≡◌, true, cond, List, [], ◌++◌, ℕ, ◌/◌, ◌≤◌, eqb, length, get_or, replicate}
use Rattle.octets.specs.Places.{part, placed}
use Rattle.octets.specs.Numbers.{bytes_of}
use Rattle.octets.specs.Crc.{crc, with_crc}
use Rattle.packets.specs.Instruction.{is_write, wants_reply, is_incrementing}
use Rattle.packets.specs.Header.{kind_in}
use Rattle.packets.specs.Path.{path_bytes}
use Rattle.packets.specs.Reply.{reply_head, carried}
use Rattle.packets.specs.declared.instruction.Kind.{Kind}
use Rattle.packets.specs.declared.instruction.Kind.TheVariants.{Unused, Read, ReadModifyWrite, Write}
use Rattle.packets.specs.declared.header.Header.{Header}
use Rattle.unit.specs.Fate.{Status, byte_of}
use Rattle.unit.specs.Fields.{named, values_of, field_bytes}
use Rattle.unit.specs.Given.{Arrived, Lent}
use Rattle.unit.specs.Decide.{rmw_count}
use Rattle.unit.specs.Calls.{Outcome}
use Rattle.unit.specs.declared.unit.Unit.{Unit as TheUnit}
use Rattle.demands.specs.Terminal.{IsCommand, path_in}

-- The data of a reply with status 0. Read: L bytes from A, or L times the byte at A if single; RMW: the L/2 bytes that were there.
abbrev pub memory_data : Kind → Header → List ℕ → List ℕ
memory_data Unused h m = []
memory_data Read h m =
    cond (is_incrementing h.instruction) (part h.address h.length m) (replicate h.length (get_or m h.address 0))
memory_data ReadModifyWrite h m = part h.address (rmw_count h) m
memory_data Write h m = []

-- Fields: L/4 of them; a swap answers the old Device ID.
abbrev pub field_data : Kind → TheUnit → Header → ℕ → List ℕ
field_data Unused u h link = []
field_data Read u h link = field_bytes (values_of u.fields u.owner u.clock.last u.links link) (named h.address (h.length / 4))
field_data ReadModifyWrite u h link = bytes_of 4 u.owner.device
field_data Write u h link = []

-- Errors carry none, and no reply to a command with the write bit does.
abbrev pub data_due : TheUnit → Arrived → Lent → Header → Status → List ℕ
data_due u p lent h s =
    carried h (byte_of s) (cond (eqb h.protocol 0x01) (memory_data (kind_in h) h lent.memory) (field_data (kind_in h) u h p.link))

-- Behind the path: the header, which ends in its CRC; and the data, which end in theirs, unless the command has the write bit.
abbrev pub head_part : Header → Status → List ℕ → List ℕ
head_part h s d = reply_head h (byte_of s) (length d)

abbrev pub data_part : Header → List ℕ → List ℕ
data_part h d = cond (is_write h.instruction) [] (with_crc d)

-- The whole of it: path, header and data.
abbrev pub reply_due : TheUnit → Arrived → Lent → Header → Status → List ℕ
reply_due u p lent h s = path_bytes (path_in u p) ++ head_part h s (data_due u p lent h s) ++ data_part h (data_due u p lent h s)

-- Bytes were written as a reply: they had room, they stand first in the buffer, unused bytes keep what they held, and the answer tells how many they are.
abbrev pub Written : List ℕ → Lent → Outcome → Type 0
Written bytes lent o = (o.reply ≡ placed 0 bytes lent.reply) × (o.answer.length ≡ length bytes) × (length bytes ≤ length lent.reply)

-- A reply with a status was asked for, and the one that is due was written. The CRC, run over header or data with their own CRC behind them, gives 0.
abbrev pub ReplyBytes : TheUnit → Arrived → Lent → Status → Outcome → Type 0
ReplyBytes u p lent s o =
    (h : Header)
    × IsCommand u p h
    × (wants_reply h.instruction ≡ true)
    × Written (reply_due u p lent h s) lent o
    × (crc (head_part h s (data_due u p lent h s)) ≡ 0)
    × (crc (data_part h (data_due u p lent h s)) ≡ 0)
