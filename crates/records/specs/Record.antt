-- A record of a log (document 01, 'Bench program'): mark 5A 57, kind, link, end, length (2 bytes), body; high byte first.
use Rattle.std.specs.Prelude.{ℕ, ◌+◌, Bool, cond, not, ◌&&◌, ◌||◌, List, length, Result, Ok, Err, ◌==◌, nat_le, nat_lt, slice_index}
use Rattle.octets.specs.Places.{part}
use Rattle.octets.specs.Numbers.{number}
use Rattle.packets.specs.declared.reading.End.{End}
use Rattle.packets.specs.declared.reading.End.TheVariants.{Eop, Eep}
use Rattle.records.specs.declared.record.Item.{Item}
use Rattle.records.specs.declared.record.Item.TheVariants.{Packet, TimeCode, Ticks}
use Rattle.records.specs.declared.record.NoRecord.{NoRecord}
use Rattle.records.specs.declared.record.NoRecord.TheVariants.{Wrong, Cut}

-- Document 01's number of each kind of record, and of each end.
abbrev pub kind_number : Item → ℕ
kind_number (Packet end link size) = 1
kind_number (TimeCode byte) = 2
kind_number (Ticks count) = 3

abbrev pub end_number : End → ℕ
end_number Eop = 0
end_number Eep = 1

-- Kind 1 is a packet: end 0 or 1, body at most 4,096. Kinds 2, a Time-Code, and 3, ticks, need link and end 0 and a body of 1 and of 4.
abbrev pub is_right : ℕ → ℕ → ℕ → ℕ → Bool
is_right kind link end size =
    (kind == 1) && nat_le end 1 && nat_le size 4096
    || kind == 2 && link == 0 && end == 0 && size == 1
    || kind == 3 && link == 0 && end == 0 && size == 4

-- The length of the body.
abbrev pub body_size : List ℕ → ℕ
body_size s = number (part 5 2 s)

-- The mark is there, and kind, link, end and length go together.
abbrev pub is_head : List ℕ → Bool
is_head s = slice_index s 0 == 0x5A && slice_index s 1 == 0x57 && is_right (slice_index s 2) (slice_index s 3) (slice_index s 4) (body_size s)

-- From numbers back. That no right head falls under the last case wrongly is `kind_told` and `packet_told`, in RecordLaws.
abbrev pub end_of : ℕ → End
end_of byte = cond (byte == end_number Eop) Eop Eep

-- What a right record asks for.
abbrev pub item_of : List ℕ → Item
item_of s =
    cond (slice_index s 2 == 1) (Packet (end_of (slice_index s 4)) (slice_index s 3) (body_size s))
    (cond (slice_index s 2 == 2) (TimeCode (slice_index s 7)) (Ticks (number (part 7 4 s))))

-- The record that s begins with: what it asks for; that it is wrong; or that there are too few bytes to tell, or for it to be whole.
unfoldable pub read_record : List ℕ → Result Item NoRecord
read_record s =
    cond (nat_lt (length s) 7) (Err Cut)
    (cond (not (is_head s)) (Err Wrong)
    (cond (nat_lt (length s) (7 + body_size s)) (Err Cut) (Ok (item_of s))))

-- How many bytes a record has.
abbrev pub size_of : Item → ℕ
size_of (Packet end link size) = 7 + size
size_of (TimeCode byte) = 8
size_of (Ticks count) = 11
