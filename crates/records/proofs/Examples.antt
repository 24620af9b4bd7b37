-- Worked examples: document 01's own log, with what it prints; its records, its unit, and texts, by hand.
use Rattle.std.proofs.Common.{◌≡◌, ℕ, true, List, [], ◌∷◌, ◌++◌, map, length, replicate, Ok, Err, refl, None, Some}
use Rattle.octets.specs.Crc.{crc, mirrored, bits, remainder, message, modulo}
use Rattle.packets.specs.Instruction.{kind_of}
use Rattle.packets.specs.Path.{path_of, or_one_zero, without_leading_zeros, same_path}
use Rattle.packets.specs.Reading.{bare, read_packet, read_protocol, read_command}
use Rattle.packets.specs.Reply.{reply_with, reply_length, replied}
use Rattle.packets.specs.Time.{read_time}
use Rattle.packets.specs.declared.reading.End.TheVariants.{Eop, Eep}
use Rattle.packets.specs.declared.reading.Refusal.TheVariants.{UnknownProtocol}
use Rattle.unit.specs.Windows.{used}
use Rattle.unit.specs.Clock.{after_ticks, after_code}
use Rattle.unit.specs.Owner.{swapped}
use Rattle.unit.specs.Fields.{row_of, values_of, link_information}
use Rattle.unit.specs.Usable.{usable_unit, usable}
use Rattle.unit.specs.Counters.{counted_for}
use Rattle.unit.specs.Decide.{opening_status, span_size, is_authorised, span_status, names_fields, fields_status, header_status, wanted_count, data_status}
use Rattle.unit.specs.Plan.{reply_count, planned_for, decided_by_data, decided_on}
use Rattle.unit.specs.Act.{stored, data_for, replied_to, changed}
use Rattle.unit.specs.Judge.{judged}
use Rattle.unit.specs.Calls.{take_packet, take_time_code, take_ticks}
use Rattle.unit.specs.declared.fate.Offence.TheVariants.{NotAuthorised}
use Rattle.unit.specs.declared.fate.Fate.{Fate}
use Rattle.unit.specs.declared.fate.Fate.TheVariants.{NoSuchLink, Unread, TimeThrownAway, TimeTaken, Replied}
use Rattle.unit.specs.declared.unit.Unit.{Unit as TheUnit}
use Rattle.records.specs.Record.{kind_number, end_number, read_record, size_of}
use Rattle.records.specs.Text.{ascii, glyph, decimal, hexes, status_text, record_line}
use Rattle.records.specs.Log.{bench_unit, start_held, arrived_in, called, lent_by, lines, meaning}
use Rattle.records.specs.declared.record.Item.{Item}
use Rattle.records.specs.declared.record.Item.TheVariants.{Packet, TimeCode, Ticks}
use Rattle.records.specs.declared.record.NoRecord.TheVariants.{Wrong, Cut}
use Rattle.records.specs.declared.bench.Stage.TheVariants.{Fresh}

-- 5A 57 01 03 00 00 02 FE 07 prints 'item fate status reply', '1 12 - 0' and 'end 1'
abbrev log : List ℕ
log = 0x5A ∷ 0x57 ∷ 0x01 ∷ 0x03 ∷ 0x00 ∷ 0x00 ∷ 0x02 ∷ 0xFE ∷ 0x07 ∷ []

pub example : meaning log
    ≡ 0x69 ∷ 0x74 ∷ 0x65 ∷ 0x6D ∷ 0x20 ∷ 0x66 ∷ 0x61 ∷ 0x74 ∷ 0x65 ∷ 0x20 ∷ 0x73 ∷ 0x74 ∷ 0x61 ∷ 0x74 ∷ 0x75 ∷ 0x73 ∷ 0x20 ∷ 0x72 ∷ 0x65 ∷ 0x70 ∷ 0x6C ∷ 0x79 ∷ 0x0A ∷ 0x31 ∷ 0x20 ∷ 0x31 ∷ 0x32 ∷ 0x20 ∷ 0x2D ∷ 0x20 ∷ 0x30 ∷ 0x0A ∷ 0x65 ∷ 0x6E ∷ 0x64 ∷ 0x20 ∷ 0x31 ∷ 0x0A ∷ []
unfolding read_record decimal record_line lines take_packet bare judged counted_for usable usable_unit path_of or_one_zero without_leading_zeros read_packet read_protocol
example = refl

-- with a byte more, the third line is 'bad 9'
pub stray : meaning (log ++ (0x5A ∷ [])) ≡ ascii "item fate status reply\n1 12 - 0\nbad 9\n"
unfolding read_record decimal record_line lines take_packet bare judged counted_for usable usable_unit path_of or_one_zero without_leading_zeros read_packet read_protocol
stray = refl

-- and no bytes print 'end 0'
pub nothing : meaning [] ≡ ascii "item fate status reply\nend 0\n"
unfolding read_record decimal record_line lines take_packet bare judged counted_for usable usable_unit path_of or_one_zero without_leading_zeros read_packet read_protocol
nothing = refl

-- ---- a log whose lines depend on each other

-- Device ID swapped from 0 to 5, by 67 on link 1; the same once more; AB CD written to 10; a Time-Code; two bytes read from 10
abbrev story : List ℕ
story =
    (0x5A ∷ 0x57 ∷ 0x01 ∷ 0x01 ∷ 0x00 ∷ 0x00 ∷ 0x19 ∷ 0xFE ∷ 0x03 ∷ 0x5C ∷ 0x00 ∷ 0x67 ∷ 0x00 ∷ 0x01 ∷ 0x00 ∷ 0x00 ∷ 0x00 ∷ 0x00 ∷ 0x08 ∷ 0x00 ∷ 0x00 ∷ 0x08 ∷ 0xA2 ∷ 0x00 ∷ 0x00 ∷ 0x00 ∷ 0x05 ∷ 0x00 ∷ 0x00 ∷ 0x00 ∷ 0x00 ∷ 0xCF ∷ [])
    ++ (0x5A ∷ 0x57 ∷ 0x01 ∷ 0x01 ∷ 0x00 ∷ 0x00 ∷ 0x19 ∷ 0xFE ∷ 0x03 ∷ 0x5C ∷ 0x00 ∷ 0x67 ∷ 0x00 ∷ 0x02 ∷ 0x00 ∷ 0x00 ∷ 0x00 ∷ 0x00 ∷ 0x08 ∷ 0x00 ∷ 0x00 ∷ 0x08 ∷ 0xD6 ∷ 0x00 ∷ 0x00 ∷ 0x00 ∷ 0x05 ∷ 0x00 ∷ 0x00 ∷ 0x00 ∷ 0x00 ∷ 0xCF ∷ [])
    ++ (0x5A ∷ 0x57 ∷ 0x01 ∷ 0x02 ∷ 0x00 ∷ 0x00 ∷ 0x13 ∷ 0x43 ∷ 0x01 ∷ 0x6C ∷ 0x2A ∷ 0x68 ∷ 0x00 ∷ 0x03 ∷ 0x00 ∷ 0x00 ∷ 0x00 ∷ 0x00 ∷ 0x10 ∷ 0x00 ∷ 0x00 ∷ 0x02 ∷ 0xED ∷ 0xAB ∷ 0xCD ∷ 0xD7 ∷ [])
    ++ (0x5A ∷ 0x57 ∷ 0x02 ∷ 0x00 ∷ 0x00 ∷ 0x00 ∷ 0x01 ∷ 0x05 ∷ [])
    ++ (0x5A ∷ 0x57 ∷ 0x01 ∷ 0x03 ∷ 0x00 ∷ 0x00 ∷ 0x10 ∷ 0x43 ∷ 0x01 ∷ 0x4C ∷ 0x2A ∷ 0x69 ∷ 0x00 ∷ 0x05 ∷ 0x00 ∷ 0x00 ∷ 0x00 ∷ 0x00 ∷ 0x10 ∷ 0x00 ∷ 0x00 ∷ 0x02 ∷ 0xCA ∷ [])

-- with a byte more, behind 32 + 32 + 26 + 8 + 23 of them: the second swap finds 5, and the read what was written
pub told : meaning (story ++ (0x5A ∷ []))
    ≡ ascii "item fate status reply\n"
    ++ ascii "1 20 00 17 67031c00fe000100000004970000000000\n"
    ++ ascii "2 20 00 17 67031c00fe0002000000046d0000000596\n"
    ++ ascii "3 20 00 8 68012c00430003fc\n"
    ++ ascii "4 0 - 0\n"
    ++ ascii "5 20 00 15 69010c00430005000000027aabcdd7\n"
    ++ ascii "bad 121\n"
unfolding read_record decimal record_line lines take_packet bare take_time_code after_code judged decided_on decided_by_data planned_for header_status opening_status span_status span_size is_authorised fields_status names_fields row_of wanted_count data_status reply_count stored data_for replied_to changed swapped counted_for usable usable_unit values_of link_information read_packet read_protocol read_command kind_of without_leading_zeros or_one_zero path_of same_path reply_length replied reply_with crc mirrored bits remainder message modulo
told = refl

-- 0, 9, 10, and the greatest number of 64 bits
pub zero_is : decimal 0 ≡ 0x30 ∷ []
unfolding decimal
zero_is = refl

pub nine_is : decimal 9 ≡ 0x39 ∷ []
unfolding decimal
nine_is = refl

pub ten_is : decimal 10 ≡ 0x31 ∷ 0x30 ∷ []
unfolding decimal
ten_is = refl

pub most_is : decimal 18446744073709551615 ≡ ascii "18446744073709551615"
unfolding decimal
most_is = refl

pub bytes_are : hexes (0x09 ∷ 0x0A ∷ 0xF0 ∷ []) ≡ ascii "090af0"
bytes_are = refl

-- every digit, in lower case
pub digits_are : map glyph (0 ∷ 1 ∷ 2 ∷ 3 ∷ 4 ∷ 5 ∷ 6 ∷ 7 ∷ 8 ∷ 9 ∷ 10 ∷ 11 ∷ 12 ∷ 13 ∷ 14 ∷ 15 ∷ []) ≡ ascii "0123456789abcdef"
digits_are = refl

-- a status is two digits or -
pub statuses_are : map status_text (None ∷ Some 0x00 ∷ Some 0x0C ∷ Some 0xF1 ∷ []) ≡ ascii "-" ∷ ascii "00" ∷ ascii "0c" ∷ ascii "f1" ∷ []
statuses_are = refl

-- record 7, replied with status 10, a reply of two bytes
pub line_is : record_line 7 (Replied (Err NotAuthorised)) (0x00 ∷ 0xFF ∷ []) ≡ ascii "7 20 0a 2 00ff\n"
unfolding record_line decimal
line_is = refl

-- ---- records: mark 5A 57, kind, link, end, length (2 bytes), body

abbrev head : ℕ → ℕ → ℕ → ℕ → ℕ → List ℕ
head kind link end high low = 0x5A ∷ 0x57 ∷ kind ∷ link ∷ end ∷ high ∷ low ∷ []

-- 1 packet, 2 Time-Code, 3 ticks; 0 EOP, 1 EEP
pub kinds_are : map kind_number (Packet Eop 1 0 ∷ TimeCode 0 ∷ Ticks 0 ∷ []) ≡ 1 ∷ 2 ∷ 3 ∷ []
kinds_are = refl

pub ends_are : map end_number (Eop ∷ Eep ∷ []) ≡ 0 ∷ 1 ∷ []
ends_are = refl

-- packets with either end, an empty one on link 0, one on link 255; a Time-Code; ticks, high byte first
pub right_ones :
    map read_record (
    (head 1 3 0 0 2 ++ (0xFE ∷ 0x07 ∷ []))
    ∷ (head 1 4 1 0 2 ++ (0xFE ∷ 0x07 ∷ []))
    ∷ head 1 0 0 0 0
    ∷ head 1 255 1 0 0
    ∷ (head 2 0 0 0 1 ++ (0x3F ∷ []))
    ∷ (head 3 0 0 0 4 ++ (0x01 ∷ 0x02 ∷ 0x03 ∷ 0x04 ∷ []))
    ∷ []
    )
    ≡ Ok (Packet Eop 3 2)
    ∷ Ok (Packet Eep 4 2)
    ∷ Ok (Packet Eop 0 0)
    ∷ Ok (Packet Eep 255 0)
    ∷ Ok (TimeCode 0x3F)
    ∷ Ok (Ticks 0x01020304)
    ∷ []
unfolding read_record
right_ones = refl

-- each flaw by itself
pub wrong_ones :
    map read_record (
    -- the mark: its first byte, its second, both in the other order
    (0x5B ∷ 0x57 ∷ 0x01 ∷ 0x01 ∷ 0x00 ∷ 0x00 ∷ 0x00 ∷ [])
    ∷ (0x5A ∷ 0x56 ∷ 0x01 ∷ 0x01 ∷ 0x00 ∷ 0x00 ∷ 0x00 ∷ [])
    ∷ (0x57 ∷ 0x5A ∷ 0x01 ∷ 0x01 ∷ 0x00 ∷ 0x00 ∷ 0x00 ∷ [])
    -- kinds 0 and 4, as long as any of the others
    ∷ head 0 0 0 0 0
    ∷ (head 0 0 0 0 1 ++ (0x3F ∷ []))
    ∷ head 4 0 0 0 0
    ∷ (head 4 0 0 0 4 ++ (0x01 ∷ 0x02 ∷ 0x03 ∷ 0x04 ∷ []))
    -- a packet: end 2, a body of 4,097, one of 65,535
    ∷ head 1 1 2 0 0
    ∷ head 1 1 0 0x10 0x01
    ∷ head 1 1 0 0xFF 0xFF
    -- a Time-Code: on a link, with EEP, a body of 0, of 2, of 256
    ∷ (head 2 1 0 0 1 ++ (0x3F ∷ []))
    ∷ (head 2 0 1 0 1 ++ (0x3F ∷ []))
    ∷ head 2 0 0 0 0
    ∷ (head 2 0 0 0 2 ++ (0x3F ∷ 0x00 ∷ []))
    ∷ head 2 0 0 1 0
    -- ticks: on a link, with EEP, a body of 3, of 5
    ∷ (head 3 1 0 0 4 ++ (0x01 ∷ 0x02 ∷ 0x03 ∷ 0x04 ∷ []))
    ∷ (head 3 0 1 0 4 ++ (0x01 ∷ 0x02 ∷ 0x03 ∷ 0x04 ∷ []))
    ∷ (head 3 0 0 0 3 ++ (0x01 ∷ 0x02 ∷ 0x03 ∷ []))
    ∷ (head 3 0 0 0 5 ++ (0x01 ∷ 0x02 ∷ 0x03 ∷ 0x04 ∷ 0x05 ∷ []))
    ∷ []
    )
    ≡ replicate 19 (Err Wrong)
unfolding read_record
wrong_ones = refl

-- nothing; six bytes of a right head; each kind without the last byte of its body
pub cut_ones :
    map read_record (
    []
    ∷ (0x5A ∷ 0x57 ∷ 0x01 ∷ 0x01 ∷ 0x00 ∷ 0x00 ∷ [])
    ∷ (head 1 3 0 0 2 ++ (0xFE ∷ []))
    ∷ head 2 0 0 0 1
    ∷ (head 3 0 0 0 4 ++ (0x01 ∷ 0x02 ∷ 0x03 ∷ []))
    ∷ []
    )
    ≡ replicate 5 (Err Cut)
unfolding read_record
cut_ones = refl

-- a body of 4,096 bytes, and a byte less than it tells
pub longest_one : map (λ (n : ℕ). read_record (head 1 1 0 0x10 0x00 ++ replicate n 0)) (4096 ∷ 4095 ∷ []) ≡ Ok (Packet Eop 1 4096) ∷ Err Cut ∷ []
unfolding read_record
longest_one = refl

-- seven bytes and the body
pub sizes_are : map size_of (Packet Eop 1 0 ∷ Packet Eep 1 4096 ∷ TimeCode 0 ∷ Ticks 0 ∷ []) ≡ 7 ∷ 4103 ∷ 8 ∷ 11 ∷ []
sizes_are = refl

-- ---- the unit: address 43, key 2A, number F0, 4 links, 4,096 zero bytes, one window over them with both rights, other fields 0

pub unit_is : (bench_unit.logical ≡ 0x43) × (bench_unit.key ≡ 0x2A) × (bench_unit.number ≡ 0xF0) × (bench_unit.links ≡ 4)
unit_is = (refl, refl, refl, refl)

pub window_is : used bench_unit.windows ≡ record { start = 0; end = 4096; read = true; write = true } ∷ []
window_is = refl

pub fields_are :
    let f = bench_unit.fields in
    f.vendor ∷ f.version ∷ f.status ∷ f.active ∷ f.information ∷ f.maker ∷ f.serial ∷ f.base ∷ f.range ∷ f.divider ∷ [] ≡ replicate 10 0
fields_are = refl

-- no owner; no Time-Code, no time and none that waits; nothing counted
pub rest_is :
    (bench_unit.owner ≡ record { device = 0; initiator = 0; path = record { bytes = replicate 12 0; count = 0 }; link = 0 })
    × (bench_unit.clock ≡ record { last = 0; elapsed = record { value = 0; epoch = 0 }; waiting = None })
    × (bench_unit.counters ≡ replicate 11 0)
unfolding path_of
rest_is = (refl, refl, refl)

-- what is lent to it, with a reply buffer of 8,192 bytes; and nothing printed yet, no records, offset 0
pub start_is :
    (start_held.memory ≡ replicate 4096 0) × (length start_held.reply ≡ 8192)
    × (start_held.bench ≡ record { stage = Fresh; unit = bench_unit; items = 0; offset = 0 })
start_is = (refl, refl, refl)

-- ---- the call that a record stands for

-- a packet is the body, with its end and its link
pub body_arrives : arrived_in (head 1 3 1 0 2 ++ (0xFE ∷ 0x07 ∷ 0x5A ∷ [])) Eep 3 2 ≡ record { packet = 0xFE ∷ 0x07 ∷ []; end = Eep; link = 3 }
body_arrives = refl

abbrev fate_of : Item → List ℕ → Fate
fate_of item s = (called item s bench_unit (lent_by start_held)).answer.fate

-- a packet of an unknown protocol on the last link, and on one that is not there
pub by_link : map (λ (link : ℕ). fate_of (Packet Eop link 2) log) (4 ∷ 5 ∷ []) ≡ Unread UnknownProtocol ∷ NoSuchLink ∷ []
unfolding take_packet bare judged counted_for usable usable_unit path_of or_one_zero without_leading_zeros read_packet read_protocol
by_link = refl

-- a time packet with either end
abbrev time_log : List ℕ
time_log = head 1 1 0 0 12 ++ (0xFE ∷ 0xF0 ∷ 0x9F ∷ 0x01 ∷ 0x00 ∷ 0x00 ∷ 0x00 ∷ 0x05 ∷ 0x80 ∷ 0x00 ∷ 0x00 ∷ 0xB0 ∷ [])

pub by_end : fate_of (Packet Eop 1 12) time_log ∷ fate_of (Packet Eep 1 12) time_log ∷ [] ≡ TimeTaken ∷ TimeThrownAway ∷ []
unfolding take_packet bare judged counted_for usable usable_unit path_of or_one_zero without_leading_zeros read_packet read_protocol read_time crc mirrored bits remainder message modulo
by_end = refl

-- a Time-Code goes to the last one, ticks to the elapsed time
abbrev left_by_law : Item → ℕ × ℕ
left_by_law item =
    let u : TheUnit = (called item [] bench_unit (lent_by start_held)).answer.unit in
    (u.clock.last, u.clock.elapsed.value)

pub by_kind : map left_by_law (TimeCode 0x05 ∷ Ticks 0x05 ∷ []) ≡ (5, 0) ∷ (0, 5) ∷ []
unfolding take_time_code take_ticks after_code after_ticks usable_unit path_of or_one_zero without_leading_zeros
by_kind = refl
