-- Worked examples of what is decided about a command, computed by the definitions: worked out by hand from document 01 ('Reading a packet', 'Span',
-- 'Effects', 'Reply', 'Fields', 'Owner').
use Rattle.std.proofs.Common.{◌≡◌, ℕ, ◌+◌, ◌*◌, ◌^◌, Bool, true, false, List, [], ◌∷◌, map, replicate, refl, None, Ok, Err}
use Rattle.octets.proofs.Tabulate.{tabulate}
use Rattle.packets.specs.Instruction.{kind_of}
use Rattle.packets.specs.Path.{same_path}
use Rattle.packets.specs.declared.instruction.Kind.{Kind}
use Rattle.packets.specs.declared.instruction.Kind.TheVariants.{Read, ReadModifyWrite, Write}
use Rattle.packets.specs.declared.header.Header.{Header}
use Rattle.packets.specs.declared.path.Path.{Path}
use Rattle.packets.specs.declared.reading.End.TheVariants.{Eop, Eep}
use Rattle.unit.specs.Fate.{Status}
use Rattle.unit.specs.Windows.{holds, has_right}
use Rattle.unit.specs.Fields.{row_of}
use Rattle.unit.specs.Decide.{opening_status, span_size, is_authorised, span_status, is_field_length, names_fields, is_allowed, fields_status, header_status, wanted_count, data_status, data_count}
use Rattle.unit.specs.Plan.{memory_action, field_action, reply_count}
use Rattle.unit.specs.Act.{stored}
use Rattle.unit.specs.declared.fate.Offence.TheVariants.{UnusedCode, WrongKey, DataCrc, EarlyEop, TooMuchData, EndedByEep, VerifyOverrun, NotAuthorised, RmwLength, WrongAddress, NotOwner, NoSuchField, ReadOnlyField, PlainDeviceId}
use Rattle.unit.specs.declared.windows.Window.{Window}
use Rattle.unit.specs.declared.windows.Windows.{Windows}
use Rattle.unit.specs.declared.owner.Owner.{Owner}
use Rattle.unit.specs.declared.decide.Action.{Action}
use Rattle.unit.specs.declared.decide.Action.TheVariants.{Nothing, ReadMemory, RepeatByte, Store, StoreLast, Combine, ReadFields, Swap, WriteField}
use Rattle.unit.proofs.ExampleParts.{window, windows, zeros, owner, clock, unit}

-- ---- commands

-- instruction bytes, all with a reply: incrementing or single, without and with verify
abbrev read : ℕ
read = 0b01001100

abbrev read_single : ℕ
read_single = 0b01001000

abbrev rmw : ℕ
rmw = 0b01011100

abbrev write : ℕ
write = 0b01101100

abbrev write_single : ℕ
write_single = 0b01101000

abbrev verified : ℕ
verified = 0b01111100

abbrev verified_single : ℕ
verified_single = 0b01111000

-- from initiator 67: protocol, target, instruction, key, extended address, address, L
abbrev header : ℕ → ℕ → ℕ → ℕ → ℕ → ℕ → ℕ → Header
header protocol target byte key extended address size = record {
  target = target;
  protocol = protocol;
  instruction = record { byte = byte };
  key = key;
  initiator = 0x67;
  transaction = 1;
  extended = extended;
  address = address;
  length = size;
}

-- to a unit with address 43 and key 2A; and to its fields
abbrev memory : ℕ → ℕ → ℕ → ℕ → Header
memory byte extended address size = header 0x01 0x43 byte 0x2A extended address size

abbrev field : ℕ → ℕ → ℕ → ℕ → Header
field byte extended address size = header 0x03 0xFE byte 0x00 extended address size

-- ---- status 2, then 3, then 12

abbrev opening : ℕ → ℕ → ℕ → Status
opening target byte key = opening_status (header 0x01 target byte key 0 0 0) 0x2A 0x43

openings :
    -- the unit's key, and its address or FE
    (opening 0x43 read 0x2A ≡ Ok tt)
    × (opening 0xFE read 0x2A ≡ Ok tt)
    -- 12: an address that is neither
    × (opening 0x42 read 0x2A ≡ Err WrongAddress)
    × (opening 0xFF read 0x2A ≡ Err WrongAddress)
    × (opening 0x00 read 0x2A ≡ Err WrongAddress)
    -- 3: another key; it goes before 12
    × (opening 0x43 read 0x2B ≡ Err WrongKey)
    × (opening 0x42 read 0x2B ≡ Err WrongKey)
    -- 2: code 0001, type 10, type 11; it goes before both
    × (opening 0x43 0b01000100 0x2A ≡ Err UnusedCode)
    × (opening 0x42 0b01000100 0x2B ≡ Err UnusedCode)
    × (opening 0x42 0b10001100 0x2B ≡ Err UnusedCode)
    × (opening 0x43 0b11001100 0x2A ≡ Err UnusedCode)
unfolding opening_status kind_of
openings = (refl, refl, refl, refl, refl, refl, refl, refl, refl, refl, refl)

-- ---- the span

-- L if incrementing, L/2 for RMW; the smaller of L and 1 if single
sizes :
    (map (λ (byte : ℕ). span_size (memory byte 0 0 8)) (read ∷ write ∷ verified ∷ rmw ∷ []) ≡ 8 ∷ 8 ∷ 8 ∷ 4 ∷ [])
    × (map (λ (byte : ℕ). span_size (memory byte 0 0 5)) (read_single ∷ write_single ∷ verified_single ∷ []) ≡ 1 ∷ 1 ∷ 1 ∷ [])
    × (map (λ (n : ℕ). span_size (memory read_single 0 0 n)) (0 ∷ 1 ∷ 2 ∷ []) ≡ 0 ∷ 1 ∷ 1 ∷ [])
    × (map (λ (n : ℕ). span_size (memory rmw 0 0 n)) (0 ∷ 2 ∷ 6 ∷ []) ≡ 0 ∷ 1 ∷ 3 ∷ [])
unfolding span_size kind_of
sizes = (refl, refl, refl, refl)

abbrev from_10_to_20 : Window
from_10_to_20 = window 0x10 0x20 true true

-- it starts at or below A, and ends at or above A plus size
held :
    -- one byte: before the window, its first, its last, behind it
    (map (λ (a : ℕ). holds from_10_to_20 a 1) (0x0F ∷ 0x10 ∷ 0x1F ∷ 0x20 ∷ []) ≡ false ∷ true ∷ true ∷ false ∷ [])
    -- as many as it has
    × (map (λ (a : ℕ). holds from_10_to_20 a 16) (0x0F ∷ 0x10 ∷ 0x11 ∷ []) ≡ false ∷ true ∷ false ∷ [])
    -- none: so also for size 0
    × (map (λ (a : ℕ). holds from_10_to_20 a 0) (0x0F ∷ 0x10 ∷ 0x20 ∷ 0x21 ∷ []) ≡ false ∷ true ∷ true ∷ false ∷ [])
    -- whole numbers without wrap: two bytes from the last address on do not end at 1
    × (holds (window 0 0x10 true true) 0xFFFFFFFF 2 ≡ false)
    × (holds (window 0 (2 ^ 32) true true) 0xFFFFFFFF 1 ≡ true)
    × (holds (window 0 (2 ^ 32) true true) 0xFFFFFFFF 2 ≡ false)
held = (refl, refl, refl, refl, refl, refl)

-- no right, the right to read, to write, both
abbrev entitled : Kind → List Bool
entitled kind = map (has_right kind) (window 0 8 false false ∷ window 0 8 true false ∷ window 0 8 false true ∷ window 0 8 true true ∷ [])

rights :
    (entitled Read ≡ false ∷ true ∷ false ∷ true ∷ [])
    × (entitled Write ≡ false ∷ false ∷ true ∷ true ∷ [])
    × (entitled ReadModifyWrite ≡ false ∷ false ∷ false ∷ true ∷ [])
rights = (refl, refl, refl)

-- bytes 0 to 7 to be read, 8 to 15 to be read and written; `count` windows are in use
abbrev two : ℕ → Windows
two count = windows count (window 0 8 true false ∷ window 8 16 true true ∷ [])

authorised :
    -- in the first window; in the second; and half in each: no one window holds it
    (map (λ (a : ℕ). is_authorised (two 2) (memory read 0 a 8)) (0 ∷ 8 ∷ 4 ∷ []) ≡ true ∷ true ∷ false ∷ [])
    × (map (λ (a : ℕ). is_authorised (two 2) (memory write 0 a 8)) (0 ∷ 8 ∷ []) ≡ false ∷ true ∷ [])
    × (map (λ (a : ℕ). is_authorised (two 2) (memory rmw 0 a 8)) (4 ∷ 8 ∷ 12 ∷ 13 ∷ []) ≡ false ∷ true ∷ true ∷ false ∷ [])
    -- a window that is not in use
    × (is_authorised (two 1) (memory read 0 8 8) ≡ false)
    -- extended address not 0
    × (is_authorised (two 2) (memory read 1 0 8) ≡ false)
unfolding is_authorised span_size kind_of
authorised = (refl, refl, refl, refl, refl)

abbrev all : Windows
all = windows 1 (window 0 65536 true true ∷ [])

-- status 11, then 10, then 9
spans :
    -- 11: RMW with L not 0, 2, 4, 6 or 8
    (map (λ (n : ℕ). span_status all (memory rmw 0 0 n)) (0 ∷ 2 ∷ 4 ∷ 6 ∷ 8 ∷ []) ≡ replicate 5 (Ok tt))
    × (map (λ (n : ℕ). span_status all (memory rmw 0 0 n)) (1 ∷ 3 ∷ 5 ∷ 7 ∷ 9 ∷ 10 ∷ []) ≡ replicate 6 (Err RmwLength))
    -- 9: verified write with L above 1,024
    × (map (λ (byte : ℕ). span_status all (memory byte 0 0 1024)) (verified ∷ verified_single ∷ []) ≡ Ok tt ∷ Ok tt ∷ [])
    × (map (λ (byte : ℕ). span_status all (memory byte 0 0 1025)) (verified ∷ verified_single ∷ []) ≡ Err VerifyOverrun ∷ Err VerifyOverrun ∷ [])
    × (map (λ (byte : ℕ). span_status all (memory byte 0 0 1025)) (write ∷ write_single ∷ read ∷ read_single ∷ []) ≡ replicate 4 (Ok tt))
    -- 10; and 11 goes before it, 9 behind it
    × (map (λ (byte : ℕ). span_status all (memory byte 1 0 8)) (read ∷ write ∷ verified ∷ rmw ∷ []) ≡ replicate 4 (Err NotAuthorised))
    × (span_status all (memory rmw 1 0 3) ≡ Err RmwLength)
    × (span_status all (memory verified 1 0 1025) ≡ Err NotAuthorised)
unfolding span_status is_authorised span_size kind_of
spans = (refl, refl, refl, refl, refl, refl, refl, refl)

-- ---- the data

-- a read wants none, write and RMW L + 1
wanted :
    (map (λ (byte : ℕ). wanted_count (memory byte 0 0 8)) (read ∷ read_single ∷ write ∷ write_single ∷ verified ∷ rmw ∷ []) ≡ 0 ∷ 0 ∷ 9 ∷ 9 ∷ 9 ∷ 9 ∷ [])
    × (map (λ (byte : ℕ). wanted_count (memory byte 0 0 0)) (read ∷ write ∷ rmw ∷ []) ≡ 0 ∷ 1 ∷ 1 ∷ [])
unfolding wanted_count kind_of
wanted = (refl, refl)

-- where nine bytes are wanted, and where none is: by how many came, and by their CRC
data_statuses :
    (data_status 9 0 9 Eop ≡ Ok tt)
    × (data_status 0 0 0 Eop ≡ Ok tt)
    -- 7: whatever else is wrong
    × (map (λ (k : ℕ). data_status k 1 9 Eep) (8 ∷ 9 ∷ 10 ∷ []) ≡ replicate 3 (Err EndedByEep))
    × (data_status 9 0 9 Eep ≡ Err EndedByEep)
    × (data_status 0 0 0 Eep ≡ Err EndedByEep)
    -- 5: fewer; 6: more, so also behind a read; both go before 4
    × (map (λ (k : ℕ). data_status k 1 9 Eop) (0 ∷ 8 ∷ 10 ∷ []) ≡ Err EarlyEop ∷ Err EarlyEop ∷ Err TooMuchData ∷ [])
    × (data_status 1 0 0 Eop ≡ Err TooMuchData)
    -- 4
    × (data_status 9 1 9 Eop ≡ Err DataCrc)
unfolding data_status
data_statuses = (refl, refl, refl, refl, refl, refl, refl, refl)

-- k counts the bytes behind a header of 16 + 4r bytes: a write with r = 0, with r = 3
behind : map (λ (byte : ℕ). data_count (memory byte 0 0 8) (record { bytes = []; came = 37; data_crc = 0 })) (write ∷ (write + 3) ∷ []) ≡ 21 ∷ 9 ∷ []
behind = refl

-- ---- effect and reply

-- what a command at address 4 with L of 8 does, by its status: its data begin at 16 in the packet, and k bytes came there
abbrev effect : ℕ → Status → ℕ → Action
effect byte status k = memory_action (memory byte 0 4 8) status 16 k

effects :
    -- read: L bytes from A, or L times the byte at A
    (effect read (Ok tt) 0 ≡ ReadMemory 4 8)
    × (effect read_single (Ok tt) 0 ≡ RepeatByte 4 8)
    × (effect read (Err TooMuchData) 1 ≡ Nothing)
    -- RMW: half of L, and only with status 0
    × (effect rmw (Ok tt) 9 ≡ Combine 4 16 4)
    × (effect rmw (Err DataCrc) 9 ≡ Nothing)
    -- write: the first min(k, L), upward or at A; with verify only with status 0
    × (effect verified (Ok tt) 9 ≡ Store 4 16 8)
    × (effect verified_single (Ok tt) 9 ≡ StoreLast 4 16 8)
    × (map (λ (status : Status). effect verified status 9) (Err DataCrc ∷ Err EarlyEop ∷ Err TooMuchData ∷ Err EndedByEep ∷ []) ≡ replicate 4 Nothing)
    × (map (λ (status : Status). effect write status 9) (Ok tt ∷ Err DataCrc ∷ Err EndedByEep ∷ []) ≡ replicate 3 (Store 4 16 8))
    × (effect write (Err EarlyEop) 5 ≡ Store 4 16 5)
    × (effect write_single (Err TooMuchData) 10 ≡ StoreLast 4 16 8)
unfolding kind_of
effects = (refl, refl, refl, refl, refl, refl, refl, refl, refl, refl, refl)

-- RMW of two bytes: two data, then two masks
combines_two : stored (Combine 0 0 2) (0xAA ∷ 0xCC ∷ 0x0F ∷ 0xF0 ∷ []) (0x55 ∷ 0x55 ∷ []) ≡ 0x5A ∷ 0xC5 ∷ []
unfolding stored
combines_two = refl

-- the data of the reply: L, also for a single address; half of it for RMW
counts : map (λ (byte : ℕ). reply_count (memory byte 0 0 8)) (read ∷ read_single ∷ rmw ∷ []) ≡ 8 ∷ 8 ∷ 4 ∷ []
unfolding reply_count kind_of
counts = refl

abbrev row : List ℕ
row = 0xEE ∷ 0x01 ∷ 0x02 ∷ 0x03 ∷ 0x04 ∷ 0x05 ∷ 0x06 ∷ 0x07 ∷ 0x08 ∷ 0xEE ∷ []

-- a command to fields, whose data begin behind the first byte: a read of L/4; a swap, new value first; a write of the word
field_effects :
    (field_action (field read 0 0x80000 16) (Ok tt) row 1 ≡ ReadFields 0x80000 4)
    × (field_action (field rmw 0 0x08 8) (Ok tt) row 1 ≡ Swap 0x01020304 0x05060708)
    × (field_action (field verified 0 0x80003 4) (Ok tt) row 1 ≡ WriteField 0x80003 0x01020304)
    × (field_action (field verified 0 0x80003 4) (Err DataCrc) row 1 ≡ Nothing)
unfolding kind_of
field_effects = (refl, refl, refl, refl)

-- ---- fields: status 10

-- L: a multiple of 4 from 4 to 64; RMW 8
field_lengths :
    (map (is_field_length Read) (0 ∷ 3 ∷ 4 ∷ 5 ∷ 6 ∷ 8 ∷ 60 ∷ 64 ∷ 65 ∷ 68 ∷ []) ≡ false ∷ false ∷ true ∷ false ∷ false ∷ true ∷ true ∷ true ∷ false ∷ false ∷ [])
    × (map (is_field_length Write) (0 ∷ 3 ∷ 4 ∷ 5 ∷ 6 ∷ 8 ∷ 60 ∷ 64 ∷ 65 ∷ 68 ∷ []) ≡ false ∷ false ∷ true ∷ false ∷ false ∷ true ∷ true ∷ true ∷ false ∷ false ∷ [])
    × (map (is_field_length ReadModifyWrite) (0 ∷ 4 ∷ 7 ∷ 8 ∷ 9 ∷ 12 ∷ 16 ∷ []) ≡ false ∷ false ∷ false ∷ true ∷ false ∷ false ∷ false ∷ [])
field_lengths = (refl, refl, refl)

names :
    -- of the codes 0000 to 1111, with L of 8: 0011, 0111 and 1111
    (tabulate 0 16 (λ code. names_fields (field (0b01000000 + 4 * code) 0 0 8))
    ≡ false ∷ false ∷ false ∷ true ∷ false ∷ false ∷ false ∷ true ∷ false ∷ false ∷ false ∷ false ∷ false ∷ false ∷ false ∷ true ∷ [])
    -- a wrong L
    × (names_fields (field read 0 0 6) ≡ false)
    -- extended address not 0
    × (names_fields (field read 1 0 8) ≡ false)
    -- the fields pass 16,383 or not: one, two, sixteen; of protocol 1; RMW names one
    × (names_fields (field read 0 0x3FFF 4) ≡ true)
    × (map (λ (a : ℕ). names_fields (field read 0 a 8)) (0x3FFE ∷ 0x3FFF ∷ 0x83FFF ∷ []) ≡ true ∷ false ∷ false ∷ [])
    × (map (λ (a : ℕ). names_fields (field read 0 a 64)) (0x3FF0 ∷ 0x3FF1 ∷ []) ≡ true ∷ false ∷ [])
    × (names_fields (field rmw 0 0x3FFF 8) ≡ true)
unfolding names_fields kind_of
names = (refl, refl, refl, refl, refl, refl, refl)

-- ---- fields: the owner

-- Device ID 5, of the claim from initiator 67 on link 1; and nobody's, though all else is the sender's
abbrev claim : ℕ → Owner
claim device = owner device 0x67 0 1

-- read, swap, write
abbrev allowed_to : Owner → ℕ → Path → ℕ → List Bool
allowed_to o initiator path link = map (λ (kind : Kind). is_allowed kind o initiator path link) (Read ∷ ReadModifyWrite ∷ Write ∷ [])

allowed :
    -- the owner
    (allowed_to (claim 5) 0x67 (zeros 0) 1 ≡ true ∷ true ∷ true ∷ [])
    -- another initiator, another path, another link: anyone may read
    × (allowed_to (claim 5) 0x68 (zeros 0) 1 ≡ true ∷ false ∷ false ∷ [])
    × (allowed_to (claim 5) 0x67 (zeros 1) 1 ≡ true ∷ false ∷ false ∷ [])
    × (allowed_to (claim 5) 0x67 (zeros 0) 2 ≡ true ∷ false ∷ false ∷ [])
    -- Device ID 0: anyone may swap, nobody write
    × (allowed_to (claim 0) 0x67 (zeros 0) 1 ≡ true ∷ true ∷ false ∷ [])
unfolding same_path
allowed = (refl, refl, refl, refl, refl)

-- what a stranger on link 2 gets
abbrev stranger : ℕ → ℕ → ℕ → Status
stranger byte address size = fields_status (claim 5) (field byte 0 address size) (zeros 0) 2

-- status 10, then F1, then F2 and F3, then F0
refusals :
    -- 10 before F1
    (stranger read 0x0B 6 ≡ Err NotAuthorised)
    -- F1 before F2, also where the lowest field is read-only
    × (stranger verified 0x0A 8 ≡ Err NoSuchField)
    × (stranger rmw 0x0B 8 ≡ Err NoSuchField)
    -- F2 and F3 before F0
    × (stranger verified 0x00 4 ≡ Err ReadOnlyField)
    × (stranger rmw 0x80000 8 ≡ Err ReadOnlyField)
    × (stranger verified 0x08 4 ≡ Err PlainDeviceId)
    -- F0
    × (stranger verified 0x80003 4 ≡ Err NotOwner)
    × (stranger rmw 0x08 8 ≡ Err NotOwner)
    -- anyone may read
    × (stranger read 0x00 44 ≡ Ok tt)
unfolding fields_status names_fields row_of kind_of same_path
refusals = (refl, refl, refl, refl, refl, refl, refl, refl, refl)

-- ---- both protocols: what each asks for first

abbrev first : Header → Status
first h = header_status (unit 0xF0 4 all 0 (claim 5) (clock 0 0 None)) h (zeros 0) 1

protocols :
    -- RMAP: the unit's key and address; 3 and 12 go before 11
    (first (header 0x01 0x43 rmw 0x2A 0 0 3) ≡ Err RmwLength)
    × (first (header 0x01 0x43 rmw 0x00 0 0 3) ≡ Err WrongKey)
    × (first (header 0x01 0x42 rmw 0x2A 0 0 3) ≡ Err WrongAddress)
    -- plug-and-play: key 00 and address FE, and not the unit's; 2, 3 and 12 go before 10
    × (first (header 0x03 0xFE read 0x00 0 0 4) ≡ Ok tt)
    × (first (header 0x03 0xFE read 0x00 0 0 3) ≡ Err NotAuthorised)
    × (first (header 0x03 0xFE read 0x2A 0 0 3) ≡ Err WrongKey)
    × (first (header 0x03 0x43 read 0x00 0 0 3) ≡ Err WrongAddress)
    × (first (header 0x03 0x43 0b01000100 0x2A 0 0 3) ≡ Err UnusedCode)
unfolding header_status opening_status span_status is_authorised span_size fields_status names_fields row_of kind_of same_path
protocols = (refl, refl, refl, refl, refl, refl, refl, refl)
