-- Worked examples, computed by the definitions: a definition that no longer says what they say is refused here. Those of the papers
-- name their place; the others were worked out by hand.
use Rattle.packets.specs.declared.time.Time.{Time as TheTime}
use Rattle.std.specs.Prelude.{Option, Some, None, Ok, Err}
use mathlib.Core.Path.{◌≡◌, refl}
use mathlib.Core.Bool.{Bool, true, false, cond}
use mathlib.Core.List.{List, [], ◌∷◌, ◌++◌, map}
use Prim.Native.Nat.{ℕ, ◌-◌, ◌/◌, ◌%◌, ◌^◌}
use lib.Dec.{eqb}
use lib.ListN.{replicate, take}
use Rattle.octets.specs.Crc.{crc, with_crc, mirrored, bits, remainder, message, modulo}
use Rattle.octets.proofs.Tabulate.{tabulate}
use Rattle.packets.specs.Instruction.{kind_of, code_of, type_of, is_write, is_verified, wants_reply, is_incrementing, r_of, is_unused, is_read, is_rmw}
use Rattle.packets.specs.Instruction.{reply_address_size, header_size, reply_form}
use Rattle.packets.specs.Path.{without_leading_zeros, or_one_zero, path_of, kept}
use Rattle.packets.specs.Reading.{number_of, bare, read_command, read_protocol, read_packet}
use Rattle.packets.specs.Reply.{reply_with, reply_of, reply_length, reply_fits, replied}
use Rattle.packets.specs.Time.{time_number_of, when_number, read_time}
use Rattle.packets.specs.declared.instruction.Instruction.{Instruction}
use Rattle.packets.specs.declared.instruction.Kind.{Kind}
use Rattle.packets.specs.declared.instruction.Kind.TheVariants.{Unused, Read, ReadModifyWrite, Write}
use Rattle.packets.specs.declared.header.Header.{Header}
use Rattle.packets.specs.declared.reading.Packet.TheVariants.{Time, Command}
use Rattle.packets.specs.declared.reading.Refusal.TheVariants.{Incomplete, UnknownProtocol, ExtendedProtocol, Reply, HeaderCrc}
use Rattle.packets.specs.declared.reading.End.TheVariants.{Eop, Eep}
use Rattle.packets.specs.declared.time.When.TheVariants.{AtWrap, AtOnce}

-- ---- document 01, 'Cases by hand': 7C a verified write, 4C a read, 5C an RMW, all incrementing with a reply

abbrev is : ℕ → Kind × Bool × Bool × Bool × ℕ
is b =
    let i : Instruction = record { byte = b } in
    (kind_of (code_of i), is_verified i, wants_reply i, is_incrementing i, type_of i)

instruction_7c : is 0x7C ≡ (Write, true, true, true, 1)
unfolding kind_of
instruction_7c = refl

instruction_4c : is 0x4C ≡ (Read, false, true, true, 1)
unfolding kind_of
instruction_4c = refl

instruction_5c : is 0x5C ≡ (ReadModifyWrite, true, true, true, 1)
unfolding kind_of
instruction_5c = refl

-- ---- document 01, 'Reading a packet': the instruction byte, each bit by itself, from the highest

-- bits 7-6 type, 5 write, 4 verify, 3 reply wanted, 2 incrementing; 5 to 2 together the code; 1-0 r
abbrev says : ℕ → ℕ × Bool × Bool × Bool × Bool × ℕ × ℕ
says b =
    let i : Instruction = record { byte = b } in
    (type_of i, is_write i, is_verified i, wants_reply i, is_incrementing i, code_of i, r_of i)

one_bit : map says (0x80 ∷ 0x40 ∷ 0x20 ∷ 0x10 ∷ 0x08 ∷ 0x04 ∷ 0x02 ∷ 0x01 ∷ [])
    ≡ (2, false, false, false, false, 0b0000, 0)
    ∷ (1, false, false, false, false, 0b0000, 0)
    ∷ (0, true, false, false, false, 0b1000, 0)
    ∷ (0, false, true, false, false, 0b0100, 0)
    ∷ (0, false, false, true, false, 0b0010, 0)
    ∷ (0, false, false, false, true, 0b0001, 0)
    ∷ (0, false, false, false, false, 0b0000, 2)
    ∷ (0, false, false, false, false, 0b0000, 1)
    ∷ []
one_bit = refl

-- the type at its edges: 00 up to 3F, 01 up to 7F, 10 up to BF, 11 up to FF
types : map (λ (b : ℕ). type_of (record { byte = b })) (0x00 ∷ 0x3F ∷ 0x40 ∷ 0x7F ∷ 0x80 ∷ 0xBF ∷ 0xC0 ∷ 0xFF ∷ []) ≡ 0 ∷ 0 ∷ 1 ∷ 1 ∷ 2 ∷ 2 ∷ 3 ∷ 3 ∷ []
types = refl

-- reply address and header have 4r and 16 + 4r bytes, r from 0 to 3
abbrev sizes_of_law : ℕ → ℕ × ℕ
sizes_of_law b =
    let i : Instruction = record { byte = b } in
    (reply_address_size i, header_size i)

sizes : map sizes_of_law (0x4C ∷ 0x4D ∷ 0x4E ∷ 0x4F ∷ [])
    ≡ (0, 16) ∷ (4, 20) ∷ (8, 24) ∷ (12, 28) ∷ []
sizes = refl

-- the reply's instruction, of each type
reply_forms : map (λ (b : ℕ). (reply_form (record { byte = b })).byte) (0x4C ∷ 0x7F ∷ 0x80 ∷ 0xBF ∷ 0xC0 ∷ 0xFF ∷ [])
    ≡ 0x0C ∷ 0x3F ∷ 0x00 ∷ 0x3F ∷ 0x00 ∷ 0x3F ∷ []
reply_forms = refl

-- ---- 001, Table 5-1: the sixteen command codes

table_5_1 : map kind_of (0 ∷ 1 ∷ 2 ∷ 3 ∷ 4 ∷ 5 ∷ 6 ∷ 7 ∷ 8 ∷ 9 ∷ 10 ∷ 11 ∷ 12 ∷ 13 ∷ 14 ∷ 15 ∷ [])
    ≡ Unused ∷ Unused ∷ Read ∷ Read ∷ Unused ∷ Unused ∷ Unused ∷ ReadModifyWrite
    ∷ Write ∷ Write ∷ Write ∷ Write ∷ Write ∷ Write ∷ Write ∷ Write ∷ []
unfolding kind_of
table_5_1 = refl

-- each kind but the write has a test of its own
abbrev told_as : Kind → Bool × Bool × Bool
told_as k = (is_unused k, is_read k, is_rmw k)

told_apart : map told_as (Unused ∷ Read ∷ ReadModifyWrite ∷ Write ∷ [])
    ≡ (true, false, false) ∷ (false, true, false) ∷ (false, false, true) ∷ (false, false, false) ∷ []
told_apart = refl

-- ---- document 01, 'Numbers a caller gets'

numbers : map number_of (Incomplete ∷ UnknownProtocol ∷ ExtendedProtocol ∷ Reply ∷ HeaderCrc ∷ []) ≡ 11 ∷ 12 ∷ 13 ∷ 14 ∷ 15 ∷ []
numbers = refl

time_numbers : map time_number_of (None ∷ Some (record { epoch = 0x9F; when = AtOnce; value = 0 }) ∷ []) ≡ 16 ∷ 19 ∷ []
time_numbers = refl

-- ---- document 01, 'Time': the last bit of byte 3 is 0 at the wrap, 1 at once

when_numbers : map when_number (AtWrap ∷ AtOnce ∷ []) ≡ 0 ∷ 1 ∷ []
when_numbers = refl

-- ---- 001, Annex A.4: what it prints of the four commands, their headers and the replies to them

abbrev annex_header : ℕ → ℕ → ℕ → Header
annex_header instruction transaction address = record {
  target = 0xFE;
  protocol = 0x01;
  instruction = record { byte = instruction };
  key = 0x00;
  initiator = 0x67;
  transaction = transaction;
  extended = 0x00;
  address = address;
  length = 0x10;
}

abbrev annex_data : List ℕ
annex_data =
    0x01 ∷ 0x23 ∷ 0x45 ∷ 0x67 ∷ 0x89 ∷ 0xAB ∷ 0xCD ∷ 0xEF ∷ 0x10 ∷ 0x11 ∷ 0x12 ∷ 0x13 ∷ 0x14 ∷ 0x15 ∷ 0x16 ∷ 0x17 ∷ []

abbrev annex_more : List ℕ
annex_more =
    0xA0 ∷ 0xA1 ∷ 0xA2 ∷ 0xA3 ∷ 0xA4 ∷ 0xA5 ∷ 0xA6 ∷ 0xA7 ∷ 0xA8 ∷ 0xA9 ∷ 0xAA ∷ 0xAB ∷ 0xAC ∷ 0xAD ∷ 0xAE ∷ 0xAF ∷ []

-- without a reply address
annex_write : read_packet (0xFE ∷ 0x01 ∷ 0x6C ∷ 0x00 ∷ 0x67 ∷ 0x00 ∷ 0x00 ∷ 0x00 ∷ 0xA0 ∷ 0x00 ∷ 0x00 ∷ 0x00 ∷ 0x00 ∷ 0x00 ∷ 0x10 ∷ 0x9F ∷ (annex_data ++ (0x56 ∷ []))) 0xF0
    ≡ Ok (Command (record { header = annex_header 0x6C 0 0xA0000000; path = kept ([]) }))
unfolding read_packet read_protocol read_command path_of crc mirrored bits remainder message modulo
annex_write = refl

annex_write_reply : reply_of (kept ([])) (annex_header 0x6C 0 0xA0000000) 0 []
    ≡ 0x67 ∷ 0x01 ∷ 0x2C ∷ 0x00 ∷ 0xFE ∷ 0x00 ∷ 0x00 ∷ 0xED ∷ []
unfolding reply_with path_of crc mirrored bits remainder message modulo
annex_write_reply = refl

annex_read : read_packet (0xFE ∷ 0x01 ∷ 0x4C ∷ 0x00 ∷ 0x67 ∷ 0x00 ∷ 0x01 ∷ 0x00 ∷ 0xA0 ∷ 0x00 ∷ 0x00 ∷ 0x00 ∷ 0x00 ∷ 0x00 ∷ 0x10 ∷ 0xC9 ∷ []) 0xF0
    ≡ Ok (Command (record { header = annex_header 0x4C 1 0xA0000000; path = kept ([]) }))
unfolding read_packet read_protocol read_command path_of crc mirrored bits remainder message modulo
annex_read = refl

annex_read_reply : reply_of (kept ([])) (annex_header 0x4C 1 0xA0000000) 0 annex_data
    ≡ 0x67 ∷ 0x01 ∷ 0x0C ∷ 0x00 ∷ 0xFE ∷ 0x00 ∷ 0x01 ∷ 0x00 ∷ 0x00 ∷ 0x00 ∷ 0x10 ∷ 0x6D ∷ (annex_data ++ (0x56 ∷ []))
unfolding reply_with path_of crc mirrored bits remainder message modulo
annex_read_reply = refl

-- with a reply address: the path goes before the reply, and no CRC covers it
annex_write_by_path : read_packet (0xFE ∷ 0x01 ∷ 0x6E ∷ 0x00 ∷ 0x00 ∷ 0x99 ∷ 0xAA ∷ 0xBB ∷ 0xCC ∷ 0xDD ∷ 0xEE ∷ 0x00 ∷ 0x67 ∷ 0x00 ∷ 0x02 ∷ 0x00 ∷ 0xA0 ∷ 0x00 ∷ 0x00 ∷ 0x10 ∷ 0x00 ∷ 0x00 ∷ 0x10 ∷ 0x7F ∷ (annex_more ++ (0xB4 ∷ []))) 0xF0
    ≡ Ok (Command (record { header = annex_header 0x6E 2 0xA0000010; path = kept (0x00 ∷ 0x99 ∷ 0xAA ∷ 0xBB ∷ 0xCC ∷ 0xDD ∷ 0xEE ∷ 0x00 ∷ []) }))
unfolding read_packet read_protocol read_command path_of without_leading_zeros or_one_zero crc mirrored bits remainder message modulo
annex_write_by_path = refl

annex_write_by_path_reply : reply_of (kept (0x00 ∷ 0x99 ∷ 0xAA ∷ 0xBB ∷ 0xCC ∷ 0xDD ∷ 0xEE ∷ 0x00 ∷ [])) (annex_header 0x6E 2 0xA0000010) 0 []
    ≡ 0x99 ∷ 0xAA ∷ 0xBB ∷ 0xCC ∷ 0xDD ∷ 0xEE ∷ 0x00 ∷ 0x67 ∷ 0x01 ∷ 0x2E ∷ 0x00 ∷ 0xFE ∷ 0x00 ∷ 0x02 ∷ 0x1D ∷ []
unfolding reply_with path_of without_leading_zeros or_one_zero crc mirrored bits remainder message modulo
annex_write_by_path_reply = refl

annex_read_by_path : read_packet (0xFE ∷ 0x01 ∷ 0x4D ∷ 0x00 ∷ 0x99 ∷ 0xAA ∷ 0xBB ∷ 0xCC ∷ 0x67 ∷ 0x00 ∷ 0x03 ∷ 0x00 ∷ 0xA0 ∷ 0x00 ∷ 0x00 ∷ 0x10 ∷ 0x00 ∷ 0x00 ∷ 0x10 ∷ 0xF7 ∷ []) 0xF0
    ≡ Ok (Command (record { header = annex_header 0x4D 3 0xA0000010; path = kept (0x99 ∷ 0xAA ∷ 0xBB ∷ 0xCC ∷ []) }))
unfolding read_packet read_protocol read_command path_of without_leading_zeros or_one_zero crc mirrored bits remainder message modulo
annex_read_by_path = refl

annex_read_by_path_reply : reply_of (kept (0x99 ∷ 0xAA ∷ 0xBB ∷ 0xCC ∷ [])) (annex_header 0x4D 3 0xA0000010) 0 annex_more
    ≡ 0x99 ∷ 0xAA ∷ 0xBB ∷ 0xCC ∷ 0x67 ∷ 0x01 ∷ 0x0D ∷ 0x00 ∷ 0xFE ∷ 0x00 ∷ 0x03 ∷ 0x00 ∷ 0x00 ∷ 0x00 ∷ 0x10 ∷ 0x52 ∷ (annex_more ++ (0xB4 ∷ []))
unfolding reply_with path_of without_leading_zeros or_one_zero crc mirrored bits remainder message modulo
annex_read_by_path_reply = refl

-- an error to the last of them: no data, and the data CRC is 0
annex_read_error : reply_of (kept (0x99 ∷ 0xAA ∷ 0xBB ∷ 0xCC ∷ [])) (annex_header 0x4D 3 0xA0000010) 10 annex_more
    ≡ 0x99 ∷ 0xAA ∷ 0xBB ∷ 0xCC ∷ 0x67 ∷ 0x01 ∷ 0x0D ∷ 0x0A ∷ 0xFE ∷ 0x00 ∷ 0x03 ∷ 0x00 ∷ 0x00 ∷ 0x00 ∷ 0x00 ∷ 0x99 ∷ 0x00 ∷ []
unfolding reply_with path_of without_leading_zeros or_one_zero crc mirrored bits remainder message modulo
annex_read_error = refl

-- ---- a header in which no two parts, and no two bytes of a part, are alike; it is a command's, or of type 11 where the instruction says so

abbrev apart : ℕ → Header
apart instruction = record {
  target = 0x43;
  protocol = 0x03;
  instruction = record { byte = instruction };
  key = 0x2A;
  initiator = 0x67;
  transaction = 0xFEDC;
  extended = 0x01;
  address = 0xA1B2C3D4;
  length = 0x123456;
}

-- every byte goes to its part
read_apart : read_packet (0x43 ∷ 0x03 ∷ 0x4D ∷ 0x2A ∷ 0x00 ∷ 0x07 ∷ 0x00 ∷ 0x08 ∷ 0x67 ∷ 0xFE ∷ 0xDC ∷ 0x01 ∷ 0xA1 ∷ 0xB2 ∷ 0xC3 ∷ 0xD4 ∷ 0x12 ∷ 0x34 ∷ 0x56 ∷ 0x6A ∷ []) 0xF0
    ≡ Ok (Command (record { header = apart 0x4D; path = record { bytes = replicate 9 0 ++ (0x07 ∷ 0x00 ∷ 0x08 ∷ []); count = 3 } }))
unfolding read_packet read_protocol read_command path_of without_leading_zeros or_one_zero crc mirrored bits remainder message modulo
read_apart = refl

-- a write that is refused with status 10: every part of the reply from the command
reply_to_write : reply_of (kept []) (apart 0x6F) 10 (0x5A ∷ [])
    ≡ 0x67 ∷ 0x03 ∷ 0x2F ∷ 0x0A ∷ 0x43 ∷ 0xFE ∷ 0xDC ∷ 0x9B ∷ []
unfolding reply_with path_of crc mirrored bits remainder message modulo
reply_to_write = refl

-- a read of 0x010203 bytes: three bytes tell how many follow, most significant byte first
reply_tells_length : take 12 (reply_of (kept []) (apart 0x4F) 0 (replicate 0x010203 0x5A))
    ≡ 0x67 ∷ 0x03 ∷ 0x0F ∷ 0x00 ∷ 0x43 ∷ 0xFE ∷ 0xDC ∷ 0x00 ∷ 0x01 ∷ 0x02 ∷ 0x03 ∷ 0xBE ∷ []
unfolding reply_with path_of crc mirrored bits remainder message modulo
reply_tells_length = refl

-- a read of type 11, with the status 2: the form that its write bit says
reply_to_type_11 : reply_of (kept (0x00 ∷ 0x00 ∷ 0x00 ∷ 0x00 ∷ 0x00 ∷ 0x00 ∷ 0x00 ∷ 0x00 ∷ 0x00 ∷ 0x00 ∷ 0x07 ∷ 0x00 ∷ [])) (apart 0xCF) 2 (0x5A ∷ [])
    ≡ 0x07 ∷ 0x00 ∷ 0x67 ∷ 0x03 ∷ 0x0F ∷ 0x02 ∷ 0x43 ∷ 0xFE ∷ 0xDC ∷ 0x00 ∷ 0x00 ∷ 0x00 ∷ 0x00 ∷ 0xFD ∷ 0x00 ∷ []
unfolding reply_with path_of without_leading_zeros or_one_zero crc mirrored bits remainder message modulo
reply_to_type_11 = refl

-- ---- document 01, 'Owner': a path is kept as twelve bytes, zeros first, with its count

paths_kept : map kept (
    []
    ∷ (0x00 ∷ 0x00 ∷ 0x00 ∷ 0x00 ∷ [])
    ∷ (0x00 ∷ 0x00 ∷ 0x01 ∷ 0x02 ∷ [])
    ∷ (0x01 ∷ 0x02 ∷ 0x03 ∷ 0x04 ∷ 0x05 ∷ 0x06 ∷ 0x07 ∷ 0x08 ∷ 0x09 ∷ 0x0A ∷ 0x0B ∷ 0x00 ∷ [])
    ∷ []
    )
    ≡ record { bytes = replicate 12 0; count = 0 }
    ∷ record { bytes = replicate 12 0; count = 1 }
    ∷ record { bytes = replicate 10 0 ++ (0x01 ∷ 0x02 ∷ []); count = 2 }
    ∷ record { bytes = 0x01 ∷ 0x02 ∷ 0x03 ∷ 0x04 ∷ 0x05 ∷ 0x06 ∷ 0x07 ∷ 0x08 ∷ 0x09 ∷ 0x0A ∷ 0x0B ∷ 0x00 ∷ []; count = 12 }
    ∷ []
unfolding path_of without_leading_zeros or_one_zero
paths_kept = refl

-- ---- the room for a reply: exact, and a byte short

-- 8 bytes to a write; 13 and the data to a read; 13 to a read that is refused; a path of 7 more
abbrev fits_less : ℕ → Bool × Bool × Bool × Bool
fits_less n = (
  reply_fits (kept []) (annex_header 0x6C 0 0xA0000000) 0 0 (8 - n),
  reply_fits (kept []) (annex_header 0x4C 1 0xA0000000) 0 16 (29 - n),
  reply_fits (kept []) (annex_header 0x4C 1 0xA0000000) 10 16 (13 - n),
  reply_fits (kept (0x00 ∷ 0x99 ∷ 0xAA ∷ 0xBB ∷ 0xCC ∷ 0xDD ∷ 0xEE ∷ 0x00 ∷ [])) (annex_header 0x6E 2 0xA0000010) 0 0 (15 - n),
)

room : map fits_less (0 ∷ 1 ∷ []) ≡ (true, true, true, true) ∷ (false, false, false, false) ∷ []
unfolding reply_length path_of without_leading_zeros or_one_zero
room = refl

-- three bytes tell up to 16,777,215 bytes of data, however much room there is
longest : map (λ (n : ℕ). reply_fits (kept []) (annex_header 0x4C 1 0xA0000000) 0 n (2 ^ 32)) (16777215 ∷ 16777216 ∷ []) ≡ true ∷ false ∷ []
unfolding reply_length path_of
longest = refl

-- what stands behind the reply stays, and all does where a byte is wanting
reply_in_ten : replied (kept []) (annex_header 0x6C 0 0xA0000000) 0 [] (replicate 10 0xEE)
    ≡ 0x67 ∷ 0x01 ∷ 0x2C ∷ 0x00 ∷ 0xFE ∷ 0x00 ∷ 0x00 ∷ 0xED ∷ 0xEE ∷ 0xEE ∷ []
unfolding replied reply_length reply_with path_of crc mirrored bits remainder message modulo
reply_in_ten = refl

reply_in_seven : replied (kept []) (annex_header 0x6C 0 0xA0000000) 0 [] (replicate 7 0xEE) ≡ replicate 7 0xEE
unfolding replied reply_length reply_with path_of
reply_in_seven = refl

-- ---- document 02, 2: the zero in front goes where FE 03 stands behind it, once, and nowhere else

bares : map bare (
    (0x00 ∷ 0xFE ∷ 0x03 ∷ [])
    ∷ (0x00 ∷ 0xFE ∷ 0x03 ∷ 0x4C ∷ [])
    ∷ (0x00 ∷ 0x00 ∷ 0xFE ∷ 0x03 ∷ [])
    ∷ (0x00 ∷ 0xFE ∷ 0x00 ∷ [])
    ∷ (0x00 ∷ 0xFE ∷ 0x01 ∷ 0x4C ∷ [])
    ∷ (0x00 ∷ 0xFE ∷ 0x02 ∷ [])
    ∷ (0x00 ∷ 0xFE ∷ 0xF0 ∷ [])
    ∷ (0x00 ∷ 0xFD ∷ 0x03 ∷ [])
    ∷ (0x00 ∷ 0x43 ∷ 0x03 ∷ 0x4C ∷ [])
    ∷ (0x01 ∷ 0xFE ∷ 0x03 ∷ [])
    ∷ (0xFE ∷ 0x03 ∷ 0x4C ∷ [])
    ∷ (0xFE ∷ 0x00 ∷ 0xFE ∷ 0x03 ∷ [])
    ∷ (0x00 ∷ 0xFE ∷ [])
    ∷ (0x00 ∷ [])
    ∷ []
    ∷ [])
    ≡ (0xFE ∷ 0x03 ∷ [])
    ∷ (0xFE ∷ 0x03 ∷ 0x4C ∷ [])
    ∷ (0x00 ∷ 0x00 ∷ 0xFE ∷ 0x03 ∷ [])
    ∷ (0x00 ∷ 0xFE ∷ 0x00 ∷ [])
    ∷ (0x00 ∷ 0xFE ∷ 0x01 ∷ 0x4C ∷ [])
    ∷ (0x00 ∷ 0xFE ∷ 0x02 ∷ [])
    ∷ (0x00 ∷ 0xFE ∷ 0xF0 ∷ [])
    ∷ (0x00 ∷ 0xFD ∷ 0x03 ∷ [])
    ∷ (0x00 ∷ 0x43 ∷ 0x03 ∷ 0x4C ∷ [])
    ∷ (0x01 ∷ 0xFE ∷ 0x03 ∷ [])
    ∷ (0xFE ∷ 0x03 ∷ 0x4C ∷ [])
    ∷ (0xFE ∷ 0x00 ∷ 0xFE ∷ 0x03 ∷ [])
    ∷ (0x00 ∷ 0xFE ∷ [])
    ∷ (0x00 ∷ [])
    ∷ []
    ∷ []
unfolding bare
bares = refl

-- ---- what a packet is read as: empty, FE 00, unknown, time, a reply, a header cut short, one with another CRC

readings :
    map (λ (p : List ℕ). read_packet p 0xF0) (
    []
    ∷ (0xFE ∷ 0x00 ∷ [])
    ∷ (0xFE ∷ 0x07 ∷ [])
    ∷ (0xFE ∷ 0xF0 ∷ [])
    ∷ (0xFE ∷ 0xF1 ∷ [])
    ∷ (0xFE ∷ 0x01 ∷ [])
    ∷ (0x67 ∷ 0x03 ∷ 0x2C ∷ [])
    ∷ (0xFE ∷ 0x01 ∷ 0x4C ∷ 0x00 ∷ 0x67 ∷ 0x00 ∷ 0x01 ∷ 0x00 ∷ 0xA0 ∷ 0x00 ∷ 0x00 ∷ 0x00 ∷ 0x00 ∷ 0x00 ∷ 0x10 ∷ [])
    ∷ (0xFE ∷ 0x01 ∷ 0x4C ∷ 0x00 ∷ 0x67 ∷ 0x00 ∷ 0x01 ∷ 0x00 ∷ 0xA0 ∷ 0x00 ∷ 0x00 ∷ 0x00 ∷ 0x00 ∷ 0x00 ∷ 0x10 ∷ 0xC8 ∷ [])
    ∷ []
    )
    ≡ Err Incomplete
    ∷ Err ExtendedProtocol
    ∷ Err UnknownProtocol
    ∷ Ok Time
    ∷ Err UnknownProtocol
    ∷ Err Incomplete
    ∷ Err Reply
    ∷ Err Incomplete
    ∷ Err HeaderCrc
    ∷ []
unfolding read_packet read_protocol read_command path_of crc mirrored bits remainder message modulo
readings = refl

-- one byte is incomplete, whatever it is
one_byte : map (λ (b : ℕ). read_packet (b ∷ []) 0xF0) (0x00 ∷ 0x01 ∷ 0xF0 ∷ 0xFE ∷ []) ≡ replicate 4 (Err Incomplete)
unfolding read_packet read_protocol read_command path_of
one_byte = refl

-- time numbers are those from F0 to FE; what is none is no time packet, though it were the unit's time number
time_protocols : map (λ (n : ℕ). read_packet (0xFE ∷ n ∷ []) n) (0xEF ∷ 0xF0 ∷ 0xF1 ∷ 0xFD ∷ 0xFE ∷ 0xFF ∷ [])
    ≡ Err UnknownProtocol ∷ Ok Time ∷ Ok Time ∷ Ok Time ∷ Ok Time ∷ Err UnknownProtocol ∷ []
unfolding read_packet read_protocol read_command path_of
time_protocols = refl

-- second bytes where the time number is FD: the neighbours of 01 and 03, and of FD
other_protocols : map (λ (b : ℕ). read_packet (0xFE ∷ b ∷ []) 0xFD) (0x02 ∷ 0x04 ∷ 0xEF ∷ 0xF0 ∷ 0xFC ∷ 0xFD ∷ 0xFE ∷ 0xFF ∷ [])
    ≡ replicate 5 (Err UnknownProtocol) ++ (Ok Time ∷ replicate 2 (Err UnknownProtocol))
unfolding read_packet read_protocol read_command path_of
other_protocols = refl

-- in order: a reply is one whatever its CRC; a header with a reply address lacks a byte; types 10 and 11 are read as commands are
readings_in_order :
    map (λ (p : List ℕ). read_packet p 0xF0) (
    (0xFE ∷ 0x01 ∷ 0x0C ∷ 0x00 ∷ 0x67 ∷ 0x00 ∷ 0x01 ∷ 0x00 ∷ 0xA0 ∷ 0x00 ∷ 0x00 ∷ 0x00 ∷ 0x00 ∷ 0x00 ∷ 0x10 ∷ 0xC9 ∷ [])
    ∷ (0xFE ∷ 0x01 ∷ 0x4D ∷ 0x00 ∷ 0x99 ∷ 0xAA ∷ 0xBB ∷ 0xCC ∷ 0x67 ∷ 0x00 ∷ 0x03 ∷ 0x00 ∷ 0xA0 ∷ 0x00 ∷ 0x00 ∷ 0x10 ∷ 0x00 ∷ 0x00 ∷ 0x10 ∷ [])
    ∷ (0xFE ∷ 0x01 ∷ 0x8C ∷ 0x00 ∷ 0x67 ∷ 0x00 ∷ 0x01 ∷ 0x00 ∷ 0xA0 ∷ 0x00 ∷ 0x00 ∷ 0x00 ∷ 0x00 ∷ 0x00 ∷ 0x10 ∷ 0x14 ∷ [])
    ∷ (0xFE ∷ 0x01 ∷ 0xCC ∷ 0x00 ∷ 0x67 ∷ 0x00 ∷ 0x01 ∷ 0x00 ∷ 0xA0 ∷ 0x00 ∷ 0x00 ∷ 0x00 ∷ 0x00 ∷ 0x00 ∷ 0x10 ∷ 0xE0 ∷ [])
    ∷ []
    )
    ≡ Err Reply
    ∷ Err Incomplete
    ∷ Ok (Command (record { header = annex_header 0x8C 1 0xA0000000; path = kept [] }))
    ∷ Ok (Command (record { header = annex_header 0xCC 1 0xA0000000; path = kept [] }))
    ∷ []
unfolding read_packet read_protocol read_command path_of crc mirrored bits remainder message modulo
readings_in_order = refl

-- ---- time packets: one at once, one that waits, and the first ended by EEP (their CRCs were worked out by polynomial division, apart)

time_at_once : read_time (0xFE ∷ 0xF0 ∷ 0x9F ∷ 0x01 ∷ 0x00 ∷ 0x00 ∷ 0x00 ∷ 0x05 ∷ 0x80 ∷ 0x00 ∷ 0x00 ∷ 0xB0 ∷ []) Eop 0x43 0xF0
    ≡ Some (record { epoch = 0x9F; when = AtOnce; value = 0x00000005800000 })
unfolding read_time crc mirrored bits remainder message modulo
time_at_once = refl

time_at_wrap : read_time (0x43 ∷ 0xF0 ∷ 0xAF ∷ 0x00 ∷ 0x01 ∷ 0x02 ∷ 0x03 ∷ 0x04 ∷ 0x05 ∷ 0x06 ∷ 0x07 ∷ 0x4A ∷ []) Eop 0x43 0xF0
    ≡ Some (record { epoch = 0xAF; when = AtWrap; value = 0x01020304050607 })
unfolding read_time crc mirrored bits remainder message modulo
time_at_wrap = refl

time_eep : read_time (0xFE ∷ 0xF0 ∷ 0x9F ∷ 0x01 ∷ 0x00 ∷ 0x00 ∷ 0x00 ∷ 0x05 ∷ 0x80 ∷ 0x00 ∷ 0x00 ∷ 0xB0 ∷ []) Eep 0x43 0xF0 ≡ None
unfolding read_time crc mirrored bits remainder message modulo
time_eep = refl

-- each flaw by itself, with a CRC that is right but in the last two
time_thrown_away :
    map (λ (p : List ℕ). read_time p Eop 0x43 0xF0) (
    []
    -- eleven bytes, and thirteen
    ∷ (0xFE ∷ 0xF0 ∷ 0x9F ∷ 0x01 ∷ 0x00 ∷ 0x00 ∷ 0x00 ∷ 0x05 ∷ 0x80 ∷ 0x00 ∷ 0x76 ∷ [])
    ∷ (0xFE ∷ 0xF0 ∷ 0x9F ∷ 0x01 ∷ 0x00 ∷ 0x00 ∷ 0x00 ∷ 0x05 ∷ 0x80 ∷ 0x00 ∷ 0x00 ∷ 0x00 ∷ 0xC4 ∷ [])
    -- address 44 and FF, where the unit's is 43
    ∷ (0x44 ∷ 0xF0 ∷ 0x9F ∷ 0x01 ∷ 0x00 ∷ 0x00 ∷ 0x00 ∷ 0x05 ∷ 0x80 ∷ 0x00 ∷ 0x00 ∷ 0x2D ∷ [])
    ∷ (0xFF ∷ 0xF0 ∷ 0x9F ∷ 0x01 ∷ 0x00 ∷ 0x00 ∷ 0x00 ∷ 0x05 ∷ 0x80 ∷ 0x00 ∷ 0x00 ∷ 0x05 ∷ [])
    -- time number F1, where the unit's is F0
    ∷ (0xFE ∷ 0xF1 ∷ 0x9F ∷ 0x01 ∷ 0x00 ∷ 0x00 ∷ 0x00 ∷ 0x05 ∷ 0x80 ∷ 0x00 ∷ 0x00 ∷ 0x81 ∷ [])
    -- byte 2: 9E, AE, 2F, 1F, 8F, BF
    ∷ (0xFE ∷ 0xF0 ∷ 0x9E ∷ 0x01 ∷ 0x00 ∷ 0x00 ∷ 0x00 ∷ 0x05 ∷ 0x80 ∷ 0x00 ∷ 0x00 ∷ 0x9C ∷ [])
    ∷ (0xFE ∷ 0xF0 ∷ 0xAE ∷ 0x01 ∷ 0x00 ∷ 0x00 ∷ 0x00 ∷ 0x05 ∷ 0x80 ∷ 0x00 ∷ 0x00 ∷ 0xD8 ∷ [])
    ∷ (0xFE ∷ 0xF0 ∷ 0x2F ∷ 0x01 ∷ 0x00 ∷ 0x00 ∷ 0x00 ∷ 0x05 ∷ 0x80 ∷ 0x00 ∷ 0x00 ∷ 0x6A ∷ [])
    ∷ (0xFE ∷ 0xF0 ∷ 0x1F ∷ 0x01 ∷ 0x00 ∷ 0x00 ∷ 0x00 ∷ 0x05 ∷ 0x80 ∷ 0x00 ∷ 0x00 ∷ 0x2E ∷ [])
    ∷ (0xFE ∷ 0xF0 ∷ 0x8F ∷ 0x01 ∷ 0x00 ∷ 0x00 ∷ 0x00 ∷ 0x05 ∷ 0x80 ∷ 0x00 ∷ 0x00 ∷ 0x33 ∷ [])
    ∷ (0xFE ∷ 0xF0 ∷ 0xBF ∷ 0x01 ∷ 0x00 ∷ 0x00 ∷ 0x00 ∷ 0x05 ∷ 0x80 ∷ 0x00 ∷ 0x00 ∷ 0x77 ∷ [])
    -- byte 3: 02 and 81
    ∷ (0xFE ∷ 0xF0 ∷ 0x9F ∷ 0x02 ∷ 0x00 ∷ 0x00 ∷ 0x00 ∷ 0x05 ∷ 0x80 ∷ 0x00 ∷ 0x00 ∷ 0x76 ∷ [])
    ∷ (0xFE ∷ 0xF0 ∷ 0x9F ∷ 0x81 ∷ 0x00 ∷ 0x00 ∷ 0x00 ∷ 0x05 ∷ 0x80 ∷ 0x00 ∷ 0x00 ∷ 0x78 ∷ [])
    -- another CRC, by its lowest bit and by its highest
    ∷ (0xFE ∷ 0xF0 ∷ 0x9F ∷ 0x01 ∷ 0x00 ∷ 0x00 ∷ 0x00 ∷ 0x05 ∷ 0x80 ∷ 0x00 ∷ 0x00 ∷ 0xB1 ∷ [])
    ∷ (0xFE ∷ 0xF0 ∷ 0x9F ∷ 0x01 ∷ 0x00 ∷ 0x00 ∷ 0x00 ∷ 0x05 ∷ 0x80 ∷ 0x00 ∷ 0x00 ∷ 0x30 ∷ [])
    ∷ []
    )
    ≡ replicate 16 None
unfolding read_time crc mirrored bits remainder message modulo
time_thrown_away = refl

-- both epochs go with both times of taking, and the address may be the unit's
time_taken :
    map (λ (p : List ℕ). read_time p Eop 0x43 0xF1) (
    (0x43 ∷ 0xF1 ∷ 0x9F ∷ 0x00 ∷ 0x00 ∷ 0x00 ∷ 0x00 ∷ 0x05 ∷ 0x80 ∷ 0x00 ∷ 0x00 ∷ 0x68 ∷ [])
    ∷ (0x43 ∷ 0xF1 ∷ 0xAF ∷ 0x01 ∷ 0x00 ∷ 0x00 ∷ 0x00 ∷ 0x05 ∷ 0x80 ∷ 0x00 ∷ 0x00 ∷ 0xD1 ∷ [])
    ∷ []
    )
    ≡ Some (record { epoch = 0x9F; when = AtWrap; value = 0x00000005800000 })
    ∷ Some (record { epoch = 0xAF; when = AtOnce; value = 0x00000005800000 })
    ∷ []
unfolding read_time crc mirrored bits remainder message modulo
time_taken = refl

-- ---- with octets added (their CRCs were worked out by polynomial division, apart)

preamble_taken :
    map (λ (p : List ℕ). read_time p Eop 0x43 0xF0) (
    -- an octet of fraction: FF is cut off, not rounded
    (0xFE ∷ 0xF0 ∷ 0x9F ∷ 0x05 ∷ 0x00 ∷ 0x00 ∷ 0x00 ∷ 0x05 ∷ 0x80 ∷ 0x00 ∷ 0x00 ∷ 0xFF ∷ 0xBB ∷ [])
    -- an octet of seconds
    ∷ (0x43 ∷ 0xF0 ∷ 0xAF ∷ 0x20 ∷ 0x00 ∷ 0x00 ∷ 0x00 ∷ 0x00 ∷ 0x05 ∷ 0x80 ∷ 0x00 ∷ 0x00 ∷ 0xCD ∷ [])
    -- the same bytes between preamble and CRC, read by each of the two: the octet tells which is T
    ∷ (0xFE ∷ 0xF0 ∷ 0x9F ∷ 0x04 ∷ 0x00 ∷ 0x00 ∷ 0x00 ∷ 0x05 ∷ 0x80 ∷ 0x00 ∷ 0x00 ∷ 0xFF ∷ 0x97 ∷ [])
    ∷ (0xFE ∷ 0xF0 ∷ 0x9F ∷ 0x20 ∷ 0x00 ∷ 0x00 ∷ 0x00 ∷ 0x05 ∷ 0x80 ∷ 0x00 ∷ 0x00 ∷ 0xFF ∷ 0xE0 ∷ [])
    -- both; and the most of both
    ∷ (0xFE ∷ 0xF0 ∷ 0x9F ∷ 0x25 ∷ 0x00 ∷ 0x00 ∷ 0x00 ∷ 0x00 ∷ 0x05 ∷ 0x80 ∷ 0x00 ∷ 0x00 ∷ 0x80 ∷ 0x5C ∷ [])
    ∷ (0xFE ∷ 0xF0 ∷ 0xAF ∷ 0x7D ∷ 0x00 ∷ 0x00 ∷ 0x00 ∷ 0xFF ∷ 0xFF ∷ 0xFF ∷ 0xFF ∷ 0xFF ∷ 0xFF ∷ 0xFF ∷ 0xFF ∷ 0xFF ∷ 0xFF ∷ 0xFF ∷ 0xFF ∷ 0xFF ∷ 0xFF ∷ 0x80 ∷ [])
    ∷ (0x43 ∷ 0xF0 ∷ 0x9F ∷ 0x7C ∷ 0x00 ∷ 0x00 ∷ 0x00 ∷ 0x01 ∷ 0x02 ∷ 0x03 ∷ 0x04 ∷ 0x05 ∷ 0x06 ∷ 0x07 ∷ 0x08 ∷ 0x09 ∷ 0x0A ∷ 0x0B ∷ 0x0C ∷ 0x0D ∷ 0x0E ∷ 0x78 ∷ [])
    -- other counts: two and three octets of seconds; two, four and seven of fraction
    ∷ (0xFE ∷ 0xF0 ∷ 0x9F ∷ 0x41 ∷ 0x00 ∷ 0x00 ∷ 0x00 ∷ 0x00 ∷ 0x00 ∷ 0x05 ∷ 0x80 ∷ 0x00 ∷ 0x00 ∷ 0x18 ∷ [])
    ∷ (0xFE ∷ 0xF0 ∷ 0x9F ∷ 0x60 ∷ 0x00 ∷ 0x00 ∷ 0x00 ∷ 0x00 ∷ 0x00 ∷ 0x00 ∷ 0x05 ∷ 0x80 ∷ 0x00 ∷ 0x00 ∷ 0x17 ∷ [])
    ∷ (0xFE ∷ 0xF0 ∷ 0x9F ∷ 0x09 ∷ 0x00 ∷ 0x00 ∷ 0x00 ∷ 0x05 ∷ 0x80 ∷ 0x00 ∷ 0x00 ∷ 0x01 ∷ 0x02 ∷ 0x50 ∷ [])
    ∷ (0xFE ∷ 0xF0 ∷ 0x9F ∷ 0x10 ∷ 0x00 ∷ 0x00 ∷ 0x00 ∷ 0x05 ∷ 0x80 ∷ 0x00 ∷ 0x00 ∷ 0x00 ∷ 0x00 ∷ 0x00 ∷ 0x00 ∷ 0x4A ∷ [])
    ∷ (0xFE ∷ 0xF0 ∷ 0x9F ∷ 0x1D ∷ 0x00 ∷ 0x00 ∷ 0x00 ∷ 0x05 ∷ 0x80 ∷ 0x00 ∷ 0x00 ∷ 0xFF ∷ 0xFF ∷ 0xFF ∷ 0xFF ∷ 0xFF ∷ 0xFF ∷ 0xFF ∷ 0x3A ∷ [])
    ∷ []
    )
    ≡ Some (record { epoch = 0x9F; when = AtOnce; value = 0x00000005800000 })
    ∷ Some (record { epoch = 0xAF; when = AtWrap; value = 0x00000005800000 })
    ∷ Some (record { epoch = 0x9F; when = AtWrap; value = 0x00000005800000 })
    ∷ Some (record { epoch = 0x9F; when = AtWrap; value = 0x000005800000FF })
    ∷ Some (record { epoch = 0x9F; when = AtOnce; value = 0x00000005800000 })
    ∷ Some (record { epoch = 0xAF; when = AtOnce; value = 0xFFFFFFFFFFFFFF })
    ∷ Some (record { epoch = 0x9F; when = AtWrap; value = 0x01020304050607 })
    ∷ Some (record { epoch = 0x9F; when = AtOnce; value = 0x00000005800000 })
    ∷ Some (record { epoch = 0x9F; when = AtWrap; value = 0x00000005800000 })
    ∷ Some (record { epoch = 0x9F; when = AtOnce; value = 0x00000005800000 })
    ∷ Some (record { epoch = 0x9F; when = AtWrap; value = 0x00000005800000 })
    ∷ Some (record { epoch = 0x9F; when = AtOnce; value = 0x00000005800000 })
    ∷ []
unfolding read_time crc mirrored bits remainder message modulo
preamble_taken = refl

-- each flaw by itself
preamble_thrown_away :
    map (λ (p : List ℕ). read_time p Eop 0x43 0xF0) (
    -- an octet of seconds that is not 0: the one, and each of three
    (0xFE ∷ 0xF0 ∷ 0x9F ∷ 0x21 ∷ 0x01 ∷ 0x00 ∷ 0x00 ∷ 0x00 ∷ 0x05 ∷ 0x80 ∷ 0x00 ∷ 0x00 ∷ 0x70 ∷ [])
    ∷ (0xFE ∷ 0xF0 ∷ 0x9F ∷ 0x61 ∷ 0x00 ∷ 0x00 ∷ 0x01 ∷ 0x00 ∷ 0x00 ∷ 0x00 ∷ 0x05 ∷ 0x80 ∷ 0x00 ∷ 0x00 ∷ 0x5F ∷ [])
    ∷ (0xFE ∷ 0xF0 ∷ 0x9F ∷ 0x61 ∷ 0x00 ∷ 0x01 ∷ 0x00 ∷ 0x00 ∷ 0x00 ∷ 0x00 ∷ 0x05 ∷ 0x80 ∷ 0x00 ∷ 0x00 ∷ 0x8E ∷ [])
    ∷ (0xFE ∷ 0xF0 ∷ 0x9F ∷ 0x61 ∷ 0x80 ∷ 0x00 ∷ 0x00 ∷ 0x00 ∷ 0x00 ∷ 0x00 ∷ 0x05 ∷ 0x80 ∷ 0x00 ∷ 0x00 ∷ 0xB4 ∷ [])
    -- bit 0, with an octet of fraction; and with a third octet of the preamble
    ∷ (0xFE ∷ 0xF0 ∷ 0x9F ∷ 0x85 ∷ 0x00 ∷ 0x00 ∷ 0x00 ∷ 0x05 ∷ 0x80 ∷ 0x00 ∷ 0x00 ∷ 0x00 ∷ 0xEA ∷ [])
    ∷ (0xFE ∷ 0xF0 ∷ 0x9F ∷ 0x81 ∷ 0x00 ∷ 0x00 ∷ 0x00 ∷ 0x00 ∷ 0x05 ∷ 0x80 ∷ 0x00 ∷ 0x00 ∷ 0xD4 ∷ [])
    -- bit 6, with and without bit 7
    ∷ (0xFE ∷ 0xF0 ∷ 0x9F ∷ 0x07 ∷ 0x00 ∷ 0x00 ∷ 0x00 ∷ 0x05 ∷ 0x80 ∷ 0x00 ∷ 0x00 ∷ 0x00 ∷ 0x2C ∷ [])
    ∷ (0xFE ∷ 0xF0 ∷ 0x9F ∷ 0x06 ∷ 0x00 ∷ 0x00 ∷ 0x00 ∷ 0x05 ∷ 0x80 ∷ 0x00 ∷ 0x00 ∷ 0x00 ∷ 0x00 ∷ [])
    -- a byte short, and a byte long: of fraction, of seconds, of the most of both
    ∷ (0xFE ∷ 0xF0 ∷ 0x9F ∷ 0x05 ∷ 0x00 ∷ 0x00 ∷ 0x00 ∷ 0x05 ∷ 0x80 ∷ 0x00 ∷ 0x00 ∷ 0xC6 ∷ [])
    ∷ (0xFE ∷ 0xF0 ∷ 0x9F ∷ 0x05 ∷ 0x00 ∷ 0x00 ∷ 0x00 ∷ 0x05 ∷ 0x80 ∷ 0x00 ∷ 0x00 ∷ 0x00 ∷ 0x00 ∷ 0x53 ∷ [])
    ∷ (0xFE ∷ 0xF0 ∷ 0x9F ∷ 0x21 ∷ 0x00 ∷ 0x00 ∷ 0x00 ∷ 0x05 ∷ 0x80 ∷ 0x00 ∷ 0x00 ∷ 0x82 ∷ [])
    ∷ (0xFE ∷ 0xF0 ∷ 0x9F ∷ 0x21 ∷ 0x00 ∷ 0x00 ∷ 0x00 ∷ 0x00 ∷ 0x00 ∷ 0x05 ∷ 0x80 ∷ 0x00 ∷ 0x00 ∷ 0xF6 ∷ [])
    ∷ (0xFE ∷ 0xF0 ∷ 0x9F ∷ 0x7D ∷ 0x00 ∷ 0x00 ∷ 0x00 ∷ 0x00 ∷ 0x00 ∷ 0x00 ∷ 0x05 ∷ 0x80 ∷ 0x00 ∷ 0x00 ∷ 0x00 ∷ 0x00 ∷ 0x00 ∷ 0x00 ∷ 0x00 ∷ 0x00 ∷ 0x35 ∷ [])
    ∷ (0xFE ∷ 0xF0 ∷ 0x9F ∷ 0x7D ∷ 0x00 ∷ 0x00 ∷ 0x00 ∷ 0x00 ∷ 0x00 ∷ 0x00 ∷ 0x05 ∷ 0x80 ∷ 0x00 ∷ 0x00 ∷ 0x00 ∷ 0x00 ∷ 0x00 ∷ 0x00 ∷ 0x00 ∷ 0x00 ∷ 0x00 ∷ 0x00 ∷ 0x27 ∷ [])
    -- longer than was told: an octet of fraction under 01
    ∷ (0xFE ∷ 0xF0 ∷ 0x9F ∷ 0x01 ∷ 0x00 ∷ 0x00 ∷ 0x00 ∷ 0x05 ∷ 0x80 ∷ 0x00 ∷ 0x00 ∷ 0x00 ∷ 0xC4 ∷ [])
    -- a CRC over the first eleven bytes, with one octet of fraction behind them, and in front of that octet
    ∷ (0xFE ∷ 0xF0 ∷ 0x9F ∷ 0x05 ∷ 0x00 ∷ 0x00 ∷ 0x00 ∷ 0x05 ∷ 0x80 ∷ 0x00 ∷ 0x00 ∷ 0xFF ∷ 0xC6 ∷ [])
    ∷ (0xFE ∷ 0xF0 ∷ 0x9F ∷ 0x05 ∷ 0x00 ∷ 0x00 ∷ 0x00 ∷ 0x05 ∷ 0x80 ∷ 0x00 ∷ 0x00 ∷ 0xC6 ∷ 0xFF ∷ [])
    -- another octet of fraction than the CRC was made for
    ∷ (0xFE ∷ 0xF0 ∷ 0x9F ∷ 0x05 ∷ 0x00 ∷ 0x00 ∷ 0x00 ∷ 0x05 ∷ 0x80 ∷ 0x00 ∷ 0x00 ∷ 0xFE ∷ 0xBB ∷ [])
    ∷ []
    )
    ≡ replicate 18 None
unfolding read_time crc mirrored bits remainder message modulo
preamble_thrown_away = refl

-- and EEP
preamble_eep : read_time (0xFE ∷ 0xF0 ∷ 0x9F ∷ 0x05 ∷ 0x00 ∷ 0x00 ∷ 0x00 ∷ 0x05 ∷ 0x80 ∷ 0x00 ∷ 0x00 ∷ 0xFF ∷ 0xBB ∷ []) Eep 0x43 0xF0 ≡ None
unfolding read_time crc mirrored bits remainder message modulo
preamble_eep = refl

-- ---- all 128 second octets without bit 0, by numerals

-- a packet with that second octet, and as many octets of seconds and of fraction as it tells of; its CRC is right. Half of them have each epoch
abbrev epoch_sent : ℕ → ℕ
epoch_sent o = cond (eqb (o / 32 % 2) 0) 0x9F 0xAF

abbrev octet_sent : ℕ → List ℕ
octet_sent o =
    with_crc ((0xFE ∷ 0xF0 ∷ epoch_sent o ∷ o ∷ []) ++ replicate (o / 32 % 4) 0x00 ++ (0x01 ∷ 0x02 ∷ 0x03 ∷ 0x04 ∷ 0x05 ∷ 0x06 ∷ 0x07 ∷ []) ++ replicate (o / 4 % 8) 0xFF)

-- it is taken exactly if 02 is not in it, and at once exactly if it is odd
abbrev octet_told : ℕ → Option TheTime
octet_told o =
    cond (eqb (o / 2 % 2) 0)
    (Some (record { epoch = epoch_sent o; when = cond (eqb (o % 2) 1) AtOnce AtWrap; value = 0x01020304050607 })) None

octets_told : tabulate 0 128 (λ o. read_time (octet_sent o) Eop 0x43 0xF0) ≡ tabulate 0 128 octet_told
unfolding read_time crc mirrored bits remainder message modulo
octets_told = refl
