-- Worked examples of fields, computed by the definitions: worked out by hand from document 01 ('Fields') and 000's Table 5-6.
use Rattle.std.proofs.Common.{◌≡◌, ℕ, true, false, List, [], ◌∷◌, ◌++◌, map, get_or, replicate, refl, None, Ok, Err}
use Rattle.unit.specs.Clock.{time_code_written}
use Rattle.unit.specs.Fields.{named, row_of, is_missing, right_of, offence_of, write_offence, swap_offence, link_information, values_of, field_bytes, divider_written}
use Rattle.unit.specs.Act.{data_for}
use Rattle.unit.specs.declared.fate.Offence.TheVariants.{ReadOnlyField, PlainDeviceId}
use Rattle.unit.specs.declared.owner.Owner.{Owner}
use Rattle.unit.specs.declared.decide.Action.TheVariants.{ReadFields}
use Rattle.unit.proofs.ExampleParts.{windows, owner, clock, fields, unit}

-- ---- what each field reads: no two values are the same

-- a path of twelve bytes
abbrev far : Owner
far = record {
  device = 0xA8;
  initiator = 0x67;
  path = record { bytes = 1 ∷ 2 ∷ 3 ∷ 4 ∷ 5 ∷ 6 ∷ 7 ∷ 8 ∷ 9 ∷ 10 ∷ 11 ∷ 12 ∷ []; count = 12 };
  link = 2;
}

-- last Time-Code 2B, four links, a read on link 3
abbrev values : List ℕ
values = values_of (fields 0xABCD0005) far 0x2B 4 3

-- application 0: protocol 0, set 0, fields 0 to 10; protocol 1, set 0, fields 0 to 3
abbrev ours : List ℕ
ours = 0 ∷ 1 ∷ 2 ∷ 3 ∷ 4 ∷ 5 ∷ 6 ∷ 7 ∷ 8 ∷ 9 ∷ 10 ∷ 0x80000 ∷ 0x80001 ∷ 0x80002 ∷ 0x80003 ∷ []

-- vendor and product, version, status, Active Links, Link Information (owner 67, three words of path, owner's link 2, link 3, 4 links), the path
-- in three words, Device ID, unit vendor and product, unit serial; Time-Code counter, base rate, rate range, divider
reads : map (λ (a : ℕ). get_or values (row_of a) 0) ours
    ≡ 0xA0 ∷ 0xA1 ∷ 0xA2 ∷ 0xA3 ∷ 0x67C20304 ∷ 0x01020304 ∷ 0x05060708 ∷ 0x090A0B0C ∷ 0xA8 ∷ 0xA9 ∷ 0xAA ∷ 0x2B ∷ 0xB1 ∷ 0x00100004 ∷ 0xABCD0005 ∷ []
unfolding values_of link_information row_of
reads = refl

-- the lowest field first, four bytes each, most significant byte first
in_order : field_bytes values (named 0x80002 2) ≡ 0x00 ∷ 0x10 ∷ 0x00 ∷ 0x04 ∷ 0xAB ∷ 0xCD ∷ 0x00 ∷ 0x05 ∷ []
unfolding values_of link_information row_of
in_order = refl

-- the Time-Code counter reads the unit's last Time-Code
last_code : data_for (ReadFields 0x80000 1) (unit 0xF0 4 (windows 0 []) 0 (owner 0 0 0 0) (clock 0x2B 0 None)) 1 [] ≡ 0x00 ∷ 0x00 ∷ 0x00 ∷ 0x2B ∷ []
unfolding data_for values_of link_information row_of
last_code = refl

-- ---- which fields are there

there : map is_missing ours ≡ replicate 15 false
unfolding row_of
there = refl

-- field 11 and the last field of the first set; field 0 of set 1; of protocol 1, field 4 and field 0 of set 1; of protocol 2; of application 1, both
-- protocols; the last address
not_there : map is_missing (0x0000000B ∷ 0x00003FFF ∷ 0x00004000 ∷ 0x00080004 ∷ 0x00084000 ∷ 0x00100000 ∷ 0x01000000 ∷ 0x01080000 ∷ 0xFFFFFFFF ∷ [])
    ≡ replicate 9 true
unfolding row_of
not_there = refl

-- ---- what a command offends

-- a plain write: F3 at Device ID, none at Time-Code counter and divider, F2 at the others
write_offends : map (λ (a : ℕ). offence_of (right_of a)) ours
    ≡ replicate 8 (Err ReadOnlyField) ++ (Err PlainDeviceId ∷ Err ReadOnlyField ∷ Err ReadOnlyField ∷ Ok tt ∷ Err ReadOnlyField ∷ Err ReadOnlyField ∷ Ok tt ∷ [])
unfolding row_of
write_offends = refl

-- the lowest that offends decides: Time-Code counter and base rate, rate range and divider
lowest : map (λ (a : ℕ). write_offence (named a 2)) (0x80000 ∷ 0x80002 ∷ []) ≡ Err ReadOnlyField ∷ Err ReadOnlyField ∷ []
unfolding row_of
lowest = refl

-- a swap: F2 at any but Device ID
swap_offends : map (λ (a : ℕ). swap_offence (right_of a)) ours ≡ replicate 8 (Err ReadOnlyField) ++ (Ok tt ∷ replicate 6 (Err ReadOnlyField))
unfolding row_of
swap_offends = refl

-- ---- Link Information (000, Table 5-6), one part at a time

places :
    -- owner's logical address in bits 31-24
    (link_information 0 (owner 1 0xFF 0 0) 0 0 ≡ 0xFF000000)
    -- owner's link in bits 20-16
    × (link_information 0 (owner 1 0 0 31) 0 0 ≡ 0x001F0000)
    -- the read's own link in bits 12-8
    × (link_information 0 (owner 1 0 0 0) 0 31 ≡ 0x00001F00)
    -- link count in bits 4-0
    × (link_information 0 (owner 1 0 0 0) 31 0 ≡ 0x0000001F)
    -- bits 21, 15-13 and 7-5 as held
    × (link_information 0xFFFFFFFF (owner 1 0 0 0) 0 0 ≡ 0x0020E0E0)
unfolding link_information
places = (refl, refl, refl, refl, refl)

-- address length in bits 23-22: path count over 4, rounded up: 0, 1, 1, 2, 2, 3, 3
address_lengths : map (λ (n : ℕ). link_information 0 (owner 1 0 n 0) 0 0) (0 ∷ 1 ∷ 4 ∷ 5 ∷ 8 ∷ 9 ∷ 12 ∷ [])
    ≡ 0 ∷ 0x00400000 ∷ 0x00400000 ∷ 0x00800000 ∷ 0x00800000 ∷ 0x00C00000 ∷ 0x00C00000 ∷ []
unfolding link_information
address_lengths = refl

-- ---- what is written

-- Time-Code counter, last Time-Code 5: a whole word of 0 resets it, a word with one half of 0 does not
counters : map (λ (word : ℕ). (time_code_written (clock 5 0 None) word).last) (0 ∷ 1 ∷ 0x10000 ∷ []) ≡ 0 ∷ 5 ∷ 5 ∷ []
counters = refl

-- divider, from 4 to 10 hexadecimal: below the minimum, at it, at the maximum, above it; the high half of the word does not count
dividers : map (λ (word : ℕ). (divider_written (fields 0xABCD0005) word).divider) (3 ∷ 4 ∷ 0x10 ∷ 0x11 ∷ 0xFFFF0008 ∷ [])
    ≡ 0xABCD0005 ∷ 0xABCD0004 ∷ 0xABCD0010 ∷ 0xABCD0005 ∷ 0xABCD0008 ∷ []
unfolding divider_written
dividers = refl
