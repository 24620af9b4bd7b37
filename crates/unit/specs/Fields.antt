-- The fields of plug-and-play (document 01, 'Fields'; 000, 5.2.4.4.4, 5.3.3 and 5.3.4).
use Rattle.std.specs.Prelude.{ℕ, ◌+◌, ◌*◌, ◌/◌, ◌%◌, ◌^◌, Bool, cond, ◌&&◌, ◌||◌, List, [], ◌∷◌, ◌++◌, length, ◌==◌, nat_lt, slice_index, Option, Some, None, Ok, Err}
use Rattle.std.specs.List.{range_with_len}
use Rattle.octets.specs.Places.{part}
use Rattle.octets.specs.Numbers.{number, bytes_of}
use Rattle.packets.specs.Path.{path_bytes}
use Rattle.packets.specs.declared.path.Path.{Path}
use Rattle.unit.specs.Fate.{Status, or_else}
use Rattle.unit.specs.declared.fate.Offence.TheVariants.{NoSuchField, ReadOnlyField, PlainDeviceId}
use Rattle.unit.specs.declared.fields.Right.{Right}
use Rattle.unit.specs.declared.fields.Right.TheVariants.{ReadOnly, Swapped, Written}
use Rattle.unit.specs.declared.fields.Fields.{Fields}
use Rattle.unit.specs.declared.owner.Owner.{Owner}

-- Address: application 31-24, protocol 23-19, set 18-14, field 13-0.
abbrev pub field_of : ℕ → ℕ
field_of address = address % 2 ^ 14

-- Application, protocol and set together stand above the field.
abbrev pub above_field : ℕ → ℕ
above_field address = address / 2 ^ 14

abbrev pub above : ℕ → ℕ → ℕ → ℕ
above application protocol set = application * 2 ^ 10 + protocol * 2 ^ 5 + set

-- The fields named by an address and a count.
abbrev pub named : ℕ → ℕ → List ℕ
named = range_with_len

-- Our table, application 0: rows 0 to 10 are protocol 0, set 0, fields 0 to 10; rows 11 to 14 are protocol 1, set 0, fields 0 to 3. Every
-- other field has row 15, and is missing.
abbrev pub device_id : ℕ
device_id = 8

abbrev pub time_code_counter : ℕ
time_code_counter = 11

abbrev pub divider : ℕ
divider = 14

abbrev pub missing : ℕ
missing = 15

unfoldable pub row_of : ℕ → ℕ
row_of address =
    cond (above_field address == above 0 0 0 && nat_lt (field_of address) 11) (field_of address)
    (cond (above_field address == above 0 1 0 && nat_lt (field_of address) 4) (11 + field_of address) missing)

abbrev pub is_missing : ℕ → Bool
is_missing address = row_of address == missing

abbrev pub row_in_table : ℕ → Option ℕ
row_in_table address = cond (is_missing address) None (Some (row_of address))

-- All read-only save Device ID, changed only by compare-and-swap, and save what the owner writes: Time-Code counter and divider.
abbrev pub row_right : ℕ → Option Right
row_right row =
    cond (row == missing) None
    (Some (cond (row == device_id) Swapped
    (cond (row == time_code_counter || row == divider) Written
    ReadOnly)))

abbrev pub right_of : ℕ → Option Right
right_of address = row_right (row_of address)

-- F2: write with a read-only field. F3: plain write to Device ID. (F1 goes before both.) The lowest field that offends decides.
abbrev pub offence_of : Option Right → Status
offence_of None = Err NoSuchField
offence_of (Some ReadOnly) = Err ReadOnlyField
offence_of (Some Swapped) = Err PlainDeviceId
offence_of (Some Written) = Ok tt

abbrev pub write_offence : List ℕ → Status
write_offence [] = Ok tt
write_offence (address ∷ rest) = or_else (offence_of (right_of address)) (write_offence rest)

-- F2: RMW on a field other than Device ID.
abbrev pub swap_offence : Option Right → Status
swap_offence None = Err NoSuchField
swap_offence (Some ReadOnly) = Err ReadOnlyField
swap_offence (Some Swapped) = Ok tt
swap_offence (Some Written) = Err ReadOnlyField

-- A number in its place of a word, `width` bits from bit `low` on, and what a word holds in such a place.
abbrev pub in_place : ℕ → ℕ → ℕ → ℕ
in_place low width n = n % 2 ^ width * 2 ^ low

abbrev pub held_in : ℕ → ℕ → ℕ → ℕ
held_in low width word = in_place low width (word / 2 ^ low)

-- Link Information (000, Table 5-6): owner's logical address, address length (path count over 4, rounded up), a reserved bit, owner's
-- link, three reserved bits, the read's own link, T, U and a reserved bit, link count. What is neither the owner's nor a link's is as held.
unfoldable pub link_information : ℕ → Owner → ℕ → ℕ → ℕ
link_information held o links link =
    in_place 24 8 o.initiator
    + in_place 22 2 ((length (path_bytes o.path) + 3) / 4)
    + held_in 21 1 held
    + in_place 16 5 o.link
    + held_in 13 3 held
    + in_place 8 5 link
    + held_in 5 3 held
    + in_place 0 5 links

-- Fields 5 to 7 read the kept path in order.
abbrev pub path_words : Path → List ℕ
path_words k = number (part 0 4 k.bytes) ∷ number (part 4 4 k.bytes) ∷ number (part 8 4 k.bytes) ∷ []

-- What each row reads. The last is no field's: one that is missing is refused before (F1), and never read.
unfoldable pub values_of : Fields → Owner → ℕ → ℕ → ℕ → List ℕ
values_of f o last links link =
    (f.vendor ∷ f.version ∷ f.status ∷ f.active ∷ link_information f.information o links link ∷ [])
    ++ path_words o.path
    ++ (o.device ∷ f.maker ∷ f.serial ∷ last ∷ f.base ∷ f.range ∷ f.divider ∷ 0 ∷ [])

-- The bytes of fields, four each, in the order of the fields.
abbrev pub field_bytes : List ℕ → List ℕ → List ℕ
field_bytes values [] = []
field_bytes values (address ∷ rest) = bytes_of 4 (slice_index values (row_of address)) ++ field_bytes values rest

-- A write to the divider takes its low half, and the high half stays as held; below the minimum or above the maximum it is ignored. In
-- the rate range the maximum is the high half, the minimum the low one.
unfoldable pub divider_written : Fields → ℕ → Fields
divider_written f word =
    cond (nat_lt (word % 2 ^ 16) (f.range % 2 ^ 16) || nat_lt (f.range / 2 ^ 16) (word % 2 ^ 16)) f (record {
      vendor = f.vendor;
      version = f.version;
      status = f.status;
      active = f.active;
      information = f.information;
      maker = f.maker;
      serial = f.serial;
      base = f.base;
      range = f.range;
      divider = f.divider / 2 ^ 16 * 2 ^ 16 + word % 2 ^ 16;
    })
