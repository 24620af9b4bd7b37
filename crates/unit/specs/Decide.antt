-- What is to be done with a command (document 01, 'Reading a packet', 'Span', 'Fields', 'Owner'): decided before anything is touched. Nothing here
-- speaks of memory's contents or of a counter.
use Rattle.std.specs.Prelude.{ℕ, ◌+◌, ◌-◌, ◌/◌, ◌%◌, ◌^◌, min, Bool, true, cond, not, ◌&&◌, ◌||◌, List, length, drop, ◌==◌, nat_le, nat_lt, Ok, Err}
use Rattle.octets.specs.Crc.{crc}
use Rattle.packets.specs.Instruction.{type_of, code_of, is_write, is_verified, is_incrementing, is_unused, is_read, is_rmw, header_size}
use Rattle.packets.specs.Header.{kind_in}
use Rattle.packets.specs.Reading.{is_eop}
use Rattle.packets.specs.declared.instruction.Kind.{Kind}
use Rattle.packets.specs.declared.instruction.Kind.TheVariants.{Unused, Read, ReadModifyWrite, Write}
use Rattle.packets.specs.declared.header.Header.{Header}
use Rattle.packets.specs.declared.path.Path.{Path}
use Rattle.packets.specs.declared.reading.End.{End}
use Rattle.unit.specs.Some.{some}
use Rattle.unit.specs.Fate.{Status, or_else}
use Rattle.unit.specs.Given.{Arrived}
use Rattle.unit.specs.Windows.{allows, used}
use Rattle.unit.specs.Owner.{is_owner}
use Rattle.unit.specs.Fields.{field_of, named, is_missing, right_of, write_offence, swap_offence}
use Rattle.unit.specs.declared.fate.Offence.TheVariants.{UnusedCode, WrongKey, DataCrc, EarlyEop, TooMuchData, EndedByEep, VerifyOverrun}
use Rattle.unit.specs.declared.fate.Offence.TheVariants.{NotAuthorised, RmwLength, WrongAddress, NotOwner, NoSuchField}
use Rattle.unit.specs.declared.windows.Windows.{Windows}
use Rattle.unit.specs.declared.owner.Owner.{Owner}
use Rattle.unit.specs.declared.unit.Unit.{Unit as TheUnit}

-- ---- the first half: what the header decides

-- Status 2 unused type or code; 3 key; 12 logical address neither the unit's nor FE. RMAP asks for the unit's key and logical address,
-- plug-and-play for key 00 and address FE.
unfoldable pub opening_status : Header → ℕ → ℕ → Status
opening_status h key logical =
    cond (not (type_of h.instruction == 1) || is_unused (kind_in h)) (Err UnusedCode)
    (cond (not (h.key == key)) (Err WrongKey)
    (cond (not (h.target == logical) && not (h.target == 0xFE)) (Err WrongAddress)
    (Ok tt)))

-- RMW reads n = L/2 bytes.
abbrev pub rmw_count : Header → ℕ
rmw_count h = h.length / 2

-- Size of the span: L if incrementing, the smaller of L and 1 if single, L/2 for RMW.
unfoldable pub span_size : Header → ℕ
span_size h =
    cond (is_rmw (kind_in h)) (rmw_count h) (cond (is_incrementing h.instruction) h.length (min h.length 1))

-- Authorised: the extended address is 0, and one window holds the whole span with the right.
unfoldable pub is_authorised : Windows → Header → Bool
is_authorised w h = h.extended == 0 && some (allows (kind_in h) h.address (span_size h)) (used w)

-- 11 RMW with L not 0, 2, 4, 6 or 8; 10 not authorised; 9 verified write with L above 1,024.
unfoldable pub span_status : Windows → Header → Status
span_status w h =
    cond (is_rmw (kind_in h) && (nat_lt 8 h.length || not (h.length % 2 == 0))) (Err RmwLength)
    (cond (not (is_authorised w h)) (Err NotAuthorised)
    (cond (is_write h.instruction && is_verified h.instruction && nat_lt 1024 h.length) (Err VerifyOverrun)
    (Ok tt)))

-- An RMW has L of 8 and names one field; a read or write has L a multiple of 4 from 4 to 64 and names L/4.
abbrev pub is_field_length : Kind → ℕ → Bool
is_field_length kind n = cond (is_rmw kind) (n == 8) (n % 4 == 0 && nat_le 4 n && nat_le n 64)

abbrev pub field_count : Kind → ℕ → ℕ
field_count kind n = cond (is_rmw kind) 1 (n / 4)

-- 10 if not so: extended address 0, code 1111, 0011 or 0111, such an L, and no field passes 16,383.
unfoldable pub names_fields : Header → Bool
names_fields h =
    (h.extended == 0)
    && (code_of h.instruction == 0b1111 || code_of h.instruction == 0b0011 || code_of h.instruction == 0b0111)
    && is_field_length (kind_in h) h.length
    && nat_le (field_of h.address + field_count (kind_in h) h.length) (2 ^ 14)

-- F2 and F3.
abbrev pub offence_in : Kind → ℕ → ℕ → Status
offence_in Unused address count = Ok tt
offence_in Read address count = Ok tt
offence_in ReadModifyWrite address count = swap_offence (right_of address)
offence_in Write address count = write_offence (named address count)

-- Anyone may read; the owner writes; a swap is the owner's, and anyone's where Device ID is 0.
abbrev pub is_allowed : Kind → Owner → ℕ → Path → ℕ → Bool
is_allowed Unused o initiator path link = true
is_allowed Read o initiator path link = true
is_allowed ReadModifyWrite o initiator path link = o.device == 0 || is_owner o initiator path link
is_allowed Write o initiator path link = is_owner o initiator path link

-- 10; then F1 if any field named isn't in our table; F2 or F3; F0.
unfoldable pub fields_status : Owner → Header → Path → ℕ → Status
fields_status o h path link =
    cond (not (names_fields h)) (Err NotAuthorised)
    (cond (some is_missing (named h.address (field_count (kind_in h) h.length))) (Err NoSuchField)
    (or_else (offence_in (kind_in h) h.address (field_count (kind_in h) h.length))
    (cond (not (is_allowed (kind_in h) o h.initiator path link)) (Err NotOwner)
    (Ok tt))))

-- Protocol 01, and 03.
unfoldable pub header_status : TheUnit → Header → Path → ℕ → Status
header_status u h path link =
    cond (h.protocol == 0x01)
    (or_else (opening_status h u.key u.logical) (span_status u.windows h))
    (or_else (opening_status h 0x00 0xFE) (fields_status u.owner h path link))

-- ---- the second half: what the data decide

-- After the header a read wants no bytes, write and RMW L + 1.
unfoldable pub wanted_count : Header → ℕ
wanted_count h = cond (is_read (kind_in h)) 0 (h.length + 1)

-- 7 ended by EEP; 5 early EOP; 6 too much data; 4 data CRC: by the number k of bytes behind the header, and by their CRC. They end in their own CRC,
-- so all of them have the CRC 0; so have the none that a read wants.
unfoldable pub data_status : ℕ → ℕ → ℕ → End → Status
data_status k data_crc wanted end =
    cond (not (is_eop end)) (Err EndedByEep)
    (cond (nat_lt k wanted) (Err EarlyEop)
    (cond (nat_lt wanted k) (Err TooMuchData)
    (cond (not (data_crc == 0)) (Err DataCrc)
    (Ok tt))))

-- What is at hand of a packet whose header is whole: its bytes from the start on, all or the first; how many came in all; and the CRC of those behind
-- the header.
pub record AtHand : Type 0 where
  pub bytes : List ℕ
  pub came : ℕ
  pub data_crc : ℕ

abbrev pub all_at_hand : Header → Arrived → AtHand
all_at_hand h p = record {
  bytes = p.packet;
  came = length p.packet;
  data_crc = crc (drop (header_size h.instruction) p.packet);
}

-- How many bytes came behind the header, and the status that they give.
abbrev pub data_count : Header → AtHand → ℕ
data_count h hand = hand.came - header_size h.instruction

abbrev pub data_status_on : Header → AtHand → End → Status
data_status_on h hand end = data_status (data_count h hand) hand.data_crc (wanted_count h) end

-- Where all is at hand.
abbrev pub data_status_of : Header → Arrived → Status
data_status_of h p = data_status_on h (all_at_hand h p) p.end
