-- The time packet (document 01, 'Time', as request 12 of document 02 has it; 004, 'CCSDS Unsegmented Code Transfer Protocol Format', 'Draft P-Field format').
use Rattle.std.specs.Prelude.{Option, Some, None}
use Rattle.std.specs.Prelude.{Bool, cond, ◌&&◌, ◌||◌, List, [], ◌∷◌, ◌++◌, ℕ, ◌+◌, ◌-◌, ◌*◌, ◌/◌, ◌%◌, ◌^◌, eqb, length, get_or, replicate}
use Rattle.octets.specs.Places.{part}
use Rattle.octets.specs.Numbers.{number, bytes_of}
use Rattle.octets.specs.Crc.{crc, with_crc}
use Rattle.packets.specs.Reading.{is_eop}
use Rattle.packets.specs.declared.reading.End.{End}
use Rattle.packets.specs.declared.time.When.{When}
use Rattle.packets.specs.declared.time.When.TheVariants.{AtWrap, AtOnce}
use Rattle.packets.specs.declared.time.Time.{Time}

-- Document 01's number of each answer.
abbrev pub time_number_of : Option Time → ℕ
time_number_of None = 16
time_number_of (Some t) = 19

-- Document 01's number of each case, the last bit of a time packet's byte 3: 0 makes the time wait for the wrap, 1 sets it at once.
abbrev pub when_number : When → ℕ
when_number AtWrap = 0
when_number AtOnce = 1

-- From parts to bytes. The second octet, where so many octets of seconds and of fraction are added.
abbrev pub preamble_of : ℕ → ℕ → When → ℕ
preamble_of seconds fraction when = seconds * 2 ^ 5 + fraction * 2 ^ 2 + when_number when

-- The time packet to that address with the time t: `zeros` octets of seconds and the octets `cut` of fraction are added. Its CRC ends it.
unfoldable pub time_packet_of : ℕ → ℕ → Time → ℕ → List ℕ → List ℕ
time_packet_of address timeNumber t zeros cut =
    with_crc ((address ∷ timeNumber ∷ t.epoch ∷ preamble_of zeros (length cut) t.when ∷ []) ++ replicate zeros 0 ++ bytes_of 7 t.value ++ cut)

-- From bytes to parts. Of the two numbers that a bit can be, each is read as its own case: `number_back`, in TimeLaws.
abbrev pub when_of : ℕ → When
when_of n = cond (eqb n (when_number AtOnce)) AtOnce AtWrap

-- Bits `first` to `last` of an octet, as a number. 004's bit 0 is the most significant of the eight.
abbrev pub octet_bits : ℕ → ℕ → ℕ → ℕ
octet_bits first last octet = octet / 2 ^ (7 - last) % 2 ^ (last + 1 - first)

-- Bits of the second preamble octet, byte 3.
abbrev pub preamble_bits : ℕ → ℕ → List ℕ → ℕ
preamble_bits first last p = octet_bits first last (get_or p 3 0)

-- Bits 1-2 add up to three octets of seconds, bits 3-5 up to seven of fraction.
abbrev pub added_seconds : List ℕ → ℕ
added_seconds p = preamble_bits 1 2 p

abbrev pub added_fraction : List ℕ → ℕ
added_fraction p = preamble_bits 3 5 p

-- 12 bytes and those that are added, no more and no fewer, and EOP: address (the unit's or FE), number, 9F or AF, the second octet, whose bits 0 and 6
-- are 0, the added octets of seconds, which are 0, seven bytes of T, the added octets of fraction, and a CRC over all before it: the CRC of all is 0.
abbrev pub is_time_packet : List ℕ → End → ℕ → ℕ → Bool
is_time_packet p end logical timeNumber =
    eqb (length p) (12 + added_seconds p + added_fraction p) && is_eop end
    && (eqb (get_or p 0 0) logical || eqb (get_or p 0 0) 0xFE)
    && eqb (get_or p 1 0) timeNumber
    && (eqb (get_or p 2 0) 0x9F || eqb (get_or p 2 0) 0xAF)
    && (eqb (preamble_bits 0 0 p) 0 && eqb (preamble_bits 6 6 p) 0)
    && eqb (number (part 4 (added_seconds p) p)) 0
    && eqb (crc p) 0

-- What it says: epoch code, when, by the last bit of the second octet, and T. What is added to the fraction is cut off.
abbrev pub time_at : List ℕ → Time
time_at p = record { epoch = get_or p 2 0; when = when_of (preamble_bits 7 7 p); value = number (part (4 + added_seconds p) 7 p) }

unfoldable pub read_time : List ℕ → End → ℕ → ℕ → Option Time
read_time p end logical timeNumber = cond (is_time_packet p end logical timeNumber) (Some (time_at p)) None
