-- The CCSDS packet, which carries one space packet (document 02, 11).
use Rattle.std.specs.Prelude.{Option, Some, None, Result, Ok, Err}
use Rattle.std.specs.Prelude.{Bool, cond, not, ◌&&◌, ◌||◌, List, ◌∷◌, ℕ, ◌+◌, ◌/◌, ◌^◌, eqb, ltb, length, get_or, drop}
use Rattle.octets.specs.Places.{part, placed}
use Rattle.octets.specs.Numbers.{number}
use Rattle.packets.specs.Reading.{is_eop}
use Rattle.packets.specs.declared.reading.End.{End}
use Rattle.packets.specs.declared.ccsds.Unsent.{Unsent}
use Rattle.packets.specs.declared.ccsds.Unsent.TheVariants.{WrongSpacePacket, OutputTooShort}

-- The numbers of the request.
abbrev pub ccsds_number_of : Option ℕ → ℕ
ccsds_number_of (Some application) = 21
ccsds_number_of None = 22

abbrev pub unsent_number_of : Unsent → ℕ
unsent_number_of WrongSpacePacket = 41
unsent_number_of OutputTooShort = 42

-- ---- the space packet

-- Its version: the top three bits of its first byte.
abbrev pub version_of : List ℕ → ℕ
version_of space = get_or space 0 0 / 2 ^ 5

-- Its length field: bytes 4 and 5.
abbrev pub length_field : List ℕ → ℕ
length_field space = number (part 4 2 space)

-- The version is 0, and the length field plus 7 equals the size. (So it has at least 7 bytes; with fewer than 6, what is there of the length field
-- counts, and 7 more than that is not the size.)
abbrev pub is_space_packet : List ℕ → Bool
is_space_packet space = eqb (version_of space) 0 && eqb (length_field space + 7) (length space)

-- ---- the packet that carries it

-- From parts to bytes: logical address, 02, a reserved zero byte, the user application byte, one space packet.
abbrev pub ccsds_packet_of : ℕ → ℕ → List ℕ → List ℕ
ccsds_packet_of address application space = address ∷ 0x02 ∷ 0x00 ∷ application ∷ space

-- From bytes to parts: what stands at the place of the application byte, and behind it.
abbrev pub application_at : List ℕ → ℕ
application_at p = get_or p 3 0

unfoldable pub space_packet_in : List ℕ → List ℕ
space_packet_in p = drop 4 p

-- Received, it is accepted exactly if the address is the unit's or FE, the reserved byte is 0, it ended by EOP, and the space packet is right. One that
-- is too short to tell has no right space packet.
abbrev pub is_ccsds_packet : List ℕ → End → ℕ → Bool
is_ccsds_packet p end logical =
    (eqb (get_or p 0 0) logical || eqb (get_or p 0 0) 0xFE) && eqb (get_or p 1 0) 0x02 && eqb (get_or p 2 0) 0x00 && is_eop end && is_space_packet (drop 4 p)

unfoldable pub read_ccsds : List ℕ → End → ℕ → Option ℕ
read_ccsds p end logical = cond (is_ccsds_packet p end logical) (Some (application_at p)) None

-- ---- sending

-- What comes of sending a space packet, with room for so many bytes: 41 goes before 42; else all of the packet is sent.
unfoldable pub sending : List ℕ → ℕ → Result ℕ Unsent
sending space room =
    cond (not (is_space_packet space)) (Err WrongSpacePacket)
    (cond (ltb room (4 + length space)) (Err OutputTooShort) (Ok (4 + length space)))

-- What the output then holds: the packet at its start, or what it held.
abbrev pub left_by : Result ℕ Unsent → List ℕ → List ℕ → List ℕ
left_by (Ok n) packet out = placed 0 packet out
left_by (Err why) packet out = out

unfoldable pub sent : ℕ → ℕ → List ℕ → List ℕ → List ℕ
sent address application space out = left_by (sending space (length out)) (ccsds_packet_of address application space) out
