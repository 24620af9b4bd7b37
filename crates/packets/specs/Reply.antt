-- The reply to a command (document 01, 'Reply'; 001, 5.3.2, 5.4.2 and 5.5.2). It is sent if the command wants one: `wants_reply`.
use Rattle.std.specs.Prelude.{Bool, cond, not, ◌&&◌, List, [], ◌∷◌, ◌++◌, ℕ, ◌+◌, ◌^◌, eqb, leb, ltb, length, replicate}
use Rattle.octets.specs.Places.{part, placed}
use Rattle.octets.specs.Numbers.{bytes_of}
use Rattle.octets.specs.Crc.{with_crc}
use Rattle.packets.specs.Instruction.{is_write, reply_form}
use Rattle.packets.specs.Path.{path_bytes}
use Rattle.packets.specs.declared.path.Path.{Path}
use Rattle.packets.specs.declared.header.Header.{Header}
use Rattle.packets.specs.declared.reply.Data.{Data}
use Rattle.packets.specs.declared.reply.Data.TheVariants.{Bytes, Repeated, InPlace}

-- Behind the path: initiator address, protocol, instruction with type 00, status, target address as received, transaction.
abbrev pub reply_start : Header → ℕ → List ℕ
reply_start h status =
    h.initiator ∷ h.protocol ∷ (reply_form h.instruction).byte ∷ status ∷ h.target ∷ bytes_of 2 h.transaction

-- Then, with the write bit, the header CRC. Without it a zero byte, the length of the data that follow, and the header CRC.
abbrev pub reply_head : Header → ℕ → ℕ → List ℕ
reply_head h status count =
    cond (is_write h.instruction) (with_crc (reply_start h status)) (with_crc (reply_start h status ++ (0 ∷ bytes_of 3 count)))

-- The whole reply. Without the write bit the data d follow and end in their own CRC, which is 0 where there are none; with it
-- nothing does. No CRC covers the path.
unfoldable pub reply_with : Path → Header → ℕ → List ℕ → List ℕ
reply_with k h status d = path_bytes k ++ reply_head h status (length d) ++ cond (is_write h.instruction) [] (with_crc d)

-- Where the data stand in it: behind the path and the twelve bytes of a header that tells their length.
abbrev pub data_place : Path → ℕ
data_place k = length (path_bytes k) + 12

-- The data, where a buffer holds these bytes before the reply is written into it: bytes; one byte, so many times over; or so many bytes that stand
-- in their place already.
abbrev pub data_in : Path → Data → List ℕ → List ℕ
data_in k (Bytes bytes) out = bytes.now
data_in k (Repeated byte count) out = replicate count byte
data_in k (InPlace count) out = part (data_place k) count out

-- How many they are. (Of those in their place not all need be there: then the reply doesn't fit.)
abbrev pub data_size : Data → ℕ
data_size (Bytes bytes) = length bytes.now
data_size (Repeated byte count) = count
data_size (InPlace count) = count

-- Data follow only without the write bit and with status 0: errors carry none.
abbrev pub carries_data : Header → ℕ → Bool
carries_data h status = not (is_write h.instruction) && eqb status 0

abbrev pub carried : Header → ℕ → List ℕ → List ℕ
carried h status d = cond (carries_data h status) d []

abbrev pub carried_count : Header → ℕ → ℕ → ℕ
carried_count h status n = cond (carries_data h status) n 0

-- The reply to a command with a status, where d are the data, if it carries any.
abbrev pub reply_of : Path → Header → ℕ → List ℕ → List ℕ
reply_of k h status d = reply_with k h status (carried h status d)

-- Its length, known before anything is written: behind the path 8 bytes with the write bit, else 13 and the data, of which there
-- are n if it carries any.
unfoldable pub reply_length : Path → Header → ℕ → ℕ → ℕ
reply_length k h status n = length (path_bytes k) + cond (is_write h.instruction) 8 (13 + carried_count h status n)

-- It can be written: three bytes can tell the length of the data, and the room is there.
abbrev pub reply_fits : Path → Header → ℕ → ℕ → ℕ → Bool
reply_fits k h status n room = ltb (carried_count h status n) (256 ^ 3) && leb (reply_length k h status n) room

-- What a buffer holds after that: all of the reply at its start, or what it held.
unfoldable pub replied : Path → Header → ℕ → List ℕ → List ℕ → List ℕ
replied k h status d out = cond (reply_fits k h status (length d) (length out)) (placed 0 (reply_of k h status d) out) out
