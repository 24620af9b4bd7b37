-- What a packet is, as far as its header tells (document 01, 'Reading a packet'; document 02, 2).
use Rattle.std.specs.Prelude.{Bool, true, false, cond, ◌&&◌, ◌||◌, List, [], ℕ, ◌+◌, eqb, leb, ltb, length, get_or, take, drop, Result, Ok, Err}
use Rattle.octets.specs.Places.{part}
use Rattle.octets.specs.Crc.{crc}
use Rattle.packets.specs.Instruction.{type_of, reply_address_size, header_size}
use Rattle.packets.specs.Path.{kept}
use Rattle.packets.specs.Header.{instruction_at, parts_at}
use Rattle.packets.specs.declared.reading.End.{End}
use Rattle.packets.specs.declared.reading.End.TheVariants.{Eop, Eep}
use Rattle.packets.specs.declared.path.Path.{Path}
use Rattle.packets.specs.declared.reading.Command.{Command as TheCommand}
use Rattle.packets.specs.declared.reading.Packet.{Packet}
use Rattle.packets.specs.declared.reading.Packet.TheVariants.{Time, Command}
use Rattle.packets.specs.declared.reading.Refusal.{Refusal}
use Rattle.packets.specs.declared.reading.Refusal.TheVariants.{Incomplete, UnknownProtocol, ExtendedProtocol, Reply, HeaderCrc}

-- A packet ends by EOP or by EEP.
abbrev pub is_eop : End → Bool
is_eop Eop = true
is_eop Eep = false

-- Document 01's number of each refusal.
abbrev pub number_of : Refusal → ℕ
number_of Incomplete = 11
number_of UnknownProtocol = 12
number_of ExtendedProtocol = 13
number_of Reply = 14
number_of HeaderCrc = 15

-- A packet that begins 00 FE 03 is read as if its first byte weren't there: that is the last zero of the path to us, which some interfaces leave, and what
-- stands behind the path of plug-and-play is always FE (document 02, 2; 000, 5.2.3.2c). A byte that is not there counts as 0 here, and
-- neither FE nor 03 is that. What follows is said of any bytes; a packet that arrived is handed to it as `bare` leaves it.
abbrev pub has_zero : List ℕ → Bool
has_zero p = eqb (get_or p 0 0) 0x00 && eqb (get_or p 1 0) 0xFE && eqb (get_or p 2 0) 0x03

unfoldable pub bare : List ℕ → List ℕ
bare p = cond (has_zero p) (drop 1 p) p

-- A command: its parts, and the path of its reply address, which stands behind the first four bytes.
abbrev pub command : List ℕ → TheCommand
command p = record {
  header = parts_at p (4 + reply_address_size (instruction_at p));
  path = kept (part 4 (reply_address_size (instruction_at p)) p);
}

-- For 01 and 03, in order: under 3 bytes, type 00, shorter than the header, header CRC.
unfoldable pub read_command : List ℕ → Result Packet Refusal
read_command p =
    cond (ltb (length p) 3) (Err Incomplete)
    (cond (eqb (type_of (instruction_at p)) 0) (Err Reply)
    (cond (ltb (length p) (header_size (instruction_at p))) (Err Incomplete)
    (cond (eqb (crc (take (header_size (instruction_at p)) p)) 0) (Ok (Command (command p)))
    (Err HeaderCrc))))

-- The second byte: 01 and 03 are read as commands, 00 is the extended protocol, the time number is time, others are unknown.
-- Time numbers are those from F0 to FE ('Numbers a caller gets', 1; 'Places and their forms'; 004).
unfoldable pub read_protocol : ℕ → List ℕ → ℕ → Result Packet Refusal
read_protocol protocol p timeNumber =
    cond (eqb protocol 0x01 || eqb protocol 0x03) (read_command p)
    (cond (eqb protocol 0x00) (Err ExtendedProtocol)
    (cond (leb 0xF0 protocol && leb protocol 0xFE && eqb protocol timeNumber) (Ok Time)
    (Err UnknownProtocol)))

-- Under 2 bytes: incomplete.
unfoldable pub read_packet : List ℕ → ℕ → Result Packet Refusal
read_packet p timeNumber = cond (ltb (length p) 2) (Err Incomplete) (read_protocol (get_or p 1 0) p timeNumber)

-- The path of what was read: a command's. Anything else has none.
abbrev pub path_read : Result Packet Refusal → Path
path_read (Ok (Command c)) = c.path
path_read (Ok Time) = kept []
path_read (Err why) = kept []
