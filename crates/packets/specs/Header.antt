-- The header of a command, as parts and as bytes (document 01, 'Reading a packet'; 001, 5.1.2 to 5.1.12).
use Rattle.std.specs.Prelude.{List, [], ◌∷◌, ◌++◌, ℕ, ◌+◌, get_or}
use Rattle.octets.specs.Places.{part}
use Rattle.octets.specs.Numbers.{number, bytes_of}
use Rattle.octets.specs.Crc.{with_crc}
use Rattle.packets.specs.Instruction.{code_of, kind_of}
use Rattle.packets.specs.declared.instruction.Instruction.{Instruction}
use Rattle.packets.specs.declared.instruction.Kind.{Kind}
use Rattle.packets.specs.declared.header.Header.{Header}

-- From parts to bytes, in order. In front of the reply address: target logical address, protocol, instruction, key.
abbrev pub front_of : Header → List ℕ
front_of h = h.target ∷ h.protocol ∷ h.instruction.byte ∷ h.key ∷ []

-- Behind it: initiator logical address, transaction (2), extended address, address (4), length (3).
abbrev pub rear_of : Header → List ℕ
rear_of h = (h.initiator ∷ bytes_of 2 h.transaction) ++ (h.extended ∷ bytes_of 4 h.address) ++ bytes_of 3 h.length

-- The header with those parts and the reply address a; its CRC ends it.
unfoldable pub header_of : Header → List ℕ → List ℕ
header_of h a = with_crc (front_of h ++ a ++ rear_of h)

-- From bytes to parts. The instruction is the third byte; it tells how long the reply address is.
abbrev pub instruction_at : List ℕ → Instruction
instruction_at p = record { byte = get_or p 2 0 }

-- The parts of a packet whose reply address ends before the place `at`. That this is the way back is a law, in HeaderLaws.
abbrev pub parts_at : List ℕ → ℕ → Header
parts_at p at = record {
  target = get_or p 0 0;
  protocol = get_or p 1 0;
  instruction = instruction_at p;
  key = get_or p 3 0;
  initiator = get_or p at 0;
  transaction = number (part (at + 1) 2 p);
  extended = get_or p (at + 3) 0;
  address = number (part (at + 4) 4 p);
  length = number (part (at + 8) 3 p);
}

-- The kind of a command, by its code.
abbrev pub kind_in : Header → Kind
kind_in h = kind_of (code_of h.instruction)
