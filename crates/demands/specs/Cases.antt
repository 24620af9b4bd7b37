-- Document 01's 'Cases by hand', in one table; and beside it the cases of the Time-Code's wrap (document 02, 3), of a zero in front (document 02, 2) and of
-- the newer preamble (document 02, 12).
use Rattle.std.specs.Prelude.{◌≡◌, true, List, [], ◌∷◌, ℕ, ◌-◌, ◌^◌, length, get_or, Option, None, Some}
use Rattle.octets.specs.Crc.{crc}
use Rattle.packets.specs.Instruction.{type_of, code_of, kind_of, is_verified, wants_reply, is_incrementing}
use Rattle.packets.specs.Path.{kept, path_bytes}
use Rattle.packets.specs.declared.instruction.Kind.{Kind}
use Rattle.packets.specs.declared.instruction.Kind.TheVariants.{Read, ReadModifyWrite, Write}
use Rattle.packets.specs.declared.reading.End.{End}
use Rattle.packets.specs.declared.reading.End.TheVariants.{Eop}
use Rattle.unit.specs.Fate.{fate_number}
use Rattle.unit.specs.Usable.{usable, usable_unit}
use Rattle.unit.specs.Act.{combine_byte}
use Rattle.unit.specs.Given.{Lent}
use Rattle.unit.specs.Judge.{is_link}
use Rattle.unit.specs.Calls.{take_packet, take_time_code, take_ticks}
use Rattle.unit.specs.declared.calls.Answer.{Answer}
use Rattle.unit.specs.declared.clock.Elapsed.{Elapsed}
use Rattle.unit.specs.declared.unit.Unit.{Unit as TheUnit}

-- An instruction is a command of a kind, incrementing and with a reply.
abbrev pub Instructs : ℕ → Kind → Type 0
Instructs byte kind =
    (type_of (record { byte = byte }) ≡ 1)
    × (kind_of (code_of (record { byte = byte })) ≡ kind)
    × (is_incrementing (record { byte = byte }) ≡ true)
    × (wants_reply (record { byte = byte }) ≡ true)

-- A packet gets a number from every usable unit, with any end, on any of its links.
abbrev pub Gets : List ℕ → ℕ → Type 0
Gets p number =
    (u : TheUnit) (end : End) (link : ℕ) (lent : Lent) → usable u (length lent.memory) ≡ true → is_link u link ≡ true
    → fate_number (take_packet u (record { packet = p; end = end; link = link }) lent).answer.fate ≡ number

-- The same, from those with some time number.
abbrev pub GetsAt : ℕ → List ℕ → ℕ → Type 0
GetsAt timeNumber p number =
    (u : TheUnit) (end : End) (link : ℕ) (lent : Lent) → usable u (length lent.memory) ≡ true → is_link u link ≡ true → u.number ≡ timeNumber
    → fate_number (take_packet u (record { packet = p; end = end; link = link }) lent).answer.fate ≡ number

abbrev pub HandCases : Type 0
HandCases =
    -- CRC of 01, and of 80
    (crc (0x01 ∷ []) ≡ 0x91)
    × (crc (0x80 ∷ []) ≡ 0xE0)
    -- old 55, mask 0F, data AA
    × (combine_byte 0x0F 0xAA 0x55 ≡ 0x5A)
    -- reply addresses and their paths
    × (path_bytes (kept (0x00 ∷ 0x00 ∷ 0x00 ∷ 0x00 ∷ [])) ≡ 0x00 ∷ [])
    × (path_bytes (kept (0x00 ∷ 0x00 ∷ 0x01 ∷ 0x02 ∷ [])) ≡ 0x01 ∷ 0x02 ∷ [])
    × (path_bytes (kept (0x00 ∷ 0x00 ∷ 0x01 ∷ 0x00 ∷ [])) ≡ 0x01 ∷ 0x00 ∷ [])
    -- verified write, read, RMW
    × Instructs 0x7C Write
    × (is_verified (record { byte = 0x7C }) ≡ true)
    × Instructs 0x4C Read
    × Instructs 0x5C ReadModifyWrite
    -- the empty packet, and FE 00
    × Gets [] 11
    × Gets (0xFE ∷ 0x00 ∷ []) 13
    -- ET 2^56-1 and one tick
    × ((u : TheUnit) → usable_unit u ≡ true → u.clock.elapsed.value ≡ 2 ^ 56 - 1 → (take_ticks u 1).unit.clock.elapsed.value ≡ 0)

-- Time-Code 0 behind 63 makes one ET of another, in every usable unit in which that waits: no value, or one.
abbrev pub WrapMakes : Option Elapsed → ℕ → ℕ → Type 0
WrapMakes waiting before after =
    (u : TheUnit) → usable_unit u ≡ true → u.clock.last ≡ 63 → u.clock.waiting ≡ waiting → u.clock.elapsed.value ≡ before
    → (take_time_code u 0).unit.clock.elapsed.value ≡ after

abbrev pub WrapCases : Type 0
WrapCases =
    -- exactly one half, and one tick below it; of an odd second and of an even one
    WrapMakes None 0x00000007800000 0x00000008000000
    × WrapMakes None 0x000000077FFFFF 0x00000007000000
    × WrapMakes None 0x00000006800000 0x00000007000000
    × WrapMakes None 0x000000067FFFFF 0x00000006000000
    -- a second that is nearly over, one that has just begun, and one that begins
    × WrapMakes None 0x00000007FFFFFF 0x00000008000000
    × WrapMakes None 0x00000007000001 0x00000007000000
    × WrapMakes None 0x00000007000000 0x00000007000000
    -- all 32 bits of the seconds count
    × WrapMakes None 0x7FFFFFFF800000 0x80000000000000
    -- the last second of all: from one half on it rolls over to 0, below it stays
    × WrapMakes None 0xFFFFFFFFFFFFFF 0
    × WrapMakes None 0xFFFFFFFF800000 0
    × WrapMakes None 0xFFFFFFFF7FFFFF 0xFFFFFFFF000000
    × WrapMakes None 0xFFFFFFFF000000 0xFFFFFFFF000000
    -- a waiting value wins on both sides of the half
    × ((w : Elapsed) → WrapMakes (Some w) 0x00000007800000 w.value × WrapMakes (Some w) 0x000000077FFFFF w.value)

abbrev pub ZeroCases : Type 0
ZeroCases =
    -- 00 FE 03 by itself is incomplete, as FE 03 is
    Gets (0x00 ∷ 0xFE ∷ 0x03 ∷ []) 11
    × Gets (0xFE ∷ 0x03 ∷ []) 11
    -- a header without its CRC, which with the zero has sixteen bytes; with a wrong CRC; and a reply
    × Gets (0x00 ∷ 0xFE ∷ 0x03 ∷ 0x4C ∷ 0x00 ∷ 0x67 ∷ 0x00 ∷ 0x01 ∷ 0x00 ∷ 0x00 ∷ 0x00 ∷ 0x00 ∷ 0x00 ∷ 0x00 ∷ 0x00 ∷ 0x04 ∷ []) 11
    × Gets (0x00 ∷ 0xFE ∷ 0x03 ∷ 0x4C ∷ 0x00 ∷ 0x67 ∷ 0x00 ∷ 0x01 ∷ 0x00 ∷ 0x00 ∷ 0x00 ∷ 0x00 ∷ 0x00 ∷ 0x00 ∷ 0x00 ∷ 0x04 ∷ 0x71 ∷ []) 15
    × Gets (0x00 ∷ 0xFE ∷ 0x03 ∷ 0x0C ∷ []) 14
    -- two zeros
    × Gets (0x00 ∷ 0x00 ∷ 0xFE ∷ 0x03 ∷ []) 13
    -- one byte
    × Gets (0x00 ∷ []) 11
    -- of what else begins with 00: by its second byte, RMAP too, a time number, or unknown
    × GetsAt 0xFE (0x00 ∷ 0xFE ∷ []) 16
    × GetsAt 0xFE (0x00 ∷ 0xFE ∷ 0x01 ∷ []) 16
    × GetsAt 0xF0 (0x00 ∷ 0xFE ∷ []) 12
    × GetsAt 0xF0 (0x00 ∷ 0xFE ∷ 0x01 ∷ []) 12
    × Gets (0x00 ∷ 0x43 ∷ 0x03 ∷ []) 12
    -- and so does another byte in front of FE 03
    × GetsAt 0xFE (0x01 ∷ 0xFE ∷ 0x03 ∷ []) 16
    × GetsAt 0xF0 (0x01 ∷ 0xFE ∷ 0x03 ∷ []) 12

-- What a packet that ended by EOP comes to in every usable unit with time number F0, on any of its links.
abbrev pub ComesTo : List ℕ → (Answer → Type 0) → Type 0
ComesTo p Is =
    (u : TheUnit) (link : ℕ) (lent : Lent) → usable u (length lent.memory) ≡ true → is_link u link ≡ true → u.number ≡ 0xF0
    → Is (take_packet u (record { packet = p; end = Eop; link = link }) lent).answer

-- It is taken, and ET or what waits is so many ticks; or it is thrown away.
abbrev pub ShowsAtOnce : List ℕ → ℕ → Type 0
ShowsAtOnce p et = ComesTo p (λ a. (fate_number a.fate ≡ 19) × (a.unit.clock.elapsed ≡ record { value = et; epoch = get_or p 2 0 }))

abbrev pub WaitsFor : List ℕ → ℕ → Type 0
WaitsFor p et = ComesTo p (λ a. (fate_number a.fate ≡ 19) × (a.unit.clock.waiting ≡ Some (record { value = et; epoch = get_or p 2 0 })))

abbrev pub IsThrownAway : List ℕ → Type 0
IsThrownAway p = ComesTo p (λ a. fate_number a.fate ≡ 16)

abbrev pub PreambleCases : Type 0
PreambleCases =
    -- T alone: 5 1/2 seconds, at once and at the wrap
    ShowsAtOnce (0xFE ∷ 0xF0 ∷ 0x9F ∷ 0x01 ∷ 0x00 ∷ 0x00 ∷ 0x00 ∷ 0x05 ∷ 0x80 ∷ 0x00 ∷ 0x00 ∷ 0xB0 ∷ []) 0x00000005800000
    × WaitsFor (0xFE ∷ 0xF0 ∷ 0xAF ∷ 0x00 ∷ 0x00 ∷ 0x00 ∷ 0x00 ∷ 0x05 ∷ 0x80 ∷ 0x00 ∷ 0x00 ∷ 0x09 ∷ []) 0x00000005800000
    -- an octet of seconds, one of fraction, one of each
    × ShowsAtOnce (0xFE ∷ 0xF0 ∷ 0x9F ∷ 0x21 ∷ 0x00 ∷ 0x00 ∷ 0x00 ∷ 0x00 ∷ 0x05 ∷ 0x80 ∷ 0x00 ∷ 0x00 ∷ 0x8D ∷ []) 0x00000005800000
    × ShowsAtOnce (0xFE ∷ 0xF0 ∷ 0x9F ∷ 0x05 ∷ 0x00 ∷ 0x00 ∷ 0x00 ∷ 0x05 ∷ 0x80 ∷ 0x00 ∷ 0x00 ∷ 0xFF ∷ 0xBB ∷ []) 0x00000005800000
    × WaitsFor (0xFE ∷ 0xF0 ∷ 0x9F ∷ 0x24 ∷ 0x00 ∷ 0x00 ∷ 0x00 ∷ 0x00 ∷ 0x05 ∷ 0x80 ∷ 0x00 ∷ 0x00 ∷ 0xFF ∷ 0x42 ∷ []) 0x00000005800000
    -- three and seven; the last tick of all stays the last
    × ShowsAtOnce (0xFE ∷ 0xF0 ∷ 0x9F ∷ 0x7D ∷ 0x00 ∷ 0x00 ∷ 0x00 ∷ 0x00 ∷ 0x00 ∷ 0x00 ∷ 0x05 ∷ 0x80 ∷ 0x00 ∷ 0x00 ∷ 0x80 ∷ 0x00 ∷ 0x00 ∷ 0x00 ∷ 0x00 ∷ 0x00 ∷ 0x00 ∷ 0x49 ∷ []) 0x00000005800000
    × WaitsFor (0xFE ∷ 0xF0 ∷ 0x9F ∷ 0x7C ∷ 0x00 ∷ 0x00 ∷ 0x00 ∷ 0xFF ∷ 0xFF ∷ 0xFF ∷ 0xFF ∷ 0xFF ∷ 0xFF ∷ 0xFF ∷ 0xFF ∷ 0xFF ∷ 0xFF ∷ 0xFF ∷ 0xFF ∷ 0xFF ∷ 0xFF ∷ 0x99 ∷ []) 0xFFFFFFFFFFFFFF
    -- two and five, none and three, one and six
    × ShowsAtOnce (0xFE ∷ 0xF0 ∷ 0xAF ∷ 0x55 ∷ 0x00 ∷ 0x00 ∷ 0x00 ∷ 0x00 ∷ 0x00 ∷ 0x05 ∷ 0x80 ∷ 0x00 ∷ 0x00 ∷ 0xFF ∷ 0xFF ∷ 0xFF ∷ 0xFF ∷ 0xFF ∷ 0xA5 ∷ []) 0x00000005800000
    × WaitsFor (0xFE ∷ 0xF0 ∷ 0xAF ∷ 0x0C ∷ 0x00 ∷ 0x00 ∷ 0x00 ∷ 0x05 ∷ 0x80 ∷ 0x00 ∷ 0x00 ∷ 0x01 ∷ 0x02 ∷ 0x03 ∷ 0x95 ∷ []) 0x00000005800000
    × ShowsAtOnce (0xFE ∷ 0xF0 ∷ 0x9F ∷ 0x39 ∷ 0x00 ∷ 0x00 ∷ 0x00 ∷ 0x00 ∷ 0x05 ∷ 0x80 ∷ 0x00 ∷ 0x00 ∷ 0x00 ∷ 0x00 ∷ 0x00 ∷ 0x00 ∷ 0x00 ∷ 0x00 ∷ 0x4D ∷ []) 0x00000005800000
    -- an octet of seconds that is not 0
    × IsThrownAway (0xFE ∷ 0xF0 ∷ 0x9F ∷ 0x21 ∷ 0x01 ∷ 0x00 ∷ 0x00 ∷ 0x00 ∷ 0x05 ∷ 0x80 ∷ 0x00 ∷ 0x00 ∷ 0x70 ∷ [])
    × IsThrownAway (0xFE ∷ 0xF0 ∷ 0x9F ∷ 0x61 ∷ 0x00 ∷ 0x00 ∷ 0x80 ∷ 0x00 ∷ 0x00 ∷ 0x00 ∷ 0x05 ∷ 0x80 ∷ 0x00 ∷ 0x00 ∷ 0x6A ∷ [])
    -- bit 0, bit 6
    × IsThrownAway (0xFE ∷ 0xF0 ∷ 0x9F ∷ 0x85 ∷ 0x00 ∷ 0x00 ∷ 0x00 ∷ 0x05 ∷ 0x80 ∷ 0x00 ∷ 0x00 ∷ 0xFF ∷ 0x25 ∷ [])
    × IsThrownAway (0xFE ∷ 0xF0 ∷ 0x9F ∷ 0x07 ∷ 0x00 ∷ 0x00 ∷ 0x00 ∷ 0x05 ∷ 0x80 ∷ 0x00 ∷ 0x00 ∷ 0xFF ∷ 0xE3 ∷ [])
    -- a byte short, a byte long
    × IsThrownAway (0xFE ∷ 0xF0 ∷ 0x9F ∷ 0x05 ∷ 0x00 ∷ 0x00 ∷ 0x00 ∷ 0x05 ∷ 0x80 ∷ 0x00 ∷ 0x00 ∷ 0xC6 ∷ [])
    × IsThrownAway (0xFE ∷ 0xF0 ∷ 0x9F ∷ 0x05 ∷ 0x00 ∷ 0x00 ∷ 0x00 ∷ 0x05 ∷ 0x80 ∷ 0x00 ∷ 0x00 ∷ 0xFF ∷ 0x00 ∷ 0xB8 ∷ [])
    × IsThrownAway (0xFE ∷ 0xF0 ∷ 0x9F ∷ 0x21 ∷ 0x00 ∷ 0x00 ∷ 0x00 ∷ 0x05 ∷ 0x80 ∷ 0x00 ∷ 0x00 ∷ 0x82 ∷ [])
    × IsThrownAway (0xFE ∷ 0xF0 ∷ 0x9F ∷ 0x21 ∷ 0x00 ∷ 0x00 ∷ 0x00 ∷ 0x00 ∷ 0x00 ∷ 0x05 ∷ 0x80 ∷ 0x00 ∷ 0x00 ∷ 0xF6 ∷ [])
