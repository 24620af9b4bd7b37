-- Names kept: what is not there is refused, never answered (document 01, 'Fields' and 'Span').
use Rattle.std.specs.Prelude.{◌≡◌, true, false, ◌&&◌, ◌≢◌, List, [], ◌∷◌, map, ℕ, ◌+◌, ◌<◌, ◌≤◌, eqb, length, Some}
use Rattle.packets.specs.Instruction.{wants_reply}
use Rattle.packets.specs.Header.{kind_in}
use Rattle.packets.specs.declared.header.Header.{Header}
use Rattle.unit.specs.Some.{some}
use Rattle.unit.specs.Fate.{is_success, fate_status}
use Rattle.unit.specs.Windows.{holds, has_right, used}
use Rattle.unit.specs.Fields.{row_of}
use Rattle.unit.specs.Usable.{usable}
use Rattle.unit.specs.Given.{Arrived, Lent}
use Rattle.unit.specs.Decide.{opening_status, span_size, field_count, names_fields}
use Rattle.unit.specs.Judge.{is_link}
use Rattle.unit.specs.declared.unit.Unit.{Unit as TheUnit}
use Rattle.demands.specs.Terminal.{Terminal, IsCommand}
use Rattle.demands.specs.Refusals.{length_due}

-- ---- fields

-- The register: the addresses of our fields. Application 0, set 0; protocol 0, fields 0 to 10; protocol 1, fields 0 to 3.
abbrev pub register : List ℕ
register =
    0x00000000 ∷ 0x00000001 ∷ 0x00000002 ∷ 0x00000003 ∷ 0x00000004 ∷ 0x00000005 ∷ 0x00000006 ∷ 0x00000007 ∷ 0x00000008 ∷ 0x00000009 ∷ 0x0000000A
    ∷ 0x00080000 ∷ 0x00080001 ∷ 0x00080002 ∷ 0x00080003 ∷ []

-- Each has its row of the table, in this order.
abbrev pub RowsKept : Type 0
RowsKept = map row_of register ≡ 0 ∷ 1 ∷ 2 ∷ 3 ∷ 4 ∷ 5 ∷ 6 ∷ 7 ∷ 8 ∷ 9 ∷ 10 ∷ 11 ∷ 12 ∷ 13 ∷ 14 ∷ []

-- A command names L/4 fields from its address on, and one if it is an RMW. One of them is not in the register. (A read or write with L below 4 names none; it
-- is refused for that.)
abbrev pub NamesMissing : Header → Type 0
NamesMissing h = (k : ℕ) × (k < field_count (kind_in h) h.length) × (some (eqb (h.address + k)) register ≡ false)

-- A plug-and-play command that names such a field never has status 0.
abbrev pub MissingRefused : Terminal → Type 0
MissingRefused t =
    (u : TheUnit) (p : Arrived) (lent : Lent) (h : Header) → IsCommand u p h → h.protocol ≡ 0x03 → NamesMissing h
    → fate_status (t.packet u p lent).answer.fate ≢ Some 0

-- Where it got past the checks before that one (1, 2; 2, 3, 12 and 10), and its reply, if asked for, has room, it has F1.
abbrev pub MissingIsF1 : Terminal → Type 0
MissingIsF1 t =
    (u : TheUnit) (p : Arrived) (lent : Lent) (h : Header) → IsCommand u p h → h.protocol ≡ 0x03 → NamesMissing h
    → usable u (length lent.memory) ≡ true → is_link u p.link ≡ true → is_success (opening_status h 0x00 0xFE) ≡ true → names_fields h ≡ true
    → (wants_reply h.instruction ≡ true → length_due u p h ≤ length lent.reply)
    → fate_status (t.packet u p lent).answer.fate ≡ Some 0xF1

-- ---- memory

-- The extended address is 0, and one window holds the whole span with the command's right.
abbrev pub WindowWithRight : TheUnit → Header → Type 0
WindowWithRight u h =
    (h.extended ≡ 0) × (some (λ w. holds w h.address (span_size h) && has_right (kind_in h) w) (used u.windows) ≡ true)

-- No RMAP command has status 0 unless that is so.
abbrev pub ObeyedInWindow : Terminal → Type 0
ObeyedInWindow t =
    (u : TheUnit) (p : Arrived) (lent : Lent) (h : Header) → IsCommand u p h → h.protocol ≡ 0x01
    → fate_status (t.packet u p lent).answer.fate ≡ Some 0 → WindowWithRight u h
