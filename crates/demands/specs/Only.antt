-- Demand 1 leaves no room: whatever terminal gives each number where its row has it, and leaves what that row says, is ours. On packets of bytes, of which the rows
-- speak, it answers the same, and leaves the same unit, memory and reply buffer; and so do its small calls, whatever they are given.
use Rattle.std.specs.Prelude.{◌≡◌, ℕ}
use Rattle.octets.specs.Numbers.{Digits}
use Rattle.unit.specs.Given.{Arrived, Lent}
use Rattle.unit.specs.Calls.{take_packet, take_time_code, take_ticks}
use Rattle.unit.specs.declared.unit.Unit.{Unit as TheUnit}
use Rattle.demands.specs.Terminal.{Terminal}
use Rattle.demands.specs.Refusals.{RowByRow, OneTwoThree, SmallRows}

abbrev pub OnlyOurs : Type 0
OnlyOurs =
    (t : Terminal) → RowByRow t → OneTwoThree t → SmallRows t
    → ((u : TheUnit) (p : Arrived) (lent : Lent) → Digits 256 p.packet → t.packet u p lent ≡ take_packet u p lent)
    × ((u : TheUnit) (byte : ℕ) → t.time_code u byte ≡ take_time_code u byte)
    × ((u : TheUnit) (count : ℕ) → t.ticks u count ≡ take_ticks u count)
