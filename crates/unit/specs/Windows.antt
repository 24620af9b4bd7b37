-- Windows (document 01, 'Span').
use Rattle.std.specs.Prelude.{ℕ, ◌+◌, Bool, false, ◌&&◌, List, take, nat_le, nat_lt}
use Rattle.packets.specs.declared.instruction.Kind.{Kind}
use Rattle.packets.specs.declared.instruction.Kind.TheVariants.{Unused, Read, ReadModifyWrite, Write}
use Rattle.unit.specs.declared.windows.Window.{Window}
use Rattle.unit.specs.declared.windows.Windows.{Windows}

-- A window holds a span if it starts at or below A and ends at or above A plus size, as whole numbers.
abbrev pub holds : Window → ℕ → ℕ → Bool
holds w at size = nat_le w.start at && nat_le (at + size) w.end

-- The right: read; write; both for RMW.
abbrev pub has_right : Kind → Window → Bool
has_right Unused w = false
has_right Read w = w.read
has_right ReadModifyWrite w = w.read && w.write
has_right Write w = w.write

-- Whether a window ends past a memory of that length.
abbrev pub ends_past : ℕ → Window → Bool
ends_past memory w = nat_lt memory w.end

-- Whether it holds a span, with the right.
abbrev pub allows : Kind → ℕ → ℕ → Window → Bool
allows kind at size w = holds w at size && has_right kind w

-- The windows in use.
abbrev pub used : Windows → List Window
used w = take w.count w.table
