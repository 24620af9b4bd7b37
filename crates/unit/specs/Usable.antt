-- When a unit is usable (document 01, 'Numbers a caller gets', 1).
use Rattle.std.specs.Prelude.{ℕ, ◌^◌, Bool, true, Option, None, Some, not, ◌&&◌, nat_le, nat_lt}
use Rattle.unit.specs.Some.{some}
use Rattle.unit.specs.Windows.{ends_past, used}
use Rattle.unit.specs.declared.clock.Elapsed.{Elapsed}
use Rattle.unit.specs.declared.unit.Unit.{Unit as TheUnit}

abbrev pub fits_time : Option Elapsed → Bool
fits_time None = true
fits_time (Some w) = nat_lt w.value (2 ^ 56)

-- Less the two memory causes: at most 16 windows; time number from F0 to FE; link count 1 to 31; ET and a waiting value below 2^56;
-- last Time-Code at most 63; owner path at most 12; owner link at most 31.
unfoldable pub usable_unit : TheUnit → Bool
usable_unit u =
    nat_le u.windows.count 16
    && nat_le 0xF0 u.number && nat_le u.number 0xFE
    && nat_le 1 u.links && nat_le u.links 31
    && nat_lt u.clock.elapsed.value (2 ^ 56)
    && fits_time u.clock.waiting
    && nat_le u.clock.last 63
    && nat_le u.owner.path.count 12
    && nat_le u.owner.link 31

-- With a memory of a length from 1 to 65,536, past which no window ends.
unfoldable pub usable : TheUnit → ℕ → Bool
usable u memory =
    nat_le 1 memory && nat_le memory 65536 && not (some (ends_past memory) (used u.windows)) && usable_unit u
