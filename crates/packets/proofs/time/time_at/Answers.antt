-- `packets::time::time_at` meets its contract: T is read byte by byte from its place.
use Prim.Native.Nat.{◌+◌}
use native.Mathlib.Omega.{arith}
use native.Mathlib.Nat.{div-one}
use lib.ListN.{get_or}
use Rattle.octets.proofs.PlaceLaws.{part_bytes}
use Rattle.packets.specs.Time.{added_seconds}
use Rattle.packets.proofs.time.time_at.Goals as goal

pub returns : goal.returns
returns c =
    let p = c.args.p.now in
    rw (c.from_octets.ensures, c.when_of.ensures, c.added_seconds-at.ensures, div-one (get_or p 3 0), part_bytes (4 + added_seconds p) 6 p (omega arith))
