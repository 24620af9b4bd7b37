-- `packets::time::is_time_packet` meets its contract: the same tests, the length first.
use mathlib.Core.Path.{◌≡◌}
use Prim.Native.Nat.{◌+◌, ◌-◌}
use native.Mathlib.Omega.{arith}
use borrow.Author.Tests.{eq-eqb}
use lib.ListN.{length}
use Rattle.packets.specs.Time.{added_seconds, added_fraction}
use Rattle.packets.proofs.TimeLaws.{zeros_worth}
use Rattle.packets.proofs.time.is_time_packet.Goals as goal

pub returns : goal.returns
returns c =
    let p = c.args.p.now in
    let size : length p ≡ 12 + added_seconds p + added_fraction p =
    omega (arith, c.if-p-seconds.false, c.added_seconds-seconds.ensures, c.added_fraction.ensures) in
    let more : 4 + c.added_seconds-seconds.result - 4 ≡ added_seconds p = omega (arith, c.added_seconds-seconds.ensures) in
    rw (eq-eqb _ _ size, c.crc_of-sum.ensures, c.is_eop-eop.ensures, c.are_zeros-zeros.ensures, zeros_worth, more)
