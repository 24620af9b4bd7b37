-- `unit::counters::counted` meets its contract: a fate below 11 counts nothing; no fate has a number above 20, so the place of another is there.
use Rattle.unit.proofs.FateLaws.{fate_most}
use Rattle.unit.specs.Counters.{counted_for}
use Rattle.std.proofs.Common.{arith, le-ltb, lt-ltb, lt_of_not-le}
use Rattle.unit.proofs.counters.counted.Goals as goal

pub returns-in-None : goal.returns-in-None
unfolding counted_for
returns-in-None c = rw (← c.number.ensures, lt-ltb _ _ (lt_of_not-le c.in-None.ensures))

pub bumped-requires : goal.bumped-requires
bumped-requires c = omega (arith, fate_most c.args.fate, c.number.ensures, c.in-Some.ensures.0, c.in-Some.ensures.1)

pub returns-in-Some : goal.returns-in-Some
unfolding counted_for
returns-in-Some c =
    let some = c.in-Some.ensures in
    rw (← c.number.ensures, le-ltb _ _ some.0, ← some.1, ← c.bumped.ensures) c.bumped-in-Some.ensures
