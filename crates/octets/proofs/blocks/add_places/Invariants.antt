-- `octets::blocks::add_places` meets its contract: at each test, the places from j on added to what is there are those from the first on, added to what was there.
use mathlib.Core.Path.{◌≡◌}
use Rattle.octets.specs.Words.{added_from}
use Rattle.octets.proofs.blocks.add_places.Given as goal

abbrev pub invariant-loop-j : goal.invariant-loop-j
invariant-loop-j l = added_from l.j l.sum l.block ≡ added_from l.from l.initial.sum l.block
