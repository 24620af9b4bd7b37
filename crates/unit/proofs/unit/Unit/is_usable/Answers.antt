-- `unit::unit::Unit::is_usable` meets its contract: the same causes.
use Rattle.unit.specs.Usable.{usable}
use Rattle.unit.proofs.RangeLaws.{contains_is}
use Rattle.unit.proofs.unit.Unit.is_usable.Goals as goal

pub returns : goal.returns
unfolding usable
returns c =
    let m = contains_is 1 65536 _ c.new.ensures.start c.new.ensures.end c.new.ensures.exhausted c.contains.ensures.value in
    rw (m, c.any_ends_past.ensures, c.is_usable_alone.ensures)
