-- `unit::unit::Unit::is_usable_alone` meets its contract: the same tests.
use Rattle.std.proofs.Common.{◌≡◌, ◌&&◌, leb, rules}
use Rattle.std.proofs.Math.Bool.{and_assoc}
use Rattle.unit.specs.Usable.{fits_time, usable_unit}
use Rattle.unit.proofs.RangeLaws.{contains_is}
use Rattle.unit.proofs.unit.Unit.is_usable_alone.Goals as goal

pub returns : goal.returns
unfolding usable_unit
returns c =
    let u = c.args.self in
    let n = contains_is 0xF0 0xFE _ c.new.ensures.start c.new.ensures.end c.new.ensures.exhausted c.contains.ensures.value in
    let l = contains_is 1 31 _ c.new-2.ensures.start c.new-2.ensures.end c.new-2.ensures.exhausted c.contains-2.ensures.value in
    let t : c.is_none_or.result ≡ fits_time u.clock.waiting = search rules in
    rw (
      n,
      l,
      t,
      ← and_assoc (leb u.windows.count 16) (leb 0xF0 u.number) (leb u.number 0xFE),
      ← and_assoc (leb u.windows.count 16 && leb 0xF0 u.number && leb u.number 0xFE) (leb 1 u.links) (leb u.links 31),
    )
