-- `unit::act::store` meets its contract: action by action; what is stored is scattered, and the other actions store nothing.
use Rattle.std.proofs.Common.{◌+◌, arith}
use Rattle.std.proofs.lemmas.Grind.{common_steps}
use Rattle.octets.proofs.PlaceLaws.{length_part, length_middle}
use Rattle.unit.specs.Act.{stored}
use Rattle.unit.proofs.ActLaws.{slice_is}
use Rattle.unit.proofs.act.store.Goals as goal

pub scatter-requires : goal.scatter-requires
scatter-requires c =
    let w = rw c.in-Store.is at c.requires in
    let s = c.in-Store in
    omega (arith, w.0, length_middle s.from s.count c.args.packet.now w.1)

pub store_last-requires : goal.store_last-requires
store_last-requires c =
    let w = rw c.in-StoreLast.is at c.requires in
    let s = c.in-StoreLast in
    rw (length_middle s.from s.count c.args.packet.now w.1) w.0

pub combine-requires : goal.combine-requires
combine-requires c =
    let w = rw c.in-Combine.is at c.requires in
    let s = c.in-Combine in
    let p = c.args.packet.now in
    let l = length_middle s.from s.count p (omega arith) in
    let k = length_middle (s.from + s.count) s.count p w.1 in
    (omega (arith, w.0, l), omega (arith, l, k), omega (arith, w.2, l))

pub returns-in-Nothing : goal.returns-in-Nothing
unfolding stored
returns-in-Nothing c = grind (arith, common_steps)

pub returns-in-Store : goal.returns-in-Store
unfolding stored
returns-in-Store c =
    let s = c.in-Store in
    rw (s.is, ← slice_is c.args.packet.now s.from s.count) c.scatter.ensures

pub returns-in-StoreLast : goal.returns-in-StoreLast
unfolding stored
returns-in-StoreLast c =
    let s = c.in-StoreLast in
    rw (s.is, ← slice_is c.args.packet.now s.from s.count) c.store_last.ensures

pub returns-in-Combine : goal.returns-in-Combine
unfolding stored
returns-in-Combine c =
    let s = c.in-Combine in
    let p = c.args.packet.now in
    rw s.is
    (rw (slice_is p s.from s.count, slice_is p (s.from + s.count) s.count, length_part s.from s.count p (omega (arith, (rw s.is at c.requires).1))) at c.combine.ensures)
