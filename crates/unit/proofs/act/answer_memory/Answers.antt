-- `unit::act::answer_memory` meets its contract: the bytes have room in their place, and the reply is written around them.
use Rattle.std.proofs.Common.{◌+◌, ◌≤◌, length, arith}
use Rattle.octets.specs.Places.{part}
use Rattle.octets.proofs.PlaceLaws.{length_part, length_middle, put_placed}
use Rattle.packets.proofs.ReplyLaws.{carried_room, gathered_reply}
use Rattle.unit.proofs.act.answer_memory.Goals as goal

pub slice_bounds-gather-end : goal.slice_bounds-gather-end
slice_bounds-gather-end c =
    let a = c.args in
    let w = c.requires.1 in
    omega (arith, carried_room a.to.command.path a.to.command.header a.to.status a.count a.out.now w.0 w.1, c.data_place-place.ensures)

pub gather-requires : goal.gather-requires
gather-requires c =
    let a = c.args in
    let w = c.requires.1 in
    let room = carried_room a.to.command.path a.to.command.header a.to.status a.count a.out.now w.0 w.1 in
    rw (length_middle c.data_place-place.result a.count a.out.now (omega (arith, room, c.data_place-place.ensures))) c.requires.0

pub returns : goal.returns
returns c =
    let a = c.args in
    let w = c.requires.1 in
    let room = carried_room a.to.command.path a.to.command.header a.to.status a.count a.out.now w.0 w.1 in
    let place = c.data_place-place.result in
    let there : place + a.count ≤ length a.out.now = omega (arith, room, c.data_place-place.ensures) in
    let bytes = part a.at a.count a.memory.now in
    let l = length_part a.at a.count a.memory.now c.requires.0 in
    let gathered = rw (length_middle place a.count a.out.now there) at c.gather.ensures in
    gathered_reply a.to.command.path a.to.command.header a.to.status a.count a.out.now w.0 w.1 bytes l
    (rw (gathered, ← c.data_place-place.ensures) (put_placed place a.count bytes a.out.now l))
    c.write.ensures
