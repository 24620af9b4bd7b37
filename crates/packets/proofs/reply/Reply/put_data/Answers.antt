-- `packets::reply::Reply::put_data` meets its contract: where the data stand in their place, it is their part of the buffer already.
use Rattle.std.proofs.Common.{sym}
use Rattle.packets.specs.Reply.{data_place}
use Rattle.octets.proofs.PlaceLaws.{placed_same}
use Rattle.packets.proofs.reply.Reply.put_data.Goals as goal

pub returns-in-InPlace : goal.returns-in-InPlace
returns-in-InPlace c =
    let a = c.args in
    rw c.in-InPlace.is (sym (placed_same (data_place a.self.command.path) c.in-InPlace.field-0 a.out.now (rw c.in-InPlace.is at c.requires)))
