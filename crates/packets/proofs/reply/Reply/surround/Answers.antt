-- `packets::reply::Reply::surround` meets its contract: path and header in front of the data, and their CRC behind.
use mathlib.Core.Path.{sym, ◌∙◌}
use mathlib.Core.List.{◌++◌}
use Prim.Native.Nat.{◌+◌}
use native.Mathlib.Omega.{arith}
use lib.ListN.{length}
use Rattle.octets.specs.Places.{part}
use Rattle.octets.proofs.PlaceLaws.{length_part}
use Rattle.packets.specs.Path.{path_bytes}
use Rattle.packets.specs.Reply.{reply_head}
use Rattle.packets.proofs.ReplyLaws.{length_head, data_ended, reply_short, reply_long}
use Rattle.packets.proofs.reply.Reply.surround.Goals as goal

pub returns-else-not-is_to_write : goal.returns-else-not-is_to_write
returns-else-not-is_to_write c =
    let a = c.args in
    let e = sym c.is_to_write.ensures ∙ c.if-not-is_to_write.false in
    let d = part (length (path_bytes a.self.command.path) + 12) a.count a.out.now in
    rw (reply_short a.self.command.path a.self.command.header a.self.status d a.count e) c.write_head-at.ensures.leaves

pub returns-then-not-is_to_write : goal.returns-then-not-is_to_write
returns-then-not-is_to_write c =
    let a = c.args in
    let e = sym c.is_to_write.ensures ∙ c.if-not-is_to_write.true in
    let room = rw e at c.requires in
    let place = rw e at c.write_head-at.ensures.answers in
    let n = a.count in
    let out = a.out.now in
    let x = path_bytes a.self.command.path ++ reply_head a.self.command.header a.self.status n in
    let d = part (length (path_bytes a.self.command.path) + 12) n out in
    let l = length_part (length (path_bytes a.self.command.path) + 12) n out (omega arith) in
    rw (reply_long a.self.command.path a.self.command.header a.self.status d n e l, ← place)
    (data_ended x out c.write_head-at.result n (place ∙ sym (length_head a.self.command.path a.self.command.header a.self.status n e)) (omega arith)
    c.write_head-at.ensures.leaves c.end_data.ensures)
