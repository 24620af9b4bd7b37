-- `packets::reply::Reply::write_head` meets its contract: the path, and behind it the header that the write bit asks for.
use mathlib.Core.Path.{ap, sym, ◌∙◌}
use native.Mathlib.Omega.{arith}
use lib.ListN.{length}
use Rattle.packets.specs.Path.{path_bytes}
use Rattle.packets.proofs.ReplyLaws.{head_placed}
use Rattle.packets.proofs.reply.Reply.write_head.Goals as goal

pub returns-then-is_to_write : goal.returns-then-is_to_write
returns-then-is_to_write c =
    let a = c.args in
    let e = sym c.is_to_write.ensures ∙ c.if-is_to_write.true in
    let room = rw e at c.requires in
    let x = path_bytes a.self.command.path in
    let out = head_placed x c.short_head-head.result a.out.now c.size-size.result 8 c.size-size.ensures.answers
    (ap length c.short_head-head.ensures) (omega arith) c.write_path.ensures c.put.ensures in
    record { answers = rw (e, c.size-size.ensures.answers); leaves = rw (e, ← c.short_head-head.ensures) out }

pub returns : goal.returns
returns c =
    let a = c.args in
    let e = sym c.is_to_write.ensures ∙ c.if-is_to_write.false in
    let room = rw e at c.requires in
    let x = path_bytes a.self.command.path in
    let out = head_placed x c.long_head-head.result a.out.now c.size-size.result 12 c.size-size.ensures.answers
    (ap length c.long_head-head.ensures) (omega arith) c.write_path.ensures c.put-2.ensures in
    record { answers = rw (e, c.size-size.ensures.answers); leaves = rw (e, ← c.long_head-head.ensures) out }
