-- `packets::reply::Reply::length` meets its contract: a path has at most twelve bytes, so no sum here wraps.
use mathlib.Core.Path.{sym, ◌∙◌}
use native.Mathlib.Omega.{arith}
use Rattle.packets.specs.Reply.{reply_length}
use Rattle.packets.proofs.reply.Reply.length.Goals as goal

pub returns-then-is_to_write : goal.returns-then-is_to_write
unfolding reply_length
returns-then-is_to_write c =
    let e = sym c.is_to_write.ensures ∙ c.if-is_to_write.true in
    rw (c.size-size.ensures.answers, e)

pub returns : goal.returns
unfolding reply_length
returns c =
    let e = sym c.is_to_write.ensures ∙ c.if-is_to_write.false in
    rw (c.size-size.ensures.answers, c.carried_count.ensures, e) (omega arith)
