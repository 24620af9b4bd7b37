-- `unit::decide::Asked::planned` meets its contract: without a reply, without room, with a reply.
use Rattle.unit.specs.Plan.{planned_for}
use Rattle.std.proofs.Common.{sym, ◌∙◌, le-ltb, lt-ltb}
use Rattle.unit.proofs.decide.Asked.planned.Goals as goal

pub returns-then-not-wants_reply : goal.returns-then-not-wants_reply
unfolding planned_for
returns-then-not-wants_reply c = rw (sym c.wants_reply.ensures ∙ c.if-not-wants_reply.true, c.unanswered.ensures)

pub returns-then-room-length : goal.returns-then-room-length
unfolding planned_for
returns-then-room-length c =
    rw (
      sym c.wants_reply.ensures ∙ c.if-not-wants_reply.false,
      ← c.status_byte.ensures,
      ← c.reply_count.ensures,
      ← c.length-length.ensures,
      lt-ltb _ _ c.if-room-length.true,
    )

pub returns : goal.returns
unfolding planned_for
returns c =
    rw (
      sym c.wants_reply.ensures ∙ c.if-not-wants_reply.false,
      ← c.status_byte.ensures,
      ← c.reply_count.ensures,
      ← c.length-length.ensures,
      le-ltb _ _ c.if-room-length.false,
    )
