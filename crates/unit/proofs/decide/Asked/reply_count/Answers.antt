-- `unit::decide::Asked::reply_count` meets its contract: the same test.
use Rattle.packets.specs.Instruction.{is_rmw}
use Rattle.unit.specs.Plan.{reply_count}
use Rattle.std.proofs.Common.{sym, ap, ◌∙◌}
use Rattle.unit.proofs.decide.Asked.reply_count.Goals as goal

pub returns-then-is_rmw : goal.returns-then-is_rmw
unfolding reply_count
returns-then-is_rmw c =
    rw (ap is_rmw (sym c.args.self.kind_is) ∙ sym c.is_rmw.ensures ∙ c.if-is_rmw.true)

pub returns : goal.returns
unfolding reply_count
returns c =
    rw (ap is_rmw (sym c.args.self.kind_is) ∙ sym c.is_rmw.ensures ∙ c.if-is_rmw.false)
