-- `unit::decide::Asked::span_size` meets its contract: the same tests; the smaller of L and 1 is 0 or 1.
use Rattle.packets.specs.Instruction.{is_rmw}
use Rattle.unit.specs.Decide.{span_size}
use Rattle.std.proofs.Common.{sym, ap, ◌∙◌}
use Rattle.unit.proofs.decide.Asked.span_size.Goals as goal

pub returns-then-is_rmw : goal.returns-then-is_rmw
unfolding span_size
returns-then-is_rmw c =
    rw (ap is_rmw (sym c.args.self.kind_is) ∙ sym c.is_rmw.ensures ∙ c.if-is_rmw.true)

pub returns-then-is_incrementing : goal.returns-then-is_incrementing
unfolding span_size
returns-then-is_incrementing c =
    rw (
      ap is_rmw (sym c.args.self.kind_is) ∙ sym c.is_rmw.ensures ∙ c.if-is_rmw.false,
      sym c.is_incrementing.ensures ∙ c.if-is_incrementing.true,
    )

pub returns : goal.returns
unfolding span_size
returns c =
    rw (
      ap is_rmw (sym c.args.self.kind_is) ∙ sym c.is_rmw.ensures ∙ c.if-is_rmw.false,
      sym c.is_incrementing.ensures ∙ c.if-is_incrementing.false,
    ) c.min.ensures
