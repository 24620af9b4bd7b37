-- `unit::decide::Asked::span_status` meets its contract: the checks in their order.
use Rattle.unit.specs.Decide.{span_status}
use Rattle.std.proofs.Common.{sym, ◌∙◌}
use Rattle.unit.proofs.decide.Asked.span_status.Goals as goal

pub returns-then-is_rmw-h : goal.returns-then-is_rmw-h
unfolding span_status
returns-then-is_rmw-h c =
    rw (rw (c.is_rmw.ensures, c.args.self.kind_is) at c.if-is_rmw-h.true)

pub returns-then-not-is_authorised : goal.returns-then-not-is_authorised
unfolding span_status
returns-then-not-is_authorised c =
    rw (
      rw (c.is_rmw.ensures, c.args.self.kind_is) at c.if-is_rmw-h.false,
      sym c.is_authorised.ensures ∙ c.if-not-is_authorised.true,
    )

pub returns-then-is_write-is_verified : goal.returns-then-is_write-is_verified
unfolding span_status
returns-then-is_write-is_verified c =
    rw (
      rw (c.is_rmw.ensures, c.args.self.kind_is) at c.if-is_rmw-h.false,
      sym c.is_authorised.ensures ∙ c.if-not-is_authorised.false,
      rw (c.is_write.ensures, c.is_verified.ensures) at c.if-is_write-is_verified.true,
    )

pub returns : goal.returns
unfolding span_status
returns c =
    rw (
      rw (c.is_rmw.ensures, c.args.self.kind_is) at c.if-is_rmw-h.false,
      sym c.is_authorised.ensures ∙ c.if-not-is_authorised.false,
      rw (c.is_write.ensures, c.is_verified.ensures) at c.if-is_write-is_verified.false,
    )
