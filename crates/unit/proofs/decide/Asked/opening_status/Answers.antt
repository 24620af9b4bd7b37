-- `unit::decide::Asked::opening_status` meets its contract: the checks in their order.
use Rattle.packets.specs.Instruction.{is_unused}
use Rattle.unit.specs.Decide.{opening_status}
use Rattle.std.proofs.Common.{sym, ap, ◌∙◌, eq-eqb, ne_eqb}
use Rattle.unit.proofs.decide.Asked.opening_status.Goals as goal

pub returns-then-packet_type-ne1 : goal.returns-then-packet_type-ne1
unfolding opening_status
returns-then-packet_type-ne1 c = rw (ne_eqb _ _ (λ e. c.if-packet_type-ne1.true (c.packet_type.ensures ∙ e)))

pub returns-then-is_unused : goal.returns-then-is_unused
unfolding opening_status
returns-then-is_unused c =
    rw (
      eq-eqb _ _ (sym c.packet_type.ensures ∙ c.if-packet_type-ne1.false),
      ap is_unused (sym c.args.self.kind_is) ∙ sym c.is_unused.ensures ∙ c.if-is_unused.true,
    )

pub returns-then-h-key : goal.returns-then-h-key
unfolding opening_status
returns-then-h-key c =
    rw (
      eq-eqb _ _ (sym c.packet_type.ensures ∙ c.if-packet_type-ne1.false),
      ap is_unused (sym c.args.self.kind_is) ∙ sym c.is_unused.ensures ∙ c.if-is_unused.false,
      ne_eqb _ _ c.if-h-key.true,
    )

pub returns-then-h-logical : goal.returns-then-h-logical
unfolding opening_status
returns-then-h-logical c =
    rw (
      eq-eqb _ _ (sym c.packet_type.ensures ∙ c.if-packet_type-ne1.false),
      ap is_unused (sym c.args.self.kind_is) ∙ sym c.is_unused.ensures ∙ c.if-is_unused.false,
      eq-eqb _ _ c.if-h-key.false,
      c.if-h-logical.true,
    )

pub returns : goal.returns
unfolding opening_status
returns c =
    rw (
      eq-eqb _ _ (sym c.packet_type.ensures ∙ c.if-packet_type-ne1.false),
      ap is_unused (sym c.args.self.kind_is) ∙ sym c.is_unused.ensures ∙ c.if-is_unused.false,
      eq-eqb _ _ c.if-h-key.false,
      c.if-h-logical.false,
    )
