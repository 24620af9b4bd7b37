-- `unit::decide::data_status` meets its contract: the checks in their order.
use Rattle.unit.specs.Decide.{data_status}
use Rattle.std.proofs.Common.{sym, ◌∙◌, le-ltb, lt-ltb, eq-eqb, ne_eqb}
use Rattle.unit.proofs.decide.data_status.Goals as goal

pub returns-then-not-eop : goal.returns-then-not-eop
unfolding data_status
returns-then-not-eop c =
    rw (sym c.is_eop-eop.ensures ∙ c.if-not-eop.true)

pub returns-then-k-wanted : goal.returns-then-k-wanted
unfolding data_status
returns-then-k-wanted c =
    rw (sym c.is_eop-eop.ensures ∙ c.if-not-eop.false, lt-ltb _ _ c.if-k-wanted.true)

pub returns-then-wanted-k : goal.returns-then-wanted-k
unfolding data_status
returns-then-wanted-k c =
    rw (
      sym c.is_eop-eop.ensures ∙ c.if-not-eop.false,
      le-ltb _ _ c.if-k-wanted.false,
      lt-ltb _ _ c.if-wanted-k.true,
    )

pub returns-then-crc-ne0 : goal.returns-then-crc-ne0
unfolding data_status
returns-then-crc-ne0 c =
    rw (
      sym c.is_eop-eop.ensures ∙ c.if-not-eop.false,
      le-ltb _ _ c.if-k-wanted.false,
      le-ltb _ _ c.if-wanted-k.false,
      ne_eqb _ _ c.if-crc-ne0.true,
    )

pub returns : goal.returns
unfolding data_status
returns c =
    rw (
      sym c.is_eop-eop.ensures ∙ c.if-not-eop.false,
      le-ltb _ _ c.if-k-wanted.false,
      le-ltb _ _ c.if-wanted-k.false,
      eq-eqb _ _ c.if-crc-ne0.false,
    )
