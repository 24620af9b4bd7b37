-- `unit::owner::Owner::swap` meets its contract: the cases of the definition in their order.
use Rattle.unit.specs.Owner.{swapped}
use Rattle.std.proofs.Common.{eq-eqb, ne_eqb}
use Rattle.unit.proofs.owner.Owner.swap.Goals as goal

pub returns-then-self-expected : goal.returns-then-self-expected
unfolding swapped
returns-then-self-expected c = rw (ne_eqb _ _ c.if-self-expected.true)

pub returns-then-self-eq0 : goal.returns-then-self-eq0
unfolding swapped
returns-then-self-eq0 c = rw (eq-eqb _ _ c.if-self-expected.false, eq-eqb _ _ c.if-self-eq0.true) c.claim.ensures

pub returns-then-new-eq0 : goal.returns-then-new-eq0
unfolding swapped
returns-then-new-eq0 c =
    rw (eq-eqb _ _ c.if-self-expected.false, ne_eqb _ _ c.if-self-eq0.false, eq-eqb _ _ c.if-new-eq0.true) c.default.ensures

pub returns : goal.returns
unfolding swapped
returns c =
    rw (eq-eqb _ _ c.if-self-expected.false, ne_eqb _ _ c.if-self-eq0.false, ne_eqb _ _ c.if-new-eq0.false)
