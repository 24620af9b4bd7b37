-- `unit::decide::Asked::is_authorised` meets its contract: the extended address, then the walk over the windows.
use Rattle.unit.specs.Decide.{is_authorised}
use Rattle.std.proofs.Common.{eq-eqb, ne_eqb}
use Rattle.unit.proofs.decide.Asked.is_authorised.Goals as goal

pub returns-then-h-ne0 : goal.returns-then-h-ne0
unfolding is_authorised
returns-then-h-ne0 c = rw (ne_eqb _ _ c.if-h-ne0.true)

pub returns : goal.returns
unfolding is_authorised
returns c = rw (eq-eqb _ _ c.if-h-ne0.false) (rw (c.span_size.ensures, c.args.self.kind_is) at c.any_allows.ensures)
