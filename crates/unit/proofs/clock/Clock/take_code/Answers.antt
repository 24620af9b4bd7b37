-- `unit::clock::Clock::take_code` meets its contract: the cases of the definition in its order.
use Rattle.unit.specs.Clock.{after_code}
use Rattle.std.proofs.Common.{eq-eqb, ne_eqb}
use Rattle.unit.proofs.clock.Clock.take_code.Goals as goal

pub returns-then-self-v : goal.returns-then-self-v
unfolding after_code
returns-then-self-v c = rw (c.if-self-v.true, c.wrapped.ensures)

pub returns-then-v-self : goal.returns-then-v-self
unfolding after_code
returns-then-v-self c = rw (c.if-self-v.false, eq-eqb _ _ c.if-v-self.true, c.with_fraction.ensures)

pub returns : goal.returns
unfolding after_code
returns c = rw (c.if-self-v.false, ne_eqb _ _ c.if-v-self.false)
