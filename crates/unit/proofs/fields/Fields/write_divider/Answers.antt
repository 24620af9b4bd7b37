-- `unit::fields::Fields::write_divider` meets its contract: the same tests.
use Rattle.unit.specs.Fields.{divider_written}
use Rattle.std.proofs.Common.{le-ltb, lt-ltb}
use Rattle.unit.proofs.fields.Fields.write_divider.Goals as goal

pub returns-then-low-self : goal.returns-then-low-self
unfolding divider_written
returns-then-low-self c = rw (lt-ltb _ _ c.if-low-self.true)

pub returns-then-self-low : goal.returns-then-self-low
unfolding divider_written
returns-then-self-low c = rw (le-ltb _ _ c.if-low-self.false, lt-ltb _ _ c.if-self-low.true)

pub returns : goal.returns
unfolding divider_written
returns c = rw (le-ltb _ _ c.if-low-self.false, le-ltb _ _ c.if-self-low.false)
