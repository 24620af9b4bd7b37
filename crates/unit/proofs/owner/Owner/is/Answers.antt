-- `unit::owner::Owner::is` meets its contract: the same tests.
use Rattle.unit.proofs.owner.Owner.is.Goals as goal

pub returns : goal.returns
returns c = rw c.same.ensures
