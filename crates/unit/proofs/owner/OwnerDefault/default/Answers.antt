-- `unit::owner::Owner::default` meets its contract: it is what nobody owns, by what no path is kept as.
use Rattle.std.proofs.Common.{rules}
use Rattle.unit.proofs.owner.OwnerDefault.default.Goals as goal

pub returns : goal.returns
returns c = search rules
