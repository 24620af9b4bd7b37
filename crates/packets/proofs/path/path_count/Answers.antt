-- `packets::path::path_count` meets its contract: the path begins at the first byte that is not zero.
use Rattle.std.proofs.Common.{sym, ◌∙◌}
use Rattle.packets.proofs.PathLaws.{path_from, path_zeros}
use Rattle.packets.proofs.path.path_count.Goals as goal

pub returns-in-Some : goal.returns-in-Some
returns-in-Some c = path_from c.args.address.now c.in-Some.zeros (sym c.leading_zeros.ensures ∙ c.in-Some.is)

pub returns-in-None : goal.returns-in-None
returns-in-None c = c.min.ensures ∙ path_zeros c.args.address.now (sym c.leading_zeros.ensures ∙ c.in-None.is)
