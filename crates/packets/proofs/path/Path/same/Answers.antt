-- `packets::path::Path::same` meets its contract: `==` compares the bytes, then the count.
use mathlib.Core.Path.{◌∙◌}
use Rattle.packets.proofs.PathLaws.{equal_paths}
use Rattle.packets.proofs.path.Path.same.Goals as goal

pub returns : goal.returns
returns c = c.eq.ensures ∙ equal_paths c.args.self c.args.other
