-- `packets::path::Path::none` meets its contract: the path of no reply address.
use mathlib.Core.Path.{refl}
use Rattle.packets.specs.Path.{path_of}
use Rattle.packets.proofs.path.Path.none.Goals as goal

pub returns : goal.returns
unfolding path_of
returns c = refl
