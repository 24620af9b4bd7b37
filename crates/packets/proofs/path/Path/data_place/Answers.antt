-- `packets::path::Path::data_place` meets its contract: behind the path, of twelve bytes at most, and twelve bytes more.
use Rattle.std.proofs.Common.{arith}
use Rattle.packets.proofs.path.Path.data_place.Goals as goal

pub returns : goal.returns
returns c = omega (arith, c.size.ensures.answers)
