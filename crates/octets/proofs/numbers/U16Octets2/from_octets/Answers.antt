-- `octets::numbers::U16Octets2::from_octets` meets its contract: the first byte weighs 256.
use native.Mathlib.Omega.{arith}
use Rattle.std.proofs.lemmas.Grind.{common_steps}
use Rattle.octets.proofs.numbers.U16Octets2.from_octets.Goals as goal

pub returns : goal.returns
returns c = grind (arith, common_steps)
