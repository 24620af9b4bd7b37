-- `octets::numbers::fits_width` meets its contract: eight bytes hold every u64, and of fewer a shift tells.
use native.Mathlib.Omega.{arith}
use Rattle.octets.proofs.NumberLaws.{shifted_out}
use Rattle.octets.proofs.numbers.fits_width.Goals as goal

pub returns-else-width-eq8 : goal.returns-else-width-eq8
returns-else-width-eq8 c = shifted_out c.args.n c.args.width (omega (arith, c.requires))
