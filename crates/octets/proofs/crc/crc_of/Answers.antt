-- `octets::crc::crc_of` meets its contract: from 0 on, the CRC that goes on is the CRC itself.
use mathlib.Core.Path.{◌∙◌}
use Rattle.octets.proofs.CrcLaws.{crc_from_zero}
use Rattle.octets.proofs.crc.crc_of.Goals as goal

pub returns : goal.returns
returns c = c.crc_from.ensures ∙ crc_from_zero c.args.bytes.now
