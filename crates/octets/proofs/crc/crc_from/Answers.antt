-- `octets::crc::crc_from` meets its contract: each way is the CRC that goes on; over a row in two parts, one after the other, that is the one over the whole, and
-- the sum of blocks has their CRC.
use mathlib.Core.Path.{◌∙◌}
use lib.ListN.{length}
use Prim.Native.Nat.{◌+◌, ◌-◌, ◌%◌}
use Rattle.octets.proofs.CrcLaws.{crc_from_parts}
use Rattle.octets.proofs.crc.crc_from.Goals as goal

pub returns : goal.returns
returns c =
    let a = c.args in
    let cut = c.split_at.ensures in
    c.by_words-3.ensures
    ∙ c.sum_of_blocks-sum.ensures
    ∙ rw (c.by_words-2.ensures, cut.front, cut.back) (crc_from_parts a.running a.bytes.now ((length a.bytes.now - 8) % 127 + 8))
