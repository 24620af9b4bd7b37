-- `octets::blocks::sum_of_blocks` meets its contract: at each test the CRC of the sum, with the blocks still to come behind it, is that of the whole.
use Prim.Native.Nat.{◌*◌}
use lib.ListN.{drop}
use Rattle.octets.specs.Crc.{crc_from}
use Rattle.octets.proofs.BlockLaws.{Summed}
use Rattle.octets.proofs.blocks.sum_of_blocks.Given as goal

abbrev pub invariant-loop-block : goal.invariant-loop-block
invariant-loop-block l = Summed (crc_from l.running l.bytes) l.sum (drop (l.block-index * 127) l.bytes)
