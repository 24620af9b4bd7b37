-- `octets::words::by_words` meets its contract: at each test the CRC that goes on from that of the two words, over the bytes still to come, is that
-- of the whole.
use mathlib.Core.Path.{◌≡◌}
use Prim.Native.Nat.{◌+◌, ◌*◌}
use lib.ListN.{drop}
use Rattle.octets.specs.Crc.{crc_from}
use Rattle.octets.specs.Words.{crc_of_two}
use Rattle.octets.proofs.words.by_words.Given as goal

abbrev pub invariant-loop-eight : goal.invariant-loop-eight
invariant-loop-eight l = crc_from (crc_of_two l.upper l.lower) (drop (l.first + l.eight-index * 8) l.bytes) ≡ crc_from l.running l.bytes
