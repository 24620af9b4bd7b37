-- `octets::table::by_table` meets its contract: at each test the CRC that goes on from c over the bytes still to come is
-- that of the whole; the table has the CRC of each byte.
use mathlib.Core.Path.{◌≡◌}
use mathlib.Core.List.{List}
use Prim.Native.Nat.{ℕ, ◌<◌, ◌≤◌}
use lib.ListN.{length, drop}
use Rattle.octets.specs.Crc.{crc_from}
use Rattle.octets.proofs.table.by_table.Given as goal

-- c is a byte, and the CRC that goes on from it over the bytes from i on is that of the whole
abbrev pub GoesOn : ℕ → List ℕ → ℕ → ℕ → Type 0
GoesOn whole bytes c i = (i ≤ length bytes) × (c < 256) × (crc_from c (drop i bytes) ≡ whole)

abbrev pub invariant-loop-byte : goal.invariant-loop-byte
invariant-loop-byte l = GoesOn (crc_from l.running l.bytes) l.bytes l.c l.byte-index
