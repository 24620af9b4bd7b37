-- `octets::table::by_table` meets its contract: at each test the CRC that goes on from c over the bytes still to come is
-- that of the whole; the table has the CRC of each byte.
use native.Mathlib.Omega.{arith}
use mathlib.Core.Path.{◌≡◌, refl, sym, ◌∙◌}
use mathlib.Core.List.{List, [], ◌∷◌}
use Prim.Native.Nat.{ℕ, ◌+◌, ◌<◌}
use borrow.Author.Rules.{rules}
use lib.Bits.{bit_xor, xor_lt}
use lib.ListN.{length, get_or}
use Rattle.octets.specs.Crc.{crc, message, remainder, mirrored, modulo, bits}
use Rattle.octets.proofs.CrcLaws.{crc_byte, crc_from_next, crc_from_end}
use Rattle.octets.proofs.Tabulate.{at}
use Rattle.octets.proofs.table.by_table.Invariants.{GoesOn}
use Rattle.octets.proofs.table.by_table.Goals as goal

-- a byte more, where what was looked up is the CRC of the one byte c xor it
next : (whole c entry : ℕ) (bytes : List ℕ) (i : ℕ) → i < length bytes
    → entry ≡ crc (bit_xor c (get_or bytes i 0) ∷ [])
    → GoesOn whole bytes c i → GoesOn whole bytes entry (i + 1)
next whole c entry bytes i h e goes =
    rw e (omega arith, crc_byte (bit_xor c (get_or bytes i 0) ∷ []), crc_from_next c bytes i h ∙ goes.2)

pub loop-byte-init : goal.loop-byte-init
loop-byte-init c = (search rules, search rules, refl)

pub bounds-table-c : goal.bounds-table-c
bounds-table-c c =
    let test = c.loop-byte in
    omega (arith, xor_lt 8 test.c (get_or c.args.bytes.now test.byte-index 0) test.invariant.1 (omega arith))

pub returns : goal.returns
returns c =
    sym (crc_from_end c.loop-byte.c c.args.bytes.now c.loop-byte.byte-index (search rules)) ∙ c.loop-byte.invariant.2

-- the table is compared as a whole: `at` speaks of that of the CRC of each byte, and what is asked of `next` is about that of the code
pub loop-byte-preserved : goal.loop-byte-preserved
unfolding crc message remainder mirrored modulo bits
loop-byte-preserved c =
    let test = c.loop-byte in
    let byte = c.type_inv.bytes test.byte-index in
    let fits : bit_xor test.c (get_or c.args.bytes.now test.byte-index 0) < 256 = xor_lt 8 test.c _ test.invariant.1 (omega (arith, byte)) in
    let entry = at 0 (λ k. crc (k ∷ [])) 256 _ fits in
    next _ test.c _ c.args.bytes.now test.byte-index (search rules) entry test.invariant
