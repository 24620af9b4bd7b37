-- `octets::blocks::sum_of_blocks` meets its contract: at each test the CRC of the sum, with the blocks still to come behind it, is that of the whole.
use native.Mathlib.Omega.{arith}
use mathlib.Core.Path.{◌≡◌, ap, ◌∙◌}
use mathlib.Core.List.{List, []}
use Prim.Native.Nat.{ℕ, ◌+◌, ◌*◌, ◌/◌, ◌≤◌, ◌<◌}
use borrow.Author.Rules.{rules}
use lib.ListN.{length, drop, get_or, length-drop}
use lib.Seq.{drop-drop}
use Rattle.octets.specs.Places.{part}
use Rattle.octets.proofs.BlockLaws.{block_first, block_next, block_end}
use Rattle.octets.proofs.NumberLaws.{digits_of}
use Rattle.octets.proofs.PlaceLaws.{chunk_part}
use Rattle.octets.proofs.blocks.sum_of_blocks.Goals as goal

pub loop-block-init : goal.loop-block-init
loop-block-init c =
    let bytes = c.args.bytes.now in
    block_first c.args.running bytes (search rules) c.requires (digits_of 256 bytes (λ k. omega (arith, c.type_inv.bytes k)))

pub loop-block-preserved : goal.loop-block-preserved
loop-block-preserved c =
    let bytes = c.args.bytes.now in
    let at = c.loop-block in
    let k = at.block-index in
    let more : k < length bytes / 127 = omega (arith, c.as_chunks.ensures.front_len, c.loop-block-test.true) in
    let block : get_or c.as_chunks.result.0.now k [] ≡ part (k * 127) 127 bytes =
    ap (λ (rows : List (List ℕ)). get_or rows k []) c.as_chunks.ensures.front ∙ chunk_part 127 (length bytes / 127) bytes k more in
    let on : (k + 1) * 127 ≡ k * 127 + 127 = omega arith in
    let room : 127 ≤ length (drop (k * 127) bytes) = omega (arith, length-drop (k * 127) bytes, more) in
    rw (c.add_block.ensures, block, on, ← drop-drop 127 (k * 127) bytes) (block_next _ at.sum (drop (k * 127) bytes) room at.invariant)

pub returns : goal.returns
returns c =
    let bytes = c.args.bytes.now in
    let at = c.loop-block in
    let past : length (drop (at.block-index * 127) bytes) < 127 =
    omega (arith, length-drop (at.block-index * 127) bytes, c.as_chunks.ensures.front_len, c.loop-block-test.false) in
    block_end _ at.sum (drop (at.block-index * 127) bytes) past at.invariant
