-- `octets::words::by_words` meets its contract: at each test the CRC that goes on from that of the two words, over the bytes still to come, is that
-- of the whole.
use native.Mathlib.Omega.{arith}
use mathlib.Core.Path.{◌≡◌, sym, ap, ◌∙◌}
use mathlib.Core.List.{List, []}
use Prim.Native.Nat.{ℕ, ◌+◌, ◌-◌, ◌*◌, ◌/◌, ◌%◌, ◌<◌, ◌≤◌}
use borrow.Author.Rules.{rules}
use lib.ListN.{length, get_or}
use Rattle.octets.specs.Places.{part}
use Rattle.octets.specs.Words.{crc_of_two}
use Rattle.octets.proofs.CrcLaws.{crc_from_end}
use Rattle.octets.proofs.NumberLaws.{digits_of}
use Rattle.octets.proofs.PlaceLaws.{length_rest, chunk_part, chunk_rest}
use Rattle.octets.proofs.WordLaws.{word_first, word_next}
use Rattle.octets.proofs.words.by_words.Goals as goal

pub loop-eight-init : goal.loop-eight-init
loop-eight-init c =
    let bytes = c.args.bytes.now in
    let first = (length bytes - 1) % 8 + 1 in
    let t = digits_of 256 bytes (λ k. omega (arith, c.type_inv.bytes k)) in
    let at : first + 0 * 8 ≡ first = omega arith in
    let front : get_or c.as_chunks.result.0.now 0 [] ≡ part 0 8 bytes =
    ap (λ (rows : List (List ℕ)). get_or rows 0 []) c.as_chunks.ensures.front ∙ chunk_part 8 (length bytes / 8) bytes 0 (omega (arith, c.requires)) in
    rw (c.word.ensures, front, at) (word_first bytes t c.args.running first (search rules) (omega arith) (omega arith) (search rules))

pub loop-eight-preserved : goal.loop-eight-preserved
loop-eight-preserved c =
    let bytes = c.args.bytes.now in
    let first = (length bytes - 1) % 8 + 1 in
    let at = c.loop-eight in
    let k = at.eight-index in
    let t = digits_of 256 bytes (λ k. omega (arith, c.type_inv.bytes k)) in
    let more : k < (length bytes - first) / 8 = omega (arith, c.as_chunks-2.ensures.front_len, length_rest first bytes (search rules), c.loop-eight-test.true) in
    let eight : get_or c.as_chunks-2.result.0.now k [] ≡ part (first + k * 8) 8 bytes = chunk_rest 8 first bytes _ k c.as_chunks-2.ensures.front more in
    let on : first + (k + 1) * 8 ≡ first + k * 8 + 8 = omega arith in
    rw (c.word-in-loop-eight.ensures, eight, on) (word_next bytes t at.upper at.lower (first + k * 8) (search rules) (search rules) (omega (arith, c.requires)) ∙ at.invariant)

pub returns : goal.returns
returns c =
    let bytes = c.args.bytes.now in
    let at = c.loop-eight in
    let first = (length bytes - 1) % 8 + 1 in
    let end : length bytes ≤ first + at.eight-index * 8 = omega (arith, c.as_chunks-2.ensures.front_len, length_rest first bytes (search rules), c.loop-eight-test.false) in
    c.reduced.ensures ∙ sym (crc_from_end (crc_of_two at.upper at.lower) bytes (first + at.eight-index * 8) end) ∙ at.invariant
