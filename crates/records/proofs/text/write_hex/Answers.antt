-- `records::text::write_hex` meets its contract: after i turns the first i bytes are there, two digits each.
use Rattle.std.proofs.Common.{arith}
use Rattle.records.proofs.TextLaws.{hex_step}
use Rattle.records.proofs.text.write_hex.Goals as goal

pub loop-i-preserved : goal.loop-i-preserved
loop-i-preserved c =
    let a = c.args in
    rw (c.loop-i.invariant, c.glyph-in-loop-i.ensures, c.glyph.ensures) (hex_step a.bytes.now a.out.now a.at c.loop-i.i (omega arith) c.requires)
