-- `records::text::Page::put_hex` meets its contract: two digits for each byte.
use Rattle.std.proofs.Common.{refl, arith}
use Rattle.records.proofs.TextLaws.{length_hexes}
use Rattle.records.proofs.text.Page.put_hex.Goals as goal

pub write_hex-requires : goal.write_hex-requires
write_hex-requires c = omega (arith, length_hexes c.args.bytes.now, c.requires)

pub overflow_add-self : goal.overflow_add-self
overflow_add-self c = record { fits = omega (arith, length_hexes c.args.bytes.now, c.requires) }

pub returns : goal.returns
returns c =
    record { same_reference = refl; bytes = c.write_hex.ensures; next = omega (arith, length_hexes c.args.bytes.now) }
