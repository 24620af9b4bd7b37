-- `records::text::Page::put_decimal` meets its contract: the last digit stands behind those of a tenth.
use Rattle.std.proofs.Common.{◌/◌, ◌%◌, [], ◌∷◌, arith}
use Rattle.records.specs.Text.{glyph, decimal}
use Rattle.records.proofs.TextLaws.{start_room, put_room, put_then, decimal_one, decimal_more}
use Rattle.records.proofs.text.Page.+put_decimal.Goals as goal

pub put-requires : goal.put-requires
put-requires t c = rw (decimal_one c.args.n c.if-n-lt10.true) at c.requires

pub returns-then-n-lt10 : goal.returns-then-n-lt10
returns-then-n-lt10 t c =
    rw (decimal_one c.args.n c.if-n-lt10.true) (rw c.glyph.ensures at c.put.ensures)

pub put_decimal-requires : goal.put_decimal-requires
put_decimal-requires t c =
    let n = c.args.n in
    let room = rw (decimal_more n c.if-n-lt10.false (omega arith)) at c.requires in
    (omega arith, start_room c.args.self.now (decimal (n / 10)) (glyph (n % 10) ∷ []) room)

pub put-requires-2 : goal.put-requires-2
put-requires-2 t c =
    let n = c.args.n in
    let room = rw (decimal_more n c.if-n-lt10.false (omega arith)) at c.requires in
    put_room c.put_decimal.ensures (glyph (n % 10) ∷ []) room

pub returns : goal.returns
returns t c =
    let n = c.args.n in
    let more = decimal_more n c.if-n-lt10.false (omega arith) in
    let room = rw more at c.requires in
    rw more (put_then c.put_decimal.ensures room (rw c.glyph-2.ensures at c.put-2.ensures))
