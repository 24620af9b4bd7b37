-- `records::text::Page::put_reply` meets its contract: its length alone, or three pieces of text.
use Rattle.std.proofs.Common.{[], ◌∷◌, ◌++◌, length, sym, ◌∙◌}
use borrow.Author.Tests.{eqb-false}
use Rattle.records.specs.Text.{decimal, hexes, spaced}
use Rattle.records.proofs.TextLaws.{start_room, put_then, reply_shown}
use Rattle.records.proofs.text.Page.put_reply.Goals as goal

pub returns : goal.returns
returns c =
    let s = c.args.reply.now in
    let shown = reply_shown s (eqb-false (length s) 0 (sym c.is_empty.ensures ∙ c.if-is_empty.false)) in
    let room = rw shown at c.requires in
    rw shown
    (put_then
    (put_then c.put_number-2.ensures (start_room c.args.self.now (spaced (decimal (length s)) ++ hexes s) (0x0A ∷ []) room) c.put_hex.ensures)
    room c.put.ensures)
