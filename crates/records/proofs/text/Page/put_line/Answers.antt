-- `records::text::Page::put_line` meets its contract: four pieces of text, one behind the other.
use Rattle.unit.specs.Fate.{fate_number, fate_status}
use Rattle.records.specs.Text.{decimal, spaced, ended, status_text, reply_text, record_line}
use Rattle.records.proofs.TextLaws.{put_room, put_then, line_rooms}
use Rattle.records.proofs.text.Page.put_line.Goals as goal

pub put_number-requires : goal.put_number-requires
unfolding record_line
put_number-requires c = (line_rooms c.args.self.now c.args.n c.args.fate c.args.reply.now c.requires).0

pub put_number-requires-2 : goal.put_number-requires-2
unfolding record_line
put_number-requires-2 c =
    let room = line_rooms c.args.self.now c.args.n c.args.fate c.args.reply.now c.requires in
    rw c.number.ensures (put_room c.put_number.ensures (spaced (decimal (fate_number c.args.fate))) room.1)

pub put_status-requires : goal.put_status-requires
unfolding record_line
put_status-requires c =
    let room = line_rooms c.args.self.now c.args.n c.args.fate c.args.reply.now c.requires in
    let two = rw c.number.ensures at c.put_number-2.ensures in
    rw c.status.ensures (put_room (put_then c.put_number.ensures room.1 two) (spaced (status_text (fate_status c.args.fate))) room.2)

pub put_reply-requires : goal.put_reply-requires
unfolding record_line
put_reply-requires c =
    let room = line_rooms c.args.self.now c.args.n c.args.fate c.args.reply.now c.requires in
    let two = rw c.number.ensures at c.put_number-2.ensures in
    let three = rw c.status.ensures at c.put_status.ensures in
    put_room (put_then (put_then c.put_number.ensures room.1 two) room.2 three) (ended (reply_text c.args.reply.now)) c.requires

pub returns : goal.returns
unfolding record_line
returns c =
    let room = line_rooms c.args.self.now c.args.n c.args.fate c.args.reply.now c.requires in
    let two = rw c.number.ensures at c.put_number-2.ensures in
    let three = rw c.status.ensures at c.put_status.ensures in
    put_then (put_then (put_then c.put_number.ensures room.1 two) room.2 three) c.requires c.put_reply.ensures
