-- `packets::reply::Reply::write` meets its contract: the carried data are put into their place, and the rest goes around them.
use Rattle.std.proofs.Common.{sym, ◌∙◌, arith}
use Rattle.packets.proofs.ReplyLaws.{reply_answer, reply_room, reply_refused, data_room, reply_around, reply_alone}
use Rattle.packets.proofs.reply.Reply.write.Goals.{then-carries_data, else-carries_data}
use Rattle.packets.proofs.reply.Reply.write.Goals as goal

pub returns-then-not-fits : goal.returns-then-not-fits
returns-then-not-fits c =
    let a = c.args in
    let k = a.self.command in
    let counts = rw c.size.ensures at c.carried_count-n.ensures in
    let both = reply_refused k.path k.header a.self.status a.bytes c.carried_count-n.result counts a.out.now c.fits.ensures c.if-not-fits.true in
    record {
      answers = both.0;
      leaves = both.1;
    }

pub put_data-requires : goal.put_data-requires
put_data-requires c =
    let a = c.args in
    let k = a.self.command in
    let counts = rw c.size.ensures at c.carried_count-n.ensures in
    data_room k.path k.header a.self.status a.bytes c.carried_count-n.result counts a.out.now c.fits.ensures c.if-not-fits.false
    (sym c.carries_data.ensures ∙ c.if-carries_data.true)

pub surround-requires : goal.surround-requires
surround-requires c =
    let a = c.args in
    let k = a.self.command in
    let counts = rw c.size.ensures at c.carried_count-n.ensures in
    let room = reply_room k.path k.header a.self.status a.bytes c.carried_count-n.result counts a.out.now c.fits.ensures c.if-not-fits.false in
    omega (arith, room)

pub returns : goal.returns
returns c =
    let a = c.args in
    let k = a.self.command in
    let counts = rw c.size.ensures at c.carried_count-n.ensures in
    record {
      answers = sym c.if-not-fits.false ∙ reply_answer k.path k.header a.self.status a.bytes c.carried_count-n.result counts a.out.now c.fits.ensures;
      leaves =
          elim c.if-carries_data.branch [
            | then-carries_data w ↦
                reply_around k.path k.header a.self.status a.bytes c.carried_count-n.result counts a.out.now c.fits.ensures c.if-not-fits.false
                (sym c.carries_data.ensures ∙ w.if-carries_data.true) (w.out-is ∙ w.put_data.ensures) c.surround.ensures
            | else-carries_data w ↦
                reply_alone k.path k.header a.self.status a.bytes c.carried_count-n.result counts a.out.now c.fits.ensures c.if-not-fits.false
                (sym c.carries_data.ensures ∙ w.if-carries_data.false) (rw w.out-is at c.surround.ensures)
          ];
    }
