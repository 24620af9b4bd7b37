-- `records::log::say_item` meets its contract: the call, and then its line, which fits, since no line is longer than the longest.
use Rattle.std.proofs.Common.{◌+◌, ◌%◌, ◌^◌, take, arith, length-take}
use Rattle.records.proofs.TextLaws.{line_length}
use Rattle.records.proofs.RunLaws.{answer_fits, says_item}
use Rattle.records.proofs.log.say_item.Goals as goal

pub reply_of-requires : goal.reply_of-requires
reply_of-requires c =
    let a = c.args in
    (answer_fits a.item a.log.now a.held.now c.call-answer.new.held c.call-answer.result c.call-answer.ensures.calls).0

pub put_line-requires : goal.put_line-requires
put_line-requires c =
    let a = c.args in
    let answer = c.call-answer.result in
    let reply = c.call-answer.new.held.reply.now in
    let f = answer_fits a.item a.log.now a.held.now c.call-answer.new.held answer c.call-answer.ensures.calls in
    rw c.reply_of.ensures
    (omega (
      arith,
      f.1,
      length-take answer.length reply,
      line_length ((a.held.now.bench.items + 1) % 2 ^ 64) answer.fate (take answer.length reply),
      c.requires.0,
    ))

pub returns : goal.returns
returns c =
    let a = c.args in
    says_item a.item a.log.now a.held.now c.call-answer.new.held c.call-answer.result c.call-answer.ensures.calls
    c.call-answer.ensures.same_lent c.size-size.ensures (rw c.reply_of.ensures at c.put_line.ensures)
