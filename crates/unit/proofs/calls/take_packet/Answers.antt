-- `unit::calls::take_packet` meets its contract: as it is read, it is judged, then done; the places are there by what a judgement allows.
use Rattle.unit.specs.Calls.{take_packet}
use Rattle.unit.proofs.GrantLaws.{judged_allowed}
use Rattle.std.proofs.Common.{length, rules}
use Rattle.unit.proofs.calls.take_packet.Goals as goal

pub carry_out-requires : goal.carry_out-requires
carry_out-requires c =
    let a = c.args in
    rw c.judge_read-ruling.ensures
    (judged_allowed a.unit (record { packet = c.of-arrived.result.packet.now; end = c.of-arrived.result.end; link = c.of-arrived.result.link }) (record { memory = length a.memory.now; reply = length a.reply.now }))

pub returns : goal.returns
unfolding take_packet
returns c =
    let lent = c.carry_out.ensures.same_lent in
    rw (← c.of-arrived.ensures, ← c.judge_read-ruling.ensures) (search (rules, c.carry_out.ensures.does, lent.memory, lent.reply))
