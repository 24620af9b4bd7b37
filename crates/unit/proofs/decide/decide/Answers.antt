-- `unit::decide::decide` meets its contract: the header refuses, or the data decide.
use Rattle.unit.specs.Plan.{decided_on}
use Rattle.unit.proofs.DecideLaws.{decided_data, decided_words}
use Rattle.std.proofs.Common.{not, ap, ◌∙◌}
use Rattle.unit.proofs.decide.decide.Goals as goal

pub returns-then-is_err : goal.returns-then-is_err
unfolding decided_on
returns-then-is_err c =
    let whose = c.from-asked.ensures in
    rw (← rw whose at c.header_status-first.ensures, c.is_err.ensures.negation ∙ ap not c.if-is_err.true) (rw whose at c.planned.ensures)

pub returns : goal.returns
returns c =
    let a = c.args in
    let whose = c.from-asked.ensures in
    let accepted = c.is_err.ensures.negation ∙ ap not c.if-is_err.false in
    let size = c.header_size-from.ensures in
    decided_data a.unit a.command.header a.command.path (record { packet = a.arrived.packet.now; end = a.arrived.end; link = a.arrived.link }) (rw whose at c.header_status-first.ensures) accepted a.room c.data_crc-crc.result size (rw size c.requires) (rw whose at c.wanted_count.ensures)
    c.data_crc-crc.ensures (rw whose at c.decide_by_data.ensures)

pub decide_by_data-requires-clause-words : goal.decide_by_data-requires-clause-words
decide_by_data-requires-clause-words c =
    let a = c.args in
    let whose = c.from-asked.ensures in
    let accepted = c.is_err.ensures.negation ∙ ap not c.if-is_err.false in
    rw whose (λ e s. decided_words a.unit a.command.header a.command.path (record { packet = a.arrived.packet.now; end = a.arrived.end; link = a.arrived.link }) (rw whose at c.header_status-first.ensures) accepted c.data_crc-crc.result c.requires e s)
