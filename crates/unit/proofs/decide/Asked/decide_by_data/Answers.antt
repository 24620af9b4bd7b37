-- `unit::decide::Asked::decide_by_data` meets its contract: the status by the data, then the plan for an action of either kind.
use Rattle.unit.proofs.DecideLaws.{data_memory, data_field}
use Rattle.unit.proofs.decide.Asked.decide_by_data.Goals as goal

pub returns-then-h-eq1 : goal.returns-then-h-eq1
returns-then-h-eq1 c =
    let a = c.args in
    data_memory a.self.command.header a.self.command.path (record { bytes = a.bytes.now; came = a.came; data_crc = a.crc }) a.end a.room c.header_size-from.ensures c.wanted_count.ensures c.data_status-status.ensures
    c.if-h-eq1.true c.memory_action-action.ensures c.planned.ensures

pub returns : goal.returns
returns c =
    let a = c.args in
    data_field a.self.command.header a.self.command.path (record { bytes = a.bytes.now; came = a.came; data_crc = a.crc }) a.end a.room c.header_size-from.ensures c.wanted_count.ensures c.data_status-status.ensures
    c.if-h-eq1.false c.field_action-action.ensures c.planned-2.ensures
