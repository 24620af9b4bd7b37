-- `unit::judging::judge_read` meets its contract: unusable, no such link, and by what the packet is read as.
use Rattle.std.proofs.Common.{sym, ◌∙◌}
use Rattle.packets.proofs.ReadingLaws.{header_whole}
use Rattle.unit.specs.Judge.{judged}
use Rattle.unit.proofs.judging.judge_read.Goals as goal

pub returns-then-not-is_usable : goal.returns-then-not-is_usable
unfolding judged
returns-then-not-is_usable c = rw (sym c.is_usable.ensures ∙ c.if-not-is_usable.true)

pub returns-then-not-arrived-unit : goal.returns-then-not-arrived-unit
unfolding judged
returns-then-not-arrived-unit c =
    let works = sym c.is_usable.ensures ∙ c.if-not-is_usable.false in
    rw (works, c.if-not-arrived-unit.true)

pub returns-in-Err : goal.returns-in-Err
unfolding judged
returns-in-Err c =
    let works = sym c.is_usable.ensures ∙ c.if-not-is_usable.false in
    rw (works, c.if-not-arrived-unit.false, ← c.read_packet.ensures, c.in-Err.is)

pub returns-in-Ok-Time : goal.returns-in-Ok-Time
unfolding judged
returns-in-Ok-Time c =
    let works = sym c.is_usable.ensures ∙ c.if-not-is_usable.false in
    rw (works, c.if-not-arrived-unit.false, ← c.read_packet.ensures, c.in-Ok-Time.is, c.in-Ok-Time.field-0-is) c.time_ruling.ensures

pub decide-plan-requires : goal.decide-plan-requires
decide-plan-requires c =
    let a = c.args in
    header_whole a.arrived.packet.now a.unit.number c.in-Ok-Command.command.header (rw c.in-Ok-Command.field-0-is at (sym c.read_packet.ensures ∙ c.in-Ok-Command.is))

pub returns-in-Ok-Command : goal.returns-in-Ok-Command
unfolding judged
returns-in-Ok-Command c =
    let works = sym c.is_usable.ensures ∙ c.if-not-is_usable.false in
    rw (works, c.if-not-arrived-unit.false, ← c.read_packet.ensures, c.in-Ok-Command.is, c.in-Ok-Command.field-0-is, c.decide-plan.ensures)
