-- `packets::time::read_time` meets its contract: a time packet is taken, and anything else thrown away.
use mathlib.Core.Path.{sym, ◌∙◌}
use Rattle.packets.specs.Time.{read_time}
use Rattle.packets.proofs.time.read_time.Goals as goal

pub returns-else-is_time_packet : goal.returns-else-is_time_packet
unfolding read_time
returns-else-is_time_packet c = rw (sym c.is_time_packet.ensures ∙ c.if-is_time_packet.false)

pub returns-then-is_time_packet : goal.returns-then-is_time_packet
unfolding read_time
returns-then-is_time_packet c =
    rw (sym c.is_time_packet.ensures ∙ c.if-is_time_packet.true, c.time_at.ensures)
