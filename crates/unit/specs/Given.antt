-- What a call with a packet is given (document 01, 'The terminal and its neighbours').
use Rattle.std.specs.Prelude.{ℕ, List, length}
use Rattle.packets.specs.Reading.{bare}
use Rattle.packets.specs.declared.reading.End.{End}
use Rattle.unit.specs.declared.judging.Sizes.{Sizes}

-- What arrived: one packet without its end, the end, and the link that it came on.
pub record Arrived : Type 0 where
  pub packet : List ℕ
  pub end : End
  pub link : ℕ

-- What arrived, as it is read: without the zero that may stand in front of a plug-and-play packet (document 02, 2).
abbrev pub as_read : Arrived → Arrived
as_read p = record { packet = bare p.packet; end = p.end; link = p.link }

-- What is lent: memory, and a reply buffer.
pub record Lent : Type 0 where
  pub memory : List ℕ
  pub reply : List ℕ

-- The sizes of what is lent. A packet is judged by these, and never by what memory holds.
abbrev pub sizes_of : Lent → Sizes
sizes_of lent = record { memory = length lent.memory; reply = length lent.reply }
