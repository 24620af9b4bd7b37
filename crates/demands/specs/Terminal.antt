-- What the demands speak of: a terminal's three calls, and histories of them (document 01, 'The terminal and its neighbours').
use Rattle.std.specs.Prelude.{Result, Ok}
use Rattle.std.specs.Prelude.{◌≡◌, List, [], ◌∷◌, ℕ}
use Rattle.packets.specs.Reading.{read_packet, path_read}
use Rattle.packets.specs.declared.header.Header.{Header}
use Rattle.packets.specs.declared.path.Path.{Path}
use Rattle.packets.specs.declared.reading.Packet.{Packet}
use Rattle.packets.specs.declared.reading.Refusal.{Refusal}
use Rattle.packets.specs.declared.reading.Packet.TheVariants.{Command}
use Rattle.unit.specs.Given.{Arrived, as_read, Lent}
use Rattle.unit.specs.Calls.{Outcome, take_packet, take_time_code, take_ticks}
use Rattle.unit.specs.declared.fate.Fate.{Fate}
use Rattle.unit.specs.declared.calls.Answer.{Answer}
use Rattle.unit.specs.declared.unit.Unit.{Unit as TheUnit}

-- A terminal, as far as its promises go: what each of its three calls answers and leaves, for what arrived and with what is lent.
pub record Terminal : Type 0 where
  pub packet : TheUnit → Arrived → Lent → Outcome
  pub time_code : TheUnit → ℕ → Answer
  pub ticks : TheUnit → ℕ → Answer

-- Ours: what `take_packet`, `take_time_code` and `take_ticks` of the crate `unit` promise (that they do is `PacketPromise` and its neighbours, in
-- Meaning). The demands are stated of any terminal, so that an impostor can be held against them, and proved of this one.
abbrev pub ours : Terminal
ours = record { packet = take_packet; time_code = take_time_code; ticks = take_ticks }

-- ---- a packet to a unit

-- What the packet is, read without a zero in front; its reply path; and so as the command with the header h, RMAP or plug-and-play.
abbrev pub read_of : TheUnit → Arrived → Result Packet Refusal
read_of u p = read_packet (as_read p).packet u.number

abbrev pub ReadAs : TheUnit → Arrived → Result Packet Refusal → Type 0
ReadAs u p read = read_of u p ≡ read

abbrev pub path_in : TheUnit → Arrived → Path
path_in u p = path_read (read_of u p)

abbrev pub IsCommand : TheUnit → Arrived → Header → Type 0
IsCommand u p h = ReadAs u p (Ok (Command (record { header = h; path = path_in u p })))

-- ---- histories

-- A call with all that is lent to it. Memory is lent on each call, so each packet has its own.
pub data Call : Type 0 where
  packet : Arrived → Lent → Call
  time_code : ℕ → Call
  ticks : ℕ → Call

abbrev pub answer_to : Terminal → TheUnit → Call → Answer
answer_to t u (packet p lent) = (t.packet u p lent).answer
answer_to t u (time_code byte) = t.time_code u byte
answer_to t u (ticks count) = t.ticks u count

-- The unit after a history of calls, and the fates that they had.
unfoldable pub after : Terminal → TheUnit → List Call → TheUnit
after t u [] = u
after t u (c ∷ cs) = after t (answer_to t u c).unit cs

unfoldable pub fates_of : Terminal → TheUnit → List Call → List Fate
fates_of t u [] = []
fates_of t u (c ∷ cs) = (answer_to t u c).fate ∷ fates_of t (answer_to t u c).unit cs

-- What holds of every one of a list.
abbrev pub Every : {A : Type 0} → (A → Type 0) → List A → Type 0
Every P [] = Unit
Every P (x ∷ xs) = P x × Every P xs
