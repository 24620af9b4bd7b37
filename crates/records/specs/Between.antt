-- What private functions ask of each other and promise each other; no public promise cites these.
use Rattle.std.specs.Prelude.{◌≡◌, ℕ, ◌+◌, ◌≤◌, cond, not, List, length, take, Result, Ok, Err, ◌==◌, nat_lt, slice_index}
use Rattle.octets.specs.Places.{placed}
use Rattle.octets.specs.Numbers.{number}
use Rattle.records.specs.Record.{is_head, body_size, end_of, size_of}
use Rattle.records.specs.Log.{Held as TheHeld}
use Rattle.records.specs.Run.{left_by, used_by, text_of, longest_line}
use Rattle.records.specs.declared.record.Item.{Item}
use Rattle.records.specs.declared.record.Item.TheVariants.{Packet, TimeCode, Ticks}
use Rattle.records.specs.declared.record.NoRecord.{NoRecord}
use Rattle.records.specs.declared.record.NoRecord.TheVariants.{Wrong, Cut}
use Rattle.records.specs.declared.text.Page.{Page}
use Rattle.records.specs.declared.log.Held.{Held}
use Rattle.records.specs.declared.log.Next.{Next}
use Rattle.records.specs.declared.log.Next.TheVariants.{Heading, Line, Last}

-- A page has room for a text.
abbrev pub HasRoom : List ℕ → Page → Type 0
HasRoom text p = p.at + length text ≤ length p.out.now

-- A text was put on a page p, which is p' now: it stands behind what was there, in the same buffer.
pub record Put (text : List ℕ) (p p' : Page) : Type 0 where
  pub same_reference : p'.out.ghost_name ≡ p.out.ghost_name
  pub bytes : p'.out.now ≡ placed p.at text p.out.now
  pub next : p'.at ≡ p.at + length text

-- What is held, as `left_by` and the like speak of it.
abbrev pub held_in : Held → TheHeld
held_in h = record { bench = h.bench; memory = h.memory.now; reply = h.reply.now }

-- The same memory and reply buffer are lent.
pub record SameLent (h h' : Held) : Type 0 where
  pub memory : h'.memory.ghost_name ≡ h.memory.ghost_name
  pub reply : h'.reply.ghost_name ≡ h.reply.ghost_name

-- A page has room for the longest line.
abbrev pub HasLine : Held → Page → Type 0
HasLine h p = p.at + longest_line (length h.reply.now) ≤ length p.out.now

-- A step was done where h was held, which is h' now, and its text was put on the page.
pub record Says (next : Next) (s : List ℕ) (h h' : Held) (p p' : Page) (used : ℕ) : Type 0 where
  pub lent : SameLent h h'
  pub leaves : held_in h' ≡ left_by next s (held_in h)
  pub uses : used ≡ used_by next
  pub prints : Put (text_of next s (held_in h)) p p'

-- What a step asks: that the record is all there.
abbrev pub Fits : Next → List ℕ → Type 0
Fits Heading s = Unit
Fits (Line item) s = size_of item ≤ length s
Fits Last s = Unit

-- The record of a head, and of the bytes behind it.
abbrev pub read_behind : List ℕ → List ℕ → Result Item NoRecord
read_behind head behind =
    cond (not (is_head head)) (Err Wrong)
    (cond (nat_lt (length behind) (body_size head)) (Err Cut)
    (Ok
    (cond (slice_index head 2 == 1) (Packet (end_of (slice_index head 4)) (slice_index head 3) (body_size head))
    (cond (slice_index head 2 == 2) (TimeCode (slice_index behind 0)) (Ticks (number (take 4 behind)))))))
