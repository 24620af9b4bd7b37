-- Demand 1: it never strays and always comes back (document 01, 'Numbers a caller gets' and 'Span').
use Rattle.std.specs.Prelude.{◌≡◌, true, ◌&&◌, ◌||◌, ◌≢◌, List, ℕ, ◌+◌, ◌<◌, ◌≤◌, length, get_or}
use Rattle.octets.specs.Numbers.{Digits}
use Rattle.packets.specs.Instruction.{is_write, is_rmw}
use Rattle.packets.specs.Header.{kind_in}
use Rattle.packets.specs.declared.header.Header.{Header}
use Rattle.unit.specs.Some.{some}
use Rattle.unit.specs.Fate.{fate_number}
use Rattle.unit.specs.Windows.{holds, used}
use Rattle.unit.specs.Usable.{usable}
use Rattle.unit.specs.Decide.{span_size}
use Rattle.unit.specs.Given.{Arrived, Lent}
use Rattle.unit.specs.Calls.{Outcome}
use Rattle.unit.specs.declared.unit.Unit.{Unit as TheUnit}
use Rattle.demands.specs.Terminal.{Terminal, IsCommand, Call, packet, time_code, ticks, answer_to, after, Every}

-- ---- memory and reply buffer

-- One window with the write right holds the whole span of a command.
abbrev pub WindowForWriting : TheUnit → Header → Type 0
WindowForWriting u h = some (λ w. holds w h.address (span_size h) && w.write) (used u.windows) ≡ true

-- Where byte i of memory is not what it was, the packet is an RMAP write or RMW, i is in its span, and such a window holds that span.
abbrev pub OnlyInWindow : TheUnit → Arrived → Lent → Outcome → Type 0
OnlyInWindow u p lent o =
    (i : ℕ) → get_or o.memory i 0 ≢ get_or lent.memory i 0
    → (h : Header)
    × IsCommand u p h
    × (h.protocol ≡ 0x01)
    × ((is_write h.instruction || is_rmw (kind_in h)) ≡ true)
    × (h.address ≤ i)
    × (i < h.address + span_size h)
    × WindowForWriting u h

-- Any packet, any end, any link, any memory, any reply buffer: both keep their length, and memory changes only there.
abbrev pub NeverStrays : Terminal → Type 0
NeverStrays t =
    (u : TheUnit) (p : Arrived) (lent : Lent)
    → (length (t.packet u p lent).memory ≡ length lent.memory)
    × (length (t.packet u p lent).reply ≡ length lent.reply)
    × OnlyInWindow u p lent (t.packet u p lent)

-- ---- histories

-- No history of calls, whatever they are and whatever they are lent, changes what the unit was set up with: logical address, key, time number, link
-- count, windows.
abbrev pub SetUpStays : Terminal → Type 0
SetUpStays t =
    (u : TheUnit) (calls : List Call)
    → ((after t u calls).logical ≡ u.logical)
    × ((after t u calls).key ≡ u.key)
    × ((after t u calls).number ≡ u.number)
    × ((after t u calls).links ≡ u.links)
    × ((after t u calls).windows ≡ u.windows)

-- The packet of a call is bytes, as every packet of the code's type is; the small calls have none.
abbrev pub OfBytes : Call → Type 0
OfBytes (packet p lent) = Digits 256 p.packet
OfBytes (time_code byte) = Unit
OfBytes (ticks count) = Unit

-- A call lends a memory of n bytes; the small calls lend nothing.
abbrev pub Lends : ℕ → Call → Type 0
Lends n (packet p lent) = length lent.memory ≡ n
Lends n (time_code byte) = Unit
Lends n (ticks count) = Unit

-- After any history the unit is usable with n bytes of memory exactly if it was so before, whatever lengths were lent in between.
abbrev pub StaysUsable : Terminal → Type 0
StaysUsable t = (u : TheUnit) (n : ℕ) (calls : List Call) → Every OfBytes calls → usable (after t u calls) n ≡ usable u n

-- So a unit that is usable with n bytes of memory comes back: behind any history no call that lends n bytes gets 1, and no small call does. (That each
-- call returns is no matter of its answer: the checker shows it of the code, for every input.)
abbrev pub ComesBack : Terminal → Type 0
ComesBack t =
    (u : TheUnit) (n : ℕ) (before : List Call) (c : Call) → usable u n ≡ true → Every OfBytes before → Lends n c
    → fate_number (answer_to t (after t u before) c).fate ≢ 1
