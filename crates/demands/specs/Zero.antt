-- A zero in front of plug-and-play packets (document 02, 2; 000, 5.2.3.2c). Elsewhere a statement speaks of the packet as it is read (`as_read`); here is what that is,
-- and what becomes of the packet as it arrives.
use Rattle.std.specs.Prelude.{◌≡◌, true, ◌⊎◌, ◌≢◌, List, ◌∷◌, ℕ, ◌≤◌, length, get_or, Some}
use Rattle.unit.specs.Fate.{fate_number, fate_status}
use Rattle.unit.specs.Act.{with_counters}
use Rattle.unit.specs.Usable.{usable}
use Rattle.unit.specs.Given.{Arrived, as_read, Lent}
use Rattle.unit.specs.Judge.{is_link}
use Rattle.unit.specs.Calls.{Outcome, take_read}
use Rattle.unit.specs.declared.unit.Unit.{Unit as TheUnit}
use Rattle.demands.specs.Terminal.{Terminal}
use Rattle.demands.specs.Lists.{Sent, Rmap}

-- A packet begins 00 FE 03, and the rest stands behind that; or it does not begin so.
abbrev pub BeginsSo : Arrived → List ℕ → Type 0
BeginsSo p rest = p.packet ≡ 0x00 ∷ 0xFE ∷ 0x03 ∷ rest

abbrev pub BeginsOtherwise : Arrived → Type 0
BeginsOtherwise p = (rest : List ℕ) → BeginsSo p rest → ⊥

-- Other bytes, with the same end, on the same link.
abbrev pub with_bytes : Arrived → List ℕ → Arrived
with_bytes p bytes = record { packet = bytes; end = p.end; link = p.link }

-- What is read is what arrived, less the first byte of a packet that begins so. This is what `as_read` means wherever it stands.
abbrev pub ReadSo : Type 0
ReadSo =
    (p : Arrived) → ((rest : List ℕ) → BeginsSo p rest → as_read p ≡ with_bytes p (0xFE ∷ 0x03 ∷ rest)) × (BeginsOtherwise p → as_read p ≡ p)

-- Such a packet has the outcome that it would have if its first byte weren't there, in every part: unit, fate with its status, length of the reply, memory and reply buffer. So it
-- is with every unit, whatever its time number.
abbrev pub AsWithoutIt : Terminal → Type 0
AsWithoutIt t =
    (u : TheUnit) (p : Arrived) (lent : Lent) (rest : List ℕ) → BeginsSo p rest → t.packet u p lent ≡ t.packet u (with_bytes p (0xFE ∷ 0x03 ∷ rest)) lent

-- Every other packet, also one that begins with 00, has in every part the outcome that it had before.
abbrev pub OthersAsBefore : Terminal → Type 0
OthersAsBefore t = (u : TheUnit) (p : Arrived) (lent : Lent) → BeginsOtherwise p → t.packet u p lent ≡ take_read u p lent

-- In numbers, of such a packet of two bytes or more on a link of a usable unit: it goes by its second byte as it arrived. 00 is 13, the time number 16 or 19, and what is
-- none of 00, 01, 03 and the time number is 12.
abbrev pub BySecondByte : Terminal → Type 0
BySecondByte t =
    (u : TheUnit) (p : Arrived) (lent : Lent) → BeginsOtherwise p → 2 ≤ length p.packet → usable u (length lent.memory) ≡ true → is_link u p.link ≡ true
    → (get_or p.packet 1 0 ≡ 0x00 → fate_number (t.packet u p lent).answer.fate ≡ 13)
    × (get_or p.packet 1 0 ≡ u.number
    → (fate_number (t.packet u p lent).answer.fate ≡ 16) ⊎ (fate_number (t.packet u p lent).answer.fate ≡ 19))
    × (get_or p.packet 1 0 ≢ 0x00 → get_or p.packet 1 0 ≢ 0x01 → get_or p.packet 1 0 ≢ 0x03 → get_or p.packet 1 0 ≢ u.number
    → fate_number (t.packet u p lent).answer.fate ≡ 12)

-- No effect, though there may be a reply: memory is as it was, of the unit the counters alone change, there is no status 0, and no time packet is taken (19).
abbrev pub NoEffect : TheUnit → Lent → Outcome → Type 0
NoEffect u lent o =
    (o.memory ≡ lent.memory)
    × (o.answer.unit ≡ with_counters u o.answer.unit.counters)
    × (fate_status o.answer.fate ≢ Some 0)
    × (fate_number o.answer.fate ≢ 19)

-- And by its first byte: where that is neither the unit's logical address nor FE, it has no effect. So it is with a zero in front of RMAP, of a time packet or of anything else
-- but FE 03, in a unit whose logical address is not 00.
abbrev pub OnlyAddressed : Terminal → Type 0
OnlyAddressed t =
    (u : TheUnit) (p : Arrived) (lent : Lent) → BeginsOtherwise p → get_or p.packet 0 0 ≢ u.logical → get_or p.packet 0 0 ≢ 0xFE
    → NoEffect u lent (t.packet u p lent)

-- The packet as it is read has the outcome of the packet as it arrived: nothing is taken off a second time.
abbrev pub TakenOnce : Terminal → Type 0
TakenOnce t = (u : TheUnit) (p : Arrived) (lent : Lent) → t.packet u (as_read p) lent ≡ t.packet u p lent

-- Before, every such packet on a link of a usable unit was 16 where the time number is FE, and 12 elsewhere.
abbrev pub WasRefused : Type 0
WasRefused =
    (u : TheUnit) (p : Arrived) (lent : Lent) (rest : List ℕ) → BeginsSo p rest → usable u (length lent.memory) ≡ true → is_link u p.link ≡ true
    → (u.number ≡ 0xFE → fate_number (take_read u p lent).answer.fate ≡ 16) × (u.number ≢ 0xFE → fate_number (take_read u p lent).answer.fate ≡ 12)

-- Demand 3 holds none of these packets: every packet of its lists has 01 as its second byte.
abbrev pub NoneWithZero : Type 0
NoneWithZero = (c : Sent) (rest : List ℕ) → Rmap c → BeginsSo c.arrived rest → ⊥
