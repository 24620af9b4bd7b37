-- Demand 1, the table of numbers, holds: each of the ways that a packet can go leaves what its row says.
use mathlib.Core.Path.{◌≡◌, refl, sym, ◌∙◌, ap, subst}
use mathlib.Core.Bool.{Bool, true, false, cond, not, ◌&&◌, false≢true, and-true, and-false}
use mathlib.Core.Logic.{inl, inr}
use mathlib.Core.List.{List, [], ◌∷◌}
use Prim.Native.Nat.{ℕ, min}
use borrow.Author.Tests.{eq-eqb, ne_eqb}
use lib.Dec.{eqb}
use lib.ListN.{length}
use Rattle.octets.specs.Numbers.{Digits}
use Rattle.packets.specs.Instruction.{is_write, is_verified, header_size}
use Rattle.packets.specs.Header.{kind_in}
use Rattle.packets.specs.Reading.{number_of}
use Rattle.packets.specs.declared.instruction.Kind.{Kind}
use Rattle.packets.specs.declared.instruction.Kind.TheVariants.{Unused, Read, ReadModifyWrite, Write}
use Rattle.packets.specs.declared.header.Header.{Header}
use Rattle.packets.specs.declared.path.Path.{Path}
use Rattle.packets.specs.declared.reading.Refusal.{Refusal}
use Rattle.packets.specs.declared.reading.Refusal.TheVariants.{Incomplete, UnknownProtocol, ExtendedProtocol, Reply, HeaderCrc}
use Rattle.std.proofs.Common.{Ok, Err}
use Rattle.unit.specs.Some.{some}
use Rattle.unit.specs.Fate.{Status, byte_of, is_success}
use Rattle.unit.specs.Counters.{counted_for}
use Rattle.unit.specs.Usable.{usable}
use Rattle.unit.specs.Given.{Arrived, as_read, Lent}
use Rattle.unit.specs.Decide.{rmw_count, header_status, wanted_count, all_at_hand, data_count, data_status_of}
use Rattle.unit.specs.Plan.{action_of, field_action_of, memory_action}
use Rattle.unit.specs.Act.{stored, data_for, changed, counted_unit}
use Rattle.unit.specs.Calls.{Outcome}
use Rattle.unit.specs.declared.fate.Fate.TheVariants.{Unread, Replied}
use Rattle.unit.specs.declared.decide.Action.TheVariants.{Nothing}
use Rattle.unit.specs.declared.unit.Unit.{Unit as TheUnit}
use Rattle.unit.proofs.CommandLaws.{take_command, packets_are, Answers, command_is}
use Rattle.unit.proofs.MemoryLaws.{nothing_stores, read_stores, rmw_stores, write_stores, refused_stores}
use Rattle.unit.proofs.PlanLaws.{memory_action_in, field_action_in}
use Rattle.unit.proofs.DecideLaws.{writes, write_bit_is, header_gives, data_refuses}
use Rattle.packets.proofs.ReadingLaws.{protocol_other}
use Rattle.demands.specs.Terminal.{ours, IsCommand, path_in}
use Rattle.demands.specs.ReplyDue.{ReplyBytes}
use Rattle.demands.specs.Refusals.{counted_as, obeyed_by, written_to, obeyed_on, refused_on, status_due, Leaves, RowByRow}
use Rattle.demands.proofs.RepliesHold.{command_says}

-- ---- what a field command makes of the unit

module _ (u : TheUnit) (h : Header) (p : Arrived) where
  abbrev after : Bool → Kind → TheUnit
  after t kind = changed (cond t (field_action_of kind h (as_read p).packet (header_size h.instruction)) Nothing) u h.initiator (path_in u p) p.link

  obeyed_unit : (t : Bool) (kind : Kind) → t ≡ true → after t kind ≡ obeyed_by kind u h p
  unfolding changed
  obeyed_unit true Unused e = refl
  obeyed_unit true Read e = refl
  obeyed_unit true ReadModifyWrite e = refl
  obeyed_unit true Write e = refl
  obeyed_unit false kind e = absurd (false≢true e)

  refused_unit : (t : Bool) (kind : Kind) → t ≡ false → after t kind ≡ u
  unfolding changed
  refused_unit true kind e = absurd (false≢true (sym e))
  refused_unit false kind e = refl

-- ---- what a command leaves in memory

-- obeyed
obeyed_memory : (kind : Kind) (h : Header) (s : Status) (p : Arrived) (lent : Lent) → is_success s ≡ true
    → stored (action_of kind h s (header_size h.instruction) (data_count h (all_at_hand h (as_read p)))) (as_read p).packet lent.memory ≡ obeyed_on kind h p lent
obeyed_memory Unused h s p lent e = nothing_stores (as_read p).packet lent.memory
obeyed_memory Read h s p lent e = read_stores h.instruction s h.address h.length (as_read p).packet lent.memory
obeyed_memory ReadModifyWrite h s p lent e = rmw_stores s h.address (header_size h.instruction) (rmw_count h) (as_read p).packet lent.memory ∙ rw e
obeyed_memory Write h s p lent e =
    write_stores h.instruction s h.address (header_size h.instruction) (min (data_count h (all_at_hand h (as_read p))) h.length) (as_read p).packet lent.memory
    ∙ rw e (go (is_verified h.instruction))
  where
    go : (v : Bool) → cond (v && false) lent.memory (written_to h p lent) ≡ written_to h p lent
    go true = refl
    go false = refl

-- refused, by its data
refused_memory : (h : Header) (s : Status) (p : Arrived) (lent : Lent) → h.protocol ≡ 0x01 → is_success s ≡ false → some (eqb (byte_of s)) (4 ∷ 5 ∷ 6 ∷ 7 ∷ []) ≡ true
    → stored (memory_action h s (header_size h.instruction) (data_count h (all_at_hand h (as_read p)))) (as_read p).packet lent.memory ≡ refused_on h s p lent
refused_memory h s p lent e f g =
    refused_stores (kind_in h) h s (as_read p).packet lent.memory (header_size h.instruction) (data_count h (all_at_hand h (as_read p))) f
    ∙ rw (eq-eqb h.protocol 0x01 e, g, write_bit_is h, and-true (writes (kind_in h) && not (is_verified h.instruction)))

-- refused by its header, or a field command
header_memory : (h : Header) (s : Status) (p : Arrived) (lent : Lent) → some (eqb (byte_of s)) (4 ∷ 5 ∷ 6 ∷ 7 ∷ []) ≡ false → lent.memory ≡ refused_on h s p lent
header_memory h s p lent g = rw (g, and-false (eqb h.protocol 0x01 && is_write h.instruction && not (is_verified h.instruction)))

field_memory : (h : Header) (s : Status) (p : Arrived) (lent : Lent) → (h.protocol ≡ 0x01 → ⊥) → lent.memory ≡ refused_on h s p lent
field_memory h s p lent e = rw (ne_eqb h.protocol 0x01 e)

-- ---- a command

module _ (u : TheUnit) (p : Arrived) (lent : Lent) (h : Header) (read : IsCommand u p h) where
  abbrev path : Path
  path = path_in u p

  -- where the fate is 20 the reply that is due stands in the buffer
  abbrev Row : Outcome → Type 0
  Row o = ((s : Status) → o.answer.fate ≡ Replied s → ReplyBytes u p lent s o) → Leaves o.answer.fate u p lent o

  abbrev Rows : Status → TheUnit → List ℕ → List ℕ → Type 0
  Rows = Answers u h path p lent Row

  abbrev first : Status
  first = header_status u h path p.link

  -- refused: the unit is counted, whether there is a reply or not
  refused_row : (s : Status) (n d : List ℕ) → is_success s ≡ false → s ≡ status_due u p h → n ≡ refused_on h s p lent → Rows s u n d
  unfolding counted_for
  refused_row (Ok done) n d e due memory = absurd (false≢true (sym e))
  refused_row (Err offence) n d e due memory = (
    λ w written. (λ f. absurd (false≢true f), λ f. (h, read, w, due, e, refl, memory), written (Err offence) refl),
    λ w written. ((h, read, w, due, e, refl, memory), (refl, refl)),
  )

  -- obeyed, on memory and on fields
  memory_done : (s : Status) (n d : List ℕ) → is_success s ≡ true → s ≡ status_due u p h → h.protocol ≡ 0x01 → n ≡ obeyed_on (kind_in h) h p lent → Rows s u n d
  unfolding counted_for
  memory_done (Ok done) n d e due q memory = (
    λ w written. (λ f. (h, read, w, ap is_success (sym due), inl (q, refl, memory)), λ f. absurd (false≢true (sym f)), written (Ok done) refl),
    λ w written. ((h, read, w, ap is_success (sym due), inl (q, refl, memory)), (refl, refl)),
  )
  memory_done (Err offence) n d e due q memory = absurd (false≢true e)

  fields_done : (s : Status) (v : TheUnit) (d : List ℕ) → is_success s ≡ true → s ≡ status_due u p h → (h.protocol ≡ 0x01 → ⊥) → v ≡ obeyed_by (kind_in h) u h p
      → Rows s v lent.memory d
  unfolding counted_for
  fields_done (Ok done) v d e due q left = (
    λ w written. (
      λ f. (h, read, w, ap is_success (sym due), inr (protocol_other (as_read p).packet u.number h read q, ap (counted_as 20) left, refl)),
      λ f. absurd (false≢true (sym f)),
      written (Ok done) refl,
    ),
    λ w written. (
      (h, read, w, ap is_success (sym due), inr (protocol_other (as_read p).packet u.number h read q, ap (counted_as 18) left, refl)),
      (refl, refl),
    ),
  )
  fields_done (Err offence) v d e due q left = absurd (false≢true e)

  abbrev status : Status
  status = data_status_of h (as_read p)

  -- past the header the data decide
  module _ (accepted : is_success first ≡ true) where
    due : status ≡ status_due u p h
    due = rw accepted

    abbrev MemoryRow : Type 0
    MemoryRow = Rows status u (stored (memory_action_in h (as_read p)) (as_read p).packet lent.memory) (data_for (memory_action_in h (as_read p)) u p.link lent.memory)

    memory_row : h.protocol ≡ 0x01 → MemoryRow
    memory_row e = go (is_success status) refl
      where
        go : (t : Bool) → is_success status ≡ t → MemoryRow
        go true f = memory_done status _ _ f due e (obeyed_memory (kind_in h) h status p lent f)
        go false f =
            refused_row status _ _ f due
            (refused_memory h status p lent e f (data_refuses (data_count h (all_at_hand h (as_read p))) (all_at_hand h (as_read p)).data_crc (wanted_count h) p.end f))

    fields_row : (h.protocol ≡ 0x01 → ⊥)
        → Rows status (changed (field_action_in h (as_read p)) u h.initiator path p.link) lent.memory (data_for (field_action_in h (as_read p)) u p.link lent.memory)
    fields_row e = go (is_success status) refl
      where
        d : List ℕ
        d = data_for (field_action_in h (as_read p)) u p.link lent.memory

        go : (t : Bool) → is_success status ≡ t → Rows status (after u h p (is_success status) (kind_in h)) lent.memory d
        go true f = fields_done status (after u h p (is_success status) (kind_in h)) d f due e (obeyed_unit u h p (is_success status) (kind_in h) f)
        go false f =
            subst (λ (v : TheUnit). Rows status v lent.memory d) (sym (refused_unit u h p (is_success status) (kind_in h) f))
            (refused_row status lent.memory d f due (field_memory h status p lent e))

  command_row : usable u (length lent.memory) ≡ true → Digits 256 p.packet
      → Leaves (take_command u h path (as_read p) lent).answer.fate u p lent (take_command u h path (as_read p) lent)
  command_row works bytes =
      command_is u h path (as_read p) lent Row (λ w. (refl, refl, (refl, refl)))
      (λ e. refused_row first lent.memory [] e (rw e) (header_memory h first p lent (header_gives u h path p.link))) (λ q a. memory_row a q) (λ q a. fields_row a q)
      (λ s e. command_says u p lent s bytes h read works e)

-- ---- every packet

unread_counted : (why : Refusal) (u : TheUnit) → counted_unit (Unread why) u ≡ counted_as (number_of why) u
unfolding counted_for
unread_counted Incomplete u = refl
unread_counted UnknownProtocol u = refl
unread_counted ExtendedProtocol u = refl
unread_counted Reply u = refl
unread_counted HeaderCrc u = refl

pub row_by_row : RowByRow ours
unfolding counted_for
row_by_row u p lent bytes =
    packets_are u p lent lent.memory refl (λ o o'. Leaves o.answer.fate u p lent o)
    (λ e. (refl, refl, (refl, refl)))
    (λ e f. (refl, refl, (refl, refl)))
    (λ e f why g. (g, (unread_counted why u, refl, (refl, refl))))
    (λ e f g w. ((g, w), (refl, refl, (refl, refl))))
    (λ e f g t w. (t, (g, w), refl, refl, (refl, refl)))
    (λ e f h g. command_row u p lent h g e bytes)
