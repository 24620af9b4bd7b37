-- Demand 1, memory and histories: holds. A store stays in its span, which a window holds; usable is kept call by call.
use mathlib.Core.Path.{◌≡◌, refl, sym, ◌∙◌, ap}
use mathlib.Core.Bool.{Bool, true, false, ◌&&◌, ◌||◌, false≢true, or-true}
use mathlib.Core.Logic.{◌⊎◌, inl, inr, ◌≢◌}
use mathlib.Core.List.{List, [], ◌∷◌}
use Prim.Native.Nat.{ℕ, ◌+◌, ◌<◌, ◌≤◌}
use native.Mathlib.Omega.{arith}
use native.Mathlib.Decide.{dec_le}
use native.Mathlib.Nat.{lt_of_not-le}
use lib.ListN.{length, get_or}
use Rattle.octets.proofs.PlaceLaws.{second_true}
use Rattle.packets.specs.Instruction.{is_rmw, is_write, header_size}
use Rattle.packets.specs.Header.{kind_in}
use Rattle.packets.specs.declared.instruction.Kind.{Kind}
use Rattle.packets.specs.declared.instruction.Kind.TheVariants.{ReadModifyWrite, Write}
use Rattle.packets.specs.declared.header.Header.{Header}
use Rattle.packets.specs.declared.path.Path.{Path}
use Rattle.unit.specs.Some.{some}
use Rattle.unit.specs.Fate.{is_success, fate_number}
use Rattle.unit.specs.Windows.{holds, has_right, used}
use Rattle.unit.specs.Usable.{usable}
use Rattle.unit.specs.Given.{Arrived, as_read, Lent}
use Rattle.unit.specs.Decide.{span_size, header_status, all_at_hand, data_count, data_status_of}
use Rattle.unit.specs.Act.{stored}
use Rattle.unit.specs.Calls.{without_reply, leaving, take_time_code, take_ticks}
use Rattle.unit.specs.declared.fate.Fate.TheVariants.{Obeyed}
use Rattle.unit.specs.declared.clock.Clock.{Clock}
use Rattle.unit.specs.declared.calls.Answer.{Answer}
use Rattle.unit.specs.declared.windows.Window.{Window}
use Rattle.unit.specs.declared.unit.Unit.{Unit as TheUnit}
use Rattle.packets.proofs.ReadingLaws.{header_whole}
use Rattle.unit.proofs.CallLaws.{packet_length}
use Rattle.unit.proofs.DecideLaws.{write_bit, memory_passed, span_passed}
use Rattle.unit.proofs.UnitLaws.{SetUpAs}
use Rattle.unit.proofs.UsableLaws.{alone, packet_set_up, code_set_up, ticks_set_up, packet_with_memory, code_with_memory, ticks_with_memory}
use Rattle.unit.proofs.PlanLaws.{memory_action_in}
use Rattle.unit.proofs.CommandLaws.{take_command, packet_is, command_is}
use Rattle.unit.proofs.GrantLaws.{authorised_window}
use Rattle.unit.proofs.MemoryLaws.{memory_outside, storing_kind}
use Rattle.demands.proofs.NumbersHold.{one_two_three, small_rows}
use Rattle.demands.specs.Terminal.{ours, IsCommand, path_in, Call, packet, time_code, ticks, answer_to, after}
use Rattle.demands.specs.Refusals.{SmallRow, ByCode, ByTicks}
use Rattle.demands.specs.Bounds.{WindowForWriting, OnlyInWindow, NeverStrays, SetUpStays, OfBytes, StaysUsable, Lends, ComesBack}

-- ---- memory

-- the right of a write, or of an RMW, has the write right in it
writing : (kind : Kind) (w : Window) → (kind ≡ Write) ⊎ (kind ≡ ReadModifyWrite) → has_right kind w ≡ true → w.write ≡ true
writing kind w (inl e) r = rw e at r
writing kind w (inr e) r = second_true w.read w.write (rw e at r)

held : (kind : Kind) (at size : ℕ) (ws : List Window) → (kind ≡ Write) ⊎ (kind ≡ ReadModifyWrite)
    → some (λ w. holds w at size && has_right kind w) ws ≡ true → some (λ w. holds w at size && w.write) ws ≡ true
held kind at size [] k e = e
held kind at size (w ∷ ws) k e = go (holds w at size) (has_right kind w) refl (writing kind w k) e (held kind at size ws k)
  where
    Rest : Bool
    Rest = some (λ w. holds w at size && w.write) ws

    go : (a b : Bool) → has_right kind w ≡ b → (has_right kind w ≡ true → w.write ≡ true)
        → ((a && b) || some (λ w. holds w at size && has_right kind w) ws) ≡ true
        → (some (λ w. holds w at size && has_right kind w) ws ≡ true → Rest ≡ true) → ((a && w.write) || Rest) ≡ true
    go true true f right e rest = rw (right f)
    go true false f right e rest = rw (rest e) (or-true w.write)
    go false b f right e rest = rest e

-- a command that may store has the write bit, or is an RMW
pub storing_bit : (h : Header) → (kind_in h ≡ Write) ⊎ (kind_in h ≡ ReadModifyWrite) → (is_write h.instruction || is_rmw (kind_in h)) ≡ true
storing_bit h (inl k) = rw (write_bit h k)
storing_bit h (inr k) = rw k (or-true (is_write h.instruction))

module _ (u : TheUnit) (p : Arrived) (lent : Lent) (works : usable u (length lent.memory) ≡ true) (h : Header)
    (read : IsCommand u p h) where
  abbrev path : Path
  path = path_in u p

  abbrev left : List ℕ
  left = stored (memory_action_in h (as_read p)) (as_read p).packet lent.memory

  abbrev there : ℕ → Type 0
  there i =
      (h : Header) × IsCommand u p h × (h.protocol ≡ 0x01) × ((is_write h.instruction || is_rmw (kind_in h)) ≡ true) × (h.address ≤ i) × (i < h.address + span_size h)
      × WindowForWriting u h

  strays : h.protocol ≡ 0x01 → is_success (header_status u h path p.link) ≡ true → (i : ℕ) → get_or left i 0 ≢ get_or lent.memory i 0 → there i
  strays e a i other =
      go (storing_kind (kind_in h) h (data_status_of h (as_read p)) (as_read p).packet lent.memory (header_size h.instruction) (data_count h (all_at_hand h (as_read p)))) (dec_le h.address i) (dec_le (h.address + span_size h) i)
    where
      outside : (i < h.address) ⊎ (h.address + span_size h ≤ i) → ⊥
      outside o = other (memory_outside u h path (as_read p) lent.memory works (header_whole (as_read p).packet u.number h read) e a i o)

      window : (kind_in h ≡ Write) ⊎ (kind_in h ≡ ReadModifyWrite) → WindowForWriting u h
      window k =
          held (kind_in h) h.address (span_size h) (used u.windows) k
          (authorised_window u.windows h (span_passed u.windows h (memory_passed u h path p.link e a)).1)

      go : (left ≡ lent.memory) ⊎ ((kind_in h ≡ Write) ⊎ (kind_in h ≡ ReadModifyWrite)) → Dec (h.address ≤ i)
          → Dec (h.address + span_size h ≤ i) → there i
      go (inl same) b l = absurd (other (ap (λ (x : List ℕ). get_or x i 0) same))
      go (inr k) (no b) l = absurd (outside (inl (lt_of_not-le b)))
      go (inr k) (yes b) (yes l) = absurd (outside (inr l))
      go (inr k) (yes b) (no l) = (h, read, e, storing_bit h k, b, lt_of_not-le l, window k)

  command_strays : OnlyInWindow u p lent (take_command u h path (as_read p) lent)
  command_strays =
      command_is u h path (as_read p) lent (OnlyInWindow u p lent) same (λ e. (λ w. same, λ w. same)) (λ e a. (λ w. strays e a, λ w. strays e a))
      (λ e a. (λ w. same, λ w. same))
    where
      same : (i : ℕ) → get_or lent.memory i 0 ≢ get_or lent.memory i 0 → there i
      same i other = absurd (other refl)

pub never_strays : NeverStrays ours
never_strays u p lent = (
  (packet_length u p lent).0,
  (packet_length u p lent).1,
  packet_is u p lent (OnlyInWindow u p lent) (λ e. same) (λ e f. same) (λ e f why g. same) (λ e f g. same) (λ e f g t. same)
      (λ e f h g. command_strays u p lent e h g),
)
  where
    same : OnlyInWindow u p lent (leaving (without_reply Obeyed u) lent)
    same i other = absurd (other refl)

-- ---- histories

-- call by call: what the unit was set up with, and what it is usable with
call_set_up : (u : TheUnit) (c : Call) → SetUpAs u (answer_to ours u c).unit
call_set_up u (packet p lent) = packet_set_up u p lent
call_set_up u (time_code byte) = code_set_up u byte
call_set_up u (ticks count) = ticks_set_up u count

usable_call : (u : TheUnit) (n : ℕ) (c : Call) → OfBytes c → usable (answer_to ours u c).unit n ≡ usable u n
usable_call u n (packet p lent) b = packet_with_memory u n p lent b
usable_call u n (time_code byte) b = code_with_memory u n byte
usable_call u n (ticks count) b = ticks_with_memory u n count

pub set_up_stays : SetUpStays ours
unfolding after
set_up_stays u [] = (refl, refl, refl, refl, refl)
set_up_stays u (c ∷ cs) =
    let first = call_set_up u c in
    let rest = set_up_stays (answer_to ours u c).unit cs in
    (rest.0 ∙ first.0, rest.1 ∙ first.1, rest.2 ∙ first.2, rest.3 ∙ first.3, rest.4 ∙ first.4)

pub stays_usable : StaysUsable ours
unfolding after
stays_usable u n [] b = refl
stays_usable u n (c ∷ cs) b = stays_usable (answer_to ours u c).unit n cs b.1 ∙ usable_call u n c b.0

-- 1 is for a unit that is not usable
small_usable : (Moved : Clock → Type 0) (u : TheUnit) (n : ℕ) (a : Answer) → usable u n ≡ true → SmallRow Moved u a → fate_number a.fate ≢ 1
small_usable Moved u n a e (inl s) one = false≢true (sym s.0 ∙ alone u n e)
small_usable Moved u n a e (inr s) one = let zero = s.1 in absurd (omega (arith, zero, one))

not_one : (u : TheUnit) (n : ℕ) (c : Call) → usable u n ≡ true → Lends n c → fate_number (answer_to ours u c).fate ≢ 1
not_one u n (packet p lent) e l one = false≢true (sym ((one_two_three u p lent).0.0 one) ∙ rw l e)
not_one u n (time_code byte) e l one = small_usable (ByCode u byte) u n (take_time_code u byte) e (small_rows.0 u byte) one
not_one u n (ticks count) e l one = small_usable (ByTicks u count) u n (take_ticks u count) e (small_rows.1 u count) one

pub comes_back : ComesBack ours
comes_back u n before c e b l = not_one (after ours u before) n c (stays_usable u n before b ∙ e) l
