-- Demand 2 holds: what the definitions give is what the code promises, and memory changes by a store with a status that allows it, or not at all.
use Rattle.std.proofs.Common.{Option, Some, Ok, Err}
use mathlib.Core.Path.{◌≡◌, refl, sym, ◌∙◌, ap}
use mathlib.Core.Bool.{Bool, true, false, cond, not, ◌&&◌, ◌||◌, false≢true}
use mathlib.Core.Logic.{◌⊎◌, inl, inr}
use mathlib.Core.List.{List}
use Prim.Native.Nat.{ℕ}
use borrow.Author.Tests.{eqb-true}
use Rattle.packets.specs.Instruction.{is_rmw, is_write, is_verified, header_size}
use Rattle.packets.specs.Header.{kind_in}
use Rattle.packets.specs.declared.instruction.Kind.{Kind}
use Rattle.packets.specs.declared.instruction.Kind.TheVariants.{Unused, Read, ReadModifyWrite, Write}
use Rattle.packets.specs.declared.header.Header.{Header}
use Rattle.packets.specs.declared.path.Path.{Path}
use Rattle.unit.proofs.FateLaws.{success_byte}
use Rattle.unit.specs.Fate.{Status, byte_of, is_success, fate_status}
use Rattle.unit.specs.Given.{Arrived, as_read, Lent, sizes_of}
use Rattle.unit.specs.Judge.{judged, fate_in, length_in}
use Rattle.unit.specs.Decide.{wanted_count, all_at_hand, data_count, data_status_of}
use Rattle.unit.specs.Plan.{unanswered_fate}
use Rattle.unit.specs.Act.{stored}
use Rattle.unit.specs.Calls.{Outcome, take_packet}
use Rattle.unit.specs.declared.fate.Fate.{Fate}
use Rattle.unit.specs.declared.fate.Fate.TheVariants.{Replied}
use Rattle.unit.specs.declared.unit.Unit.{Unit as TheUnit}
use Rattle.unit.proofs.DecideLaws.{writes, write_bit_is, data_refuses}
use Rattle.unit.proofs.PlanLaws.{memory_action_in}
use Rattle.unit.proofs.CommandLaws.{take_command, packet_is, command_is}
use Rattle.unit.proofs.CallLaws.{as_judged}
use Rattle.unit.proofs.MemoryLaws.{storing_kind, refused_stores}
use Rattle.packets.proofs.ReadingLaws.{one_command}
use Rattle.demands.proofs.BoundsHold.{storing_bit}
use Rattle.demands.specs.Terminal.{ours, read_of, IsCommand, path_in}
use Rattle.demands.specs.Refusals.{written_to}
use Rattle.demands.specs.Meaning.{ByteByByte, PacketPromise, TimeCodePromise, TicksPromise, JudgePromise, AsJudged, JudgeForetells, StoresWith, KeepsOrStores, OnlyStoresChange, RefusedChangesNone}

pub byte_by_byte : ByteByByte ours
byte_by_byte = (λ u p lent. refl, λ u byte. refl, λ u count. refl)

pub packet_promise : PacketPromise
packet_promise κs unit bytes end link memory reply answer unit' bytes' end' link' memory' reply' p = p

pub time_code_promise : TimeCodePromise
time_code_promise κs unit byte answer exit p = p

pub ticks_promise : TicksPromise
ticks_promise κs unit count answer exit p = p

pub judge_promise : JudgePromise
judge_promise κs unit bytes end link sizes ruling exit p = p

pub told_as_judged : AsJudged ours
told_as_judged u p lent = as_judged u p lent

pub judge_foretells : JudgeForetells
judge_foretells κs unit bytes end link sizes ruling exit κs' again memory reply answer unit' again' end' link' memory' reply' judges takes same lent =
    let p : Arrived = record { packet = again.now; end = end; link = link } in
    let given : Lent = record { memory = memory.now; reply = reply.now } in
    let j : ruling ≡ judged unit (as_read p) (sizes_of given) =
    judges ∙ ap (λ (b : List ℕ). judged unit (as_read (record { packet = b; end = end; link = link })) sizes) same ∙ ap (judged unit (as_read p)) lent in
    let told = as_judged unit p given in (
      ap (λ (o : Outcome). o.answer.fate) takes ∙ told.0 ∙ sym (ap fate_in j),
      ap (λ (o : Outcome). o.answer.length) takes ∙ told.1 ∙ sym (ap length_in j),
    )

-- ---- refused, and memory unchanged

-- a command refused by its data stores where it is a write without verify, and one that is obeyed where it is a write or an RMW
module _ (u : TheUnit) (p : Arrived) (lent : Lent) (h : Header) (read : IsCommand u p h) where
  abbrev path : Path
  path = path_in u p

  abbrev status : Status
  status = data_status_of h (as_read p)

  abbrev left : List ℕ
  left = stored (memory_action_in h (as_read p)) (as_read p).packet lent.memory

  obeyed : is_success status ≡ true → (left ≡ lent.memory) ⊎ StoresWith h (Some (byte_of status))
  obeyed f =
      go (storing_kind (kind_in h) h status (as_read p).packet lent.memory (header_size h.instruction) (data_count h (all_at_hand h (as_read p))))
    where
      go : (left ≡ lent.memory) ⊎ ((kind_in h ≡ Write) ⊎ (kind_in h ≡ ReadModifyWrite)) → (left ≡ lent.memory) ⊎ StoresWith h (Some (byte_of status))
      go (inl same) = inl same
      go (inr k) = inr (inl (storing_bit h k, ap Some (eqb-true (byte_of status) 0 (sym (success_byte status) ∙ f))))

  refused : is_success status ≡ false → (left ≡ lent.memory) ⊎ StoresWith h (Some (byte_of status))
  refused f = go (is_write h.instruction) (is_verified h.instruction) refl refl
    where
      stores : left ≡ cond (is_write h.instruction && not (is_verified h.instruction)) (written_to h p lent) lent.memory
      stores =
          refused_stores (kind_in h) h status (as_read p).packet lent.memory (header_size h.instruction) (data_count h (all_at_hand h (as_read p))) f ∙ rw (write_bit_is h)

      go : (w v : Bool) → is_write h.instruction ≡ w → is_verified h.instruction ≡ v → (left ≡ lent.memory) ⊎ StoresWith h (Some (byte_of status))
      go false v e g = inl (rw e at stores)
      go true true e g = inl (rw (e, g) at stores)
      go true false e g =
          inr (inr (e, g, (byte_of status, refl, data_refuses (data_count h (all_at_hand h (as_read p))) (all_at_hand h (as_read p)).data_crc (wanted_count h) p.end f)))

  -- with a reply or without one
  told : h.protocol ≡ 0x01 → (fate : Fate) → fate_status fate ≡ Some (byte_of status) → (left ≡ lent.memory) ⊎ StoresWith h (Some (byte_of status))
      → (left ≡ lent.memory) ⊎ ((h : Header) × IsCommand u p h × (h.protocol ≡ 0x01) × StoresWith h (fate_status fate))
  told e fate s (inl same) = inl same
  told e fate s (inr with) = inr (h, read, e, rw s with)

  command_changes : KeepsOrStores u p lent (take_command u h path (as_read p) lent)
  command_changes =
      command_is u h path (as_read p) lent (KeepsOrStores u p lent) (inl refl) (λ e. (λ w. inl refl, λ w. inl refl))
      (λ e a. (λ w. told e (Replied status) refl by_status, λ w. told e (unanswered_fate status) (silent status) by_status))
      (λ e a. (λ w. inl refl, λ w. inl refl))
    where
      go : (t : Bool) → is_success status ≡ t → (left ≡ lent.memory) ⊎ StoresWith h (Some (byte_of status))
      go true f = obeyed f
      go false f = refused f

      by_status : (left ≡ lent.memory) ⊎ StoresWith h (Some (byte_of status))
      by_status = go (is_success status) refl

      silent : (s : Status) → fate_status (unanswered_fate s) ≡ Some (byte_of s)
      silent (Ok done) = refl
      silent (Err offence) = refl

pub only_stores_change : OnlyStoresChange ours
only_stores_change u p lent =
    packet_is u p lent (KeepsOrStores u p lent) (λ e. inl refl) (λ e f. inl refl) (λ e f why g. inl refl) (λ e f g. inl refl) (λ e f g t. inl refl) (λ e f h g. command_changes u p lent h g)

-- a verified write and an RMW store with status 0 alone
guarded_zero : (h : Header) (told : Option ℕ) → ((is_write h.instruction && is_verified h.instruction) || is_rmw (kind_in h)) ≡ true → StoresWith h told
    → told ≡ Some 0
guarded_zero h told guarded (inl s) = s.1
guarded_zero h told guarded (inr s) = absurd (go (kind_in h) (rw (s.1, write_bit_is h) at guarded) (sym (write_bit_is h) ∙ s.0))
  where
    go : (kind : Kind) → ((writes kind && false) || is_rmw kind) ≡ true → writes kind ≡ true → ⊥
    go Unused e w = false≢true w
    go Read e w = false≢true w
    go ReadModifyWrite e w = false≢true w
    go Write e w = false≢true e

pub refused_changes_none : RefusedChangesNone ours
refused_changes_none u p lent h is guarded other = go (only_stores_change u p lent)
  where
    go : KeepsOrStores u p lent (take_packet u p lent) → (take_packet u p lent).memory ≡ lent.memory
    go (inl same) = same
    go (inr stores) =
        let k = stores.0 in
        absurd (other (guarded_zero k (fate_status (take_packet u p lent).answer.fate)
        (rw (one_command (read_of u p) h k is stores.1) guarded) stores.3))
