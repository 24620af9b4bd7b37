-- Laws of replies: what the plan counts is what is written. Where the fate is 20, all of the reply stands in the buffer.
use Rattle.std.proofs.Common.{◌≡◌, ℕ, ◌/◌, ◌%◌, ◌^◌, ◌<◌, ◌≤◌, Bool, true, false, cond, not, ◌&&◌, ◌||◌, eqb, leb, List, length, get_or, sym, refl, ◌∙◌, ⊎_elim, arith, lt-ltb, eq-eqb, eqb-true, le-leb, Ok, Err}
use mathlib.Core.Bool.{false≢true}
use borrow.Author.Tests.{not-true}
use lib.ListN.{length-replicate}
use Rattle.octets.specs.Places.{placed}
use Rattle.octets.proofs.PlaceLaws.{length_part, first_true, second_true, either_false}
use Rattle.packets.specs.Instruction.{type_of, is_write, is_incrementing, is_unused, is_rmw, header_size}
use Rattle.packets.specs.Header.{kind_in}
use Rattle.packets.specs.Reply.{carries_data, carried_count, reply_of, reply_length, replied}
use Rattle.packets.specs.declared.instruction.Kind.{Kind}
use Rattle.packets.specs.declared.instruction.Kind.TheVariants.{Unused, Read, ReadModifyWrite, Write}
use Rattle.packets.specs.declared.header.Header.{Header}
use Rattle.packets.specs.declared.path.Path.{Path}
use Rattle.packets.proofs.ReplyLaws.{same_length, length_reply}
use Rattle.unit.specs.Fate.{Status, byte_of, is_success, fate_number}
use Rattle.unit.specs.Usable.{usable}
use Rattle.unit.specs.Fields.{named, values_of}
use Rattle.unit.specs.Given.{Arrived, Lent}
use Rattle.unit.specs.Decide.{opening_status, is_field_length, header_status, all_at_hand, data_count, data_status_of}
use Rattle.unit.specs.Plan.{action_of, field_action_of, reply_count, planned_for, decided}
use Rattle.unit.specs.Act.{data_for, replied_to}
use Rattle.unit.specs.Granted.{Readable}
use Rattle.unit.specs.declared.fate.Offence.TheVariants.{UnusedCode, WrongKey, WrongAddress}
use Rattle.unit.specs.declared.decide.Action.{Action}
use Rattle.unit.specs.declared.decide.Action.TheVariants.{Nothing, ReadMemory, RepeatByte}
use Rattle.unit.specs.declared.decide.Plan.{Plan}
use Rattle.unit.specs.declared.unit.Unit.{Unit as TheUnit}
use Rattle.unit.proofs.FateLaws.{passed, success_byte}
use Rattle.std.proofs.lemmas.List.FromFn.{length-range_with_len}
use Rattle.unit.proofs.FieldLaws.{length_fields}
use Rattle.unit.proofs.DecideLaws.{write_bit, fields_passed, named_passed, names_length, opened}
use Rattle.unit.proofs.PlanLaws.{memory_action_in, field_action_in, planned_is, decided_is}
use Rattle.unit.proofs.GrantLaws.{accepted_memory}

-- ---- the code

-- a header that was accepted has a code that is used
used_code : (h : Header) (key logical : ℕ) → is_success (opening_status h key logical) ≡ true → is_unused (kind_in h) ≡ false
unfolding opening_status
used_code h key logical s =
    let other = not (eqb (type_of h.instruction) 1) in
    let rest = cond (not (eqb h.key key)) (Err WrongKey) (cond (not (eqb h.target logical) && not (eqb h.target 0xFE)) (Err WrongAddress) (Ok tt)) in
    (either_false other (is_unused (kind_in h)) (passed (other || is_unused (kind_in h)) (Err UnusedCode) rest refl s).0).1

pub accepted_code : (u : TheUnit) (h : Header) (path : Path) (link : ℕ) → is_success (header_status u h path link) ≡ true → is_unused (kind_in h) ≡ false
accepted_code u h path link s = ⊎_elim (used_code h u.key u.logical) (used_code h 0x00 0xFE) (opened u h path link s)

-- ---- the data of an obeyed command without the write bit: L bytes, and L/2 for RMW

module _ (u : TheUnit) (h : Header) (link : ℕ) (m : List ℕ) where
  read_count : (s : Bool) → Readable (cond s (ReadMemory h.address h.length) (RepeatByte h.address h.length)) (length m)
      → length (data_for (cond s (ReadMemory h.address h.length) (RepeatByte h.address h.length)) u link m) ≡ h.length
  unfolding data_for
  read_count true g = length_part h.address h.length m g
  read_count false g = length-replicate h.length (get_or m h.address 0)

  memory_count : (kind : Kind) (status : Status) (from k : ℕ) → is_success status ≡ true → is_unused kind ≡ false → (kind ≡ Write → ⊥)
      → Readable (action_of kind h status from k) (length m)
      → cond (is_rmw kind) (h.length / 2) h.length ≡ length (data_for (action_of kind h status from k) u link m)
  unfolding data_for
  memory_count Unused status from k e used w g = absurd (false≢true (sym used))
  memory_count Read status from k e used w g = rw e (sym (read_count (is_incrementing h.instruction) (rw e at g)))
  memory_count ReadModifyWrite status from k e used w g = rw e (sym (length_part h.address (h.length / 2) m (rw e at g)))
  memory_count Write status from k e used w g = absurd (w refl)

  field_count_law : (kind : Kind) (p : List ℕ) (from : ℕ) → is_field_length kind h.length ≡ true → is_unused kind ≡ false → (kind ≡ Write → ⊥)
      → cond (is_rmw kind) (h.length / 2) h.length ≡ length (data_for (field_action_of kind h p from) u link m)
  unfolding data_for
  field_count_law Unused p from l used w = absurd (false≢true (sym used))
  field_count_law Read p from l used w =
      let four = eqb-true (h.length % 4) 0 (first_true (eqb (h.length % 4) 0) (leb 4 h.length) (first_true (eqb (h.length % 4) 0 && leb 4 h.length) (leb h.length 64) l)) in
      let n = length-range_with_len h.address (h.length / 4) in
      omega (arith, four, n, length_fields (values_of u.fields u.owner u.clock.last u.links link) (named h.address (h.length / 4)))
  field_count_law ReadModifyWrite p from l used w = let eight = eqb-true h.length 8 l in omega (arith, eight)
  field_count_law Write p from l used w = absurd (w refl)

-- ---- the plan's length

carries_passed : (h : Header) (s : Status) → carries_data h (byte_of s) ≡ true → (is_write h.instruction ≡ false) × (is_success s ≡ true)
carries_passed h s e =
    let w = is_write h.instruction in
    (not-true w (first_true (not w) (eqb (byte_of s) 0) e), success_byte s ∙ second_true (not w) (eqb (byte_of s) 0) e)

module _ (u : TheUnit) (h : Header) (path : Path) (p : Arrived) (m : List ℕ) (room : ℕ) where
  -- a plan that replies has counted its data, and they have room
  abbrev Counted : Plan → Type 0
  Counted plan =
      fate_number plan.fate ≡ 20
      → (carries_data h (byte_of plan.status) ≡ true → reply_count h ≡ length (data_for plan.action u p.link m))
      × (plan.length ≡ reply_length path h (byte_of plan.status) (reply_count h))
      × (plan.length ≤ room)

  planned_counts : (s : Status) (a : Action) → (carries_data h (byte_of s) ≡ true → reply_count h ≡ length (data_for a u p.link m))
      → Counted (planned_for h path s a room)
  planned_counts s a f =
      planned_is h path s a room Counted (λ w l n. absurd (omega (arith, n))) (λ w l n. (f, refl, l)) (λ w e n. absurd (omega (arith, n)))
      (λ w o e n. absurd (omega (arith, n)))

  -- a refused command carries none
  refused_counts : (s : Status) (a : Action) → is_success s ≡ false → Counted (planned_for h path s a room)
  refused_counts s a e = planned_counts s a (λ c. absurd (false≢true (sym e ∙ (carries_passed h s c).1)))

  no_write : (s : Status) → carries_data h (byte_of s) ≡ true → kind_in h ≡ Write → ⊥
  no_write s c k = false≢true (sym (carries_passed h s c).0 ∙ write_bit h k)

  pub counted : usable u (length m) ≡ true → header_size h.instruction ≤ length p.packet → Counted (decided u h path p room)
  unfolding reply_count
  counted works whole =
      decided_is u h path (all_at_hand h p) p.end p.link room Counted
      (λ s. refused_counts (header_status u h path p.link) Nothing s)
      (λ e s. planned_counts status (memory_action_in h p)
      (λ c. memory_count u h p.link m (kind_in h) status from (data_count h (all_at_hand h p)) (carries_passed h status c).1 (accepted_code u h path p.link s) (no_write status c)
      (accepted_memory u h path p (length m) works whole e s).0))
      (λ e s. planned_counts status (field_action_in h p) (λ c. with_fields_law e s c))
    where
      from : ℕ
      from = header_size h.instruction

      status : Status
      status = data_status_of h p

      with_fields_law : (h.protocol ≡ 0x01 → ⊥) → is_success (header_status u h path p.link) ≡ true → carries_data h (byte_of status) ≡ true
          → cond (is_rmw (kind_in h)) (h.length / 2) h.length ≡ length (data_for (field_action_in h p) u p.link m)
      with_fields_law e s c =
          let f = names_length h (named_passed u.owner h path p.link (fields_passed u h path p.link e s)).0 in
          rw (carries_passed h status c).1 (field_count_law u h p.link m (kind_in h) p.packet from f (accepted_code u h path p.link s) (no_write status c))

-- ---- the buffer

-- where the fate is 20, the answer's length is that of the reply, and all of it stands at the buffer's start
module _ (u : TheUnit) (h : Header) (path : Path) (p : Arrived) (lent : Lent) where
  abbrev plan : Plan
  plan = decided u h path p (length lent.reply)

  -- what is written
  abbrev pub reply_in : List ℕ
  reply_in = reply_of path h (byte_of plan.status) (data_for plan.action u p.link lent.memory)

  pub reply_written : usable u (length lent.memory) ≡ true → header_size h.instruction ≤ length p.packet → h.length < 256 ^ 3
      → fate_number plan.fate ≡ 20
      → (plan.length ≡ length reply_in) × (replied_to plan u h path p.link lent ≡ placed 0 reply_in lent.reply) × (plan.length ≤ length lent.reply)
  unfolding replied_to replied reply_count
  reply_written works whole small n =
      let status = byte_of plan.status in
      let d = data_for plan.action u p.link lent.memory in
      let c = counted u h path p lent.memory (length lent.reply) works whole n in
      let same = same_length path h status (reply_count h) (length d) c.0 in
      let few : carried_count h status (length d) < 256 ^ 3 = few_data (carries_data h status) (reply_count h) (length d) c.0 (half (is_rmw (kind_in h))) in (
        c.1 ∙ same ∙ sym (length_reply path h status d),
        rw (
          eq-eqb _ _ n,
          lt-ltb (carried_count h status (length d)) (256 ^ 3) few,
          le-leb (reply_length path h status (length d)) (length lent.reply) (omega (arith, c.1, c.2, same)),
        ),
        c.2,
      )
    where
      few_data : (t : Bool) (k l : ℕ) → (t ≡ true → k ≡ l) → k < 256 ^ 3 → cond t l 0 < 256 ^ 3
      few_data true k l f b = let e = f refl in omega (arith, e, b)
      few_data false k l f b = omega arith

      half : (t : Bool) → cond t (h.length / 2) h.length < 256 ^ 3
      half true = omega (arith, small)
      half false = small
