-- Laws of plans: what holds of every plan, from what holds of what its halves chose.
use Rattle.std.proofs.Common.{◌≡◌, ℕ, ◌/◌, ◌<◌, ◌≤◌, min, Bool, true, false, cond, not, ◌&&◌, eqb, ltb, ◌↔◌, sym, refl, ap, ◌∙◌, arith, ltb-false, ltb-true, eqb-true, Ok, Err}
use mathlib.Core.Bool.{false≢true}
use borrow.Author.Tests.{eqb-false}
use Rattle.packets.specs.Instruction.{is_verified, is_incrementing, wants_reply, header_size}
use Rattle.packets.specs.Reply.{reply_length}
use Rattle.packets.specs.declared.instruction.Kind.{Kind}
use Rattle.packets.specs.declared.instruction.Kind.TheVariants.{Unused, Read, ReadModifyWrite, Write}
use Rattle.packets.specs.declared.header.Header.{Header}
use Rattle.packets.specs.declared.path.Path.{Path}
use Rattle.packets.specs.declared.reading.End.{End}
use Rattle.unit.specs.Fate.{Status, byte_of, is_success, or_else, fate_number}
use Rattle.unit.specs.Given.{Arrived}
use Rattle.unit.specs.Decide.{header_status, AtHand, all_at_hand, data_count, data_status_on, data_status_of}
use Rattle.unit.specs.Plan.{action_of, memory_action, field_action, reply_count, unanswered_fate, planned_for, decided_by_data, decided_on}
use Rattle.unit.specs.declared.fate.Offence.{Offence}
use Rattle.unit.specs.declared.fate.Fate.{Fate}
use Rattle.unit.specs.declared.fate.Fate.TheVariants.{TimeChanged, Unusable, NoSuchLink, NoRoom, Unread, TimeThrownAway, NotObeyed, Obeyed, TimeTaken, Replied}
use Rattle.unit.specs.declared.decide.Action.{Action}
use Rattle.unit.specs.declared.decide.Action.TheVariants.{Nothing, ReadMemory, RepeatByte, Store, StoreLast, Combine}
use Rattle.unit.specs.declared.decide.Plan.{Plan}
use Rattle.unit.specs.declared.unit.Unit.{Unit as TheUnit}

-- ---- a memory action is nothing, or goes by the kind of the command and its increment bit

pub action_is : (P : Action → Type 0) (kind : Kind) (h : Header) (s : Status) (from k : ℕ) → P Nothing
    → (kind ≡ Read → is_success s ≡ true → is_incrementing h.instruction ≡ true → P (ReadMemory h.address h.length))
    → (kind ≡ Read → is_success s ≡ true → is_incrementing h.instruction ≡ false → P (RepeatByte h.address h.length))
    → (kind ≡ ReadModifyWrite → is_success s ≡ true → P (Combine h.address from (h.length / 2)))
    → (kind ≡ Write → is_incrementing h.instruction ≡ true → P (Store h.address from (min k h.length)))
    → (kind ≡ Write → is_incrementing h.instruction ≡ false → P (StoreLast h.address from (min k h.length)))
    → P (action_of kind h s from k)
action_is P Unused h s from k none read repeat combine store last = none
action_is P Read h s from k none read repeat combine store last = go (is_success s) (is_incrementing h.instruction) refl refl
  where
    go : (t b : Bool) → is_success s ≡ t → is_incrementing h.instruction ≡ b
        → P (cond t (cond b (ReadMemory h.address h.length) (RepeatByte h.address h.length)) Nothing)
    go true true e f = read refl e f
    go true false e f = repeat refl e f
    go false b e f = none
action_is P ReadModifyWrite h s from k none read repeat combine store last = go (is_success s) refl
  where
    go : (t : Bool) → is_success s ≡ t → P (cond t (Combine h.address from (h.length / 2)) Nothing)
    go true e = combine refl e
    go false e = none
action_is P Write h s from k none read repeat combine store last = go (is_verified h.instruction && not (is_success s)) (is_incrementing h.instruction) refl
  where
    go : (t b : Bool) → is_incrementing h.instruction ≡ b
        → P (cond t Nothing (cond b (Store h.address from (min k h.length)) (StoreLast h.address from (min k h.length))))
    go true b f = none
    go false true f = store refl f
    go false false f = last refl f

-- ---- the actions of a packet that is all at hand, and whose header is accepted

abbrev pub memory_action_in : Header → Arrived → Action
memory_action_in h p = memory_action h (data_status_of h p) (header_size h.instruction) (data_count h (all_at_hand h p))

abbrev pub field_action_in : Header → Arrived → Action
field_action_in h p = field_action h (data_status_of h p) p.packet (header_size h.instruction)

-- ---- a plan is one of four: no room for its reply, a reply, or, where none was asked for, obeyed or refused

module _ (h : Header) (path : Path) (s : Status) (a : Action) (room : ℕ) where
  abbrev due : ℕ
  due = reply_length path h (byte_of s) (reply_count h)

  pub planned_is : (Q : Plan → Type 0)
      → (wants_reply h.instruction ≡ true → room < due → Q (record { fate = NoRoom; status = s; action = Nothing; length = 0 }))
      → (wants_reply h.instruction ≡ true → due ≤ room → Q (record { fate = Replied s; status = s; action = a; length = due }))
      → (wants_reply h.instruction ≡ false → s ≡ Ok tt → Q (record { fate = Obeyed; status = s; action = a; length = 0 }))
      → (wants_reply h.instruction ≡ false → (offence : Offence) → s ≡ Err offence → Q (record { fate = NotObeyed (Err offence); status = s; action = a; length = 0 }))
      → Q (planned_for h path s a room)
  unfolding planned_for
  planned_is Q none reply obeyed refused = go (wants_reply h.instruction) (ltb room due) s refl refl refl
    where
      go : (w b : Bool) (t : Status) → wants_reply h.instruction ≡ w → ltb room due ≡ b → s ≡ t
          → Q (cond w (cond b (record { fate = NoRoom; status = s; action = Nothing; length = 0 })
          (record { fate = Replied s; status = s; action = a; length = due }))
          (record { fate = unanswered_fate t; status = s; action = a; length = 0 }))
      go true true t e f g = none e (ltb-true room due f)
      go true false t e f g = reply e (ltb-false room due f)
      go false b (Ok done) e f g = obeyed e g
      go false b (Err offence) e f g = refused e offence g

-- it has the status it is given, and does what was to be done, or nothing
pub planned_has : (P : Status → Action → Type 0) (h : Header) (path : Path) (status : Status) (action : Action) (room : ℕ)
    → P status Nothing → P status action → P (planned_for h path status action room).status (planned_for h path status action room).action
planned_has P h path status action room none some =
    planned_is h path status action room (λ plan. P plan.status plan.action) (λ w l. none) (λ w l. some) (λ w e. some) (λ w o e. some)

-- ---- a decision

abbrev status_in : Status → Fate → Status
status_in s f = elim f [ TimeChanged ↦ s | Unusable ↦ s | NoSuchLink ↦ s | NoRoom ↦ s | Unread why ↦ s | TimeThrownAway ↦ s | NotObeyed t ↦ s | Obeyed ↦ s | TimeTaken ↦ s | Replied t ↦ t ]

-- a plan is for one of three: the header's refusal, a memory action, or a field action that the header allowed
module _ (u : TheUnit) (h : Header) (path : Path) (hand : AtHand) (end : End) (link room : ℕ) where
  abbrev from : ℕ
  from = header_size h.instruction

  abbrev status : Status
  status = data_status_on h hand end

  abbrev accepted : Bool → Type 0
  accepted t = is_success (header_status u h path link) ≡ t

  pub decided_is : (Q : Plan → Type 0) → (accepted false → Q (planned_for h path (header_status u h path link) Nothing room))
      → (h.protocol ≡ 0x01 → accepted true → Q (planned_for h path status (memory_action h status from (data_count h hand)) room))
      → ((h.protocol ≡ 0x01 → ⊥) → accepted true → Q (planned_for h path status (field_action h status hand.bytes from) room))
      → Q (decided_on u h path hand end link room)
  unfolding decided_on decided_by_data
  decided_is Q refused memory fields = go (is_success (header_status u h path link)) (eqb h.protocol 0x01) refl refl
    where
      chosen : Bool → Action
      chosen b = cond b (memory_action h status from (data_count h hand)) (field_action h status hand.bytes from)

      go : (t b : Bool) → accepted t → eqb h.protocol 0x01 ≡ b
          → Q (cond t (planned_for h path status (chosen b) room) (planned_for h path (header_status u h path link) Nothing room))
      go true true s e = memory (eqb-true h.protocol 0x01 e) s
      go true false s e = fields (eqb-false h.protocol 0x01 e) s
      go false b s e = refused s

  -- so what holds of nothing, of the memory action and of the field action, holds of every plan
  pub decided_has : (P : Status → Action → Type 0) → ((s : Status) → P s Nothing)
      → (h.protocol ≡ 0x01 → accepted true → P status (memory_action h status from (data_count h hand)))
      → ((h.protocol ≡ 0x01 → ⊥) → accepted true → P status (field_action h status hand.bytes from))
      → P (decided_on u h path hand end link room).status (decided_on u h path hand end link room).action
  decided_has P none memory fields =
      decided_is (λ plan. P plan.status plan.action)
      (λ s. planned_has P h path (header_status u h path link) Nothing room (none (header_status u h path link)) (none (header_status u h path link)))
      (λ e s. planned_has P h path status (memory_action h status from (data_count h hand)) room (none status) (memory e s))
      (λ e s. planned_has P h path status (field_action h status hand.bytes from) room (none status) (fields e s))

  -- its status is the header's, and the data's where the header has none
  pub plan_status : (decided_on u h path hand end link room).status ≡ or_else (header_status u h path link) status
  plan_status =
      decided_is (λ plan. plan.status ≡ or_else (header_status u h path link) status) (λ a. given (header_status u h path link) Nothing ∙ rw a)
      (λ e a. given status (memory_action h status from (data_count h hand)) ∙ rw a) (λ e a. given status (field_action h status hand.bytes from) ∙ rw a)
    where
      given : (s : Status) (a : Action) → (planned_for h path s a room).status ≡ s
      given s a = planned_is h path s a room (λ plan. plan.status ≡ s) (λ w l. refl) (λ w l. refl) (λ w e. refl) (λ w o e. refl)

  -- where the fate is 3, and nowhere else, the reply that is due is longer than the room
  abbrev Roomless : Plan → Type 0
  Roomless plan =
      (fate_number plan.fate ≡ 3) ↔ ((wants_reply h.instruction ≡ true) × (room < reply_length path h (byte_of plan.status) (reply_count h)))

  pub roomless_plan : Roomless (decided_on u h path hand end link room)
  roomless_plan =
      decided_is Roomless (λ a. planned (header_status u h path link) Nothing) (λ e a. planned status (memory_action h status from (data_count h hand)))
      (λ e a. planned status (field_action h status hand.bytes from))
    where
      planned : (s : Status) (a : Action) → Roomless (planned_for h path s a room)
      planned s a =
          planned_is h path s a room Roomless (λ w l. (λ n. (w, l), λ x. refl)) (λ w l. (λ n. absurd (omega (arith, n)), λ x. absurd (omega (arith, l, x.1))))
          (λ w e. (λ n. absurd (omega (arith, n)), λ x. absurd (false≢true (sym w ∙ x.0)))) (λ w o e. (λ n. absurd (omega (arith, n)), λ x. absurd (false≢true (sym w ∙ x.0))))

  -- the reply fits into the room, or there is none
  abbrev Fits : Plan → Type 0
  Fits plan = plan.length ≤ room

  pub plan_fits : Fits (decided_on u h path hand end link room)
  plan_fits =
      decided_is Fits (λ a. planned (header_status u h path link) Nothing) (λ e a. planned status (memory_action h status from (data_count h hand)))
      (λ e a. planned status (field_action h status hand.bytes from))
    where
      planned : (s : Status) (a : Action) → Fits (planned_for h path s a room)
      planned s a = planned_is h path s a room Fits (λ w l. omega arith) (λ w l. l) (λ w e. omega arith) (λ w o e. omega arith)

  -- where it is 20 its status is the plan's, and a reply was asked for
  abbrev RepliesWith : Status → Plan → Type 0
  RepliesWith s plan = plan.fate ≡ Replied s → (plan.status ≡ s) × (wants_reply h.instruction ≡ true)

  pub replied_plan : (s : Status) → RepliesWith s (decided_on u h path hand end link room)
  replied_plan s =
      decided_is (RepliesWith s) (λ a. planned (header_status u h path link) Nothing) (λ e a. planned status (memory_action h status from (data_count h hand)))
      (λ e a. planned status (field_action h status hand.bytes from))
    where
      planned : (t : Status) (a : Action) → RepliesWith s (planned_for h path t a room)
      planned t a =
          planned_is h path t a room (RepliesWith s) (λ w l f. absurd (omega (arith, ap fate_number f))) (λ w l f. (ap (status_in t) f, w))
          (λ w e f. absurd (omega (arith, ap fate_number f))) (λ w o e f. absurd (omega (arith, ap fate_number f)))

  -- and where that is 0, what holds of the data of the action holds of the plan's
  abbrev Carries : (Action → Type 0) → Plan → Type 0
  Carries P plan = fate_number plan.fate ≡ 20 → is_success plan.status ≡ true → P plan.action

  pub carried_plan : (P : Action → Type 0) → (h.protocol ≡ 0x01 → is_success status ≡ true → P (memory_action h status from (data_count h hand)))
      → ((h.protocol ≡ 0x01 → ⊥) → is_success status ≡ true → P (field_action h status hand.bytes from)) → Carries P (decided_on u h path hand end link room)
  carried_plan P memory fields =
      decided_is (Carries P) (λ a. planned (header_status u h path link) Nothing (λ e. absurd (false≢true (sym a ∙ e))))
      (λ e a. planned status (memory_action h status from (data_count h hand)) (memory e)) (λ e a. planned status (field_action h status hand.bytes from) (fields e))
    where
      planned : (s : Status) (a : Action) → (is_success s ≡ true → P a) → Carries P (planned_for h path s a room)
      planned s a f =
          planned_is h path s a room (Carries P) (λ w l n. absurd (omega (arith, n))) (λ w l n. f) (λ w e n. absurd (omega (arith, n)))
          (λ w o e n. absurd (omega (arith, n)))
