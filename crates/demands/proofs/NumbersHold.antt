-- Demand 1, which number is given, holds: 1, 2 and 3 exactly where they are due, the small calls, and the list of numbers and statuses.
use Rattle.std.proofs.Common.{Ok, Err}
use Rattle.std.specs.Prelude.{Ok, Err}
use mathlib.Core.Path.{◌≡◌, refl, sym, ◌∙◌}
use mathlib.Core.Bool.{true, false≢true}
use mathlib.Core.Logic.{inl, inr, ◌↔◌}
use Prim.Native.Nat.{ℕ, ◌%◌, ◌^◌, ◌≤◌}
use native.Mathlib.Omega.{arith}
use lib.Dec.{eqb}
use lib.ListN.{length}
use Rattle.packets.specs.Reading.{number_of}
use Rattle.packets.specs.declared.header.Header.{Header}
use Rattle.packets.specs.declared.reading.Packet.TheVariants.{Time}
use Rattle.packets.specs.declared.reading.Refusal.{Refusal}
use Rattle.packets.specs.declared.reading.Refusal.TheVariants.{Incomplete, UnknownProtocol, ExtendedProtocol, Reply, HeaderCrc}
use Rattle.unit.specs.Some.{some}
use Rattle.unit.specs.Fate.{Status, byte_of, fate_number, fate_status}
use Rattle.unit.specs.Clock.{after_code, after_ticks}
use Rattle.unit.specs.Usable.{usable}
use Rattle.unit.specs.Act.{with_clock}
use Rattle.unit.specs.Given.{Arrived, as_read, Lent}
use Rattle.unit.specs.Decide.{all_at_hand}
use Rattle.unit.specs.Judge.{is_link}
use Rattle.unit.specs.Calls.{take_packet, small_call, take_time_code, take_ticks}
use Rattle.unit.specs.declared.fate.Offence.TheVariants.{UnusedCode, WrongKey, DataCrc, EarlyEop, TooMuchData, EndedByEep, VerifyOverrun}
use Rattle.unit.specs.declared.fate.Offence.TheVariants.{NotAuthorised, RmwLength, WrongAddress, NotOwner, NoSuchField, ReadOnlyField, PlainDeviceId}
use Rattle.unit.specs.declared.fate.Fate.{Fate}
use Rattle.unit.specs.declared.fate.Fate.TheVariants.{Unread}
use Rattle.unit.specs.declared.clock.Clock.{Clock}
use Rattle.unit.specs.declared.unit.Unit.{Unit as TheUnit}
use Rattle.unit.proofs.FateLaws.{unread_number}
use Rattle.unit.proofs.PlanLaws.{plan_status, roomless_plan}
use Rattle.unit.proofs.CommandLaws.{take_command, packet_is, small_is, command_fate}
use Rattle.unit.proofs.UsableLaws.{code_is}
use Rattle.packets.proofs.ReadingLaws.{not_command, one_command}
use Rattle.demands.specs.Terminal.{ours, read_of, IsCommand, path_in}
use Rattle.demands.specs.Refusals.{LacksRoom, Exactly, OneTwoThree, SmallRow, ByCode, ByTicks, SmallRows, numbers, statuses, Carries, Listed}

-- ---- 1 goes before 2, 2 before all else; and 3

module _ (u : TheUnit) (p : Arrived) (lent : Lent) where
  abbrev Works : Type 0
  Works = usable u (length lent.memory) ≡ true

  -- past 1 and 2
  later : Works → is_link u p.link ≡ true → (n : ℕ) → 3 ≤ n → (n ≡ 3) ↔ LacksRoom u p lent → Exactly u p lent n
  later e f n high three = (
    (λ k. absurd (omega (arith, k, high)), λ g. absurd (false≢true (sym g ∙ e))),
    (λ k. absurd (omega (arith, k, high)), λ g. absurd (false≢true (sym g.1 ∙ f))),
    (λ k. (e, f, three.0 k), λ g. three.1 g.2),
  )

  -- no command
  never : Works → is_link u p.link ≡ true → (n : ℕ) → 11 ≤ n → ((h : Header) → IsCommand u p h → ⊥) → Exactly u p lent n
  never e f n high none = later e f n (omega (arith, high)) (λ k. absurd (omega (arith, k, high)), λ g. absurd (none g.0 g.1))

  -- a command
  command_three : (h : Header) → IsCommand u p h → (fate_number (take_command u h (path_in u p) (as_read p) lent).answer.fate ≡ 3) ↔ (LacksRoom u p lent)
  unfolding take_command
  command_three h is =
      let path = path_in u p in
      let plan = roomless_plan u h path (all_at_hand h (as_read p)) p.end p.link (length lent.reply) in
      let status = plan_status u h path (all_at_hand h (as_read p)) p.end p.link (length lent.reply) in (
        λ n. let x = plan.0 n in (h, is, x.0, rw status at x.1),
        λ too.
            let same = one_command (read_of u p) h too.0 is too.1 in
            plan.1 (rw same at too.2, rw status (rw same at too.3)),
      )

  one_two_three_of : Exactly u p lent (fate_number (take_packet u p lent).answer.fate)
  one_two_three_of =
      packet_is u p lent (λ o. Exactly u p lent (fate_number o.answer.fate))
      (λ e. (
        (λ n. e, λ f. refl),
        (λ n. absurd (omega (arith, n)), λ f. absurd (false≢true (sym e ∙ f.0))),
        (λ n. absurd (omega (arith, n)), λ f. absurd (false≢true (sym e ∙ f.0))),
      ))
      (λ e f. (
        (λ n. absurd (omega (arith, n)), λ g. absurd (false≢true (sym g ∙ e))),
        (λ n. (e, f), λ g. refl),
        (λ n. absurd (omega (arith, n)), λ g. absurd (false≢true (sym f ∙ g.1))),
      ))
      (λ e f why g. never e f (number_of why) (unread_number why).0 (λ h is. not_command (Err why) (omega arith) (sym g ∙ is)))
      (λ e f g. never e f 16 (omega arith) (λ h is. not_command (Ok Time) (omega arith) (sym g ∙ is)))
      (λ e f g t. never e f 19 (omega arith) (λ h is. not_command (Ok Time) (omega arith) (sym g ∙ is)))
      (λ e f h g. later e f (fate_number (take_command u h (path_in u p) (as_read p) lent).answer.fate)
      (command_fate u h (path_in u p) (as_read p) lent (λ f. 3 ≤ fate_number f) (omega arith) (λ s. omega arith) (λ o. omega arith) (omega arith))
      (command_three h g))

pub one_two_three : OneTwoThree ours
one_two_three = one_two_three_of

-- ---- the small calls

small_row : (Moved : Clock → Type 0) (u : TheUnit) (c : Clock) → Moved c → SmallRow Moved u (small_call u (with_clock u c))
small_row Moved u c moved =
    small_is u (with_clock u c) (SmallRow Moved u) (λ e. inl (e, refl, refl, refl)) (λ e. inr (e, refl, refl, moved, refl))

-- always v becomes last
code_last : (c : Clock) (v : ℕ) → (after_code c v).last ≡ v
code_last c v = code_is c v (λ k. k.last ≡ v) refl refl refl

pub small_rows : SmallRows ours
unfolding take_time_code take_ticks after_ticks
small_rows = (
  λ u byte. small_row (ByCode u byte) u (after_code u.clock (byte % 2 ^ 6)) (refl, code_last u.clock (byte % 2 ^ 6)),
  λ u count. small_row (ByTicks u count) u (after_ticks u.clock count) (refl, refl, refl),
)

-- ---- the numbers and statuses

status_listed : (s : Status) → some (eqb (byte_of s)) statuses ≡ true
status_listed (Ok done) = refl
status_listed (Err UnusedCode) = refl
status_listed (Err WrongKey) = refl
status_listed (Err DataCrc) = refl
status_listed (Err EarlyEop) = refl
status_listed (Err TooMuchData) = refl
status_listed (Err EndedByEep) = refl
status_listed (Err VerifyOverrun) = refl
status_listed (Err NotAuthorised) = refl
status_listed (Err RmwLength) = refl
status_listed (Err WrongAddress) = refl
status_listed (Err NotOwner) = refl
status_listed (Err NoSuchField) = refl
status_listed (Err ReadOnlyField) = refl
status_listed (Err PlainDeviceId) = refl

abbrev Lists : Fate → Type 0
Lists f = (some (eqb (fate_number f)) numbers ≡ true) × Carries (fate_number f) (fate_status f)

unread_listed : (why : Refusal) → Lists (Unread why)
unread_listed Incomplete = (refl, refl)
unread_listed UnknownProtocol = (refl, refl)
unread_listed ExtendedProtocol = (refl, refl)
unread_listed Reply = (refl, refl)
unread_listed HeaderCrc = (refl, refl)

pub listed : Listed ours
listed u p lent =
    packet_is u p lent (λ o. Lists o.answer.fate) (λ e. (refl, refl)) (λ e f. (refl, refl)) (λ e f why g. unread_listed why)
    (λ e f g. (refl, refl)) (λ e f g t. (refl, refl))
    (λ e f h g. command_fate u h (path_in u p) (as_read p) lent Lists (refl, refl) (λ s. (refl, (refl, status_listed s)))
    (λ o. (refl, (refl, status_listed (Err o)))) (refl, (refl, refl)))
