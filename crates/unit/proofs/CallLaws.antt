-- Laws of calls: what fates 1, 2 and 3 leave; the lengths of memory, reply buffer and reply; fate and length of the reply are as judged.
use Rattle.std.proofs.Common.{◌≡◌, ℕ, ◌%◌, ◌^◌, ◌≤◌, List, length, sym, refl, ap, ◌∙◌, arith, Ok, Err}
use Rattle.packets.specs.Reading.{read_packet, path_read}
use Rattle.packets.specs.Reply.{replied}
use Rattle.packets.specs.declared.header.Header.{Header}
use Rattle.packets.specs.declared.path.Path.{Path}
use Rattle.packets.proofs.ReadingLaws.{header_whole}
use Rattle.packets.proofs.ReplyLaws.{length_replied}
use Rattle.unit.specs.Fate.{Status, fate_number}
use Rattle.unit.specs.Clock.{after_code, after_ticks}
use Rattle.unit.specs.Act.{with_clock}
use Rattle.unit.specs.Given.{Arrived, as_read, Lent, sizes_of}
use Rattle.unit.specs.Decide.{header_status, all_at_hand, data_status_of}
use Rattle.unit.specs.Plan.{unanswered_fate}
use Rattle.unit.specs.Judge.{judged, fate_in, length_in}
use Rattle.unit.specs.Calls.{Outcome, without_reply, leaving, take_packet, take_time_code, take_ticks, done}
use Rattle.unit.specs.declared.fate.Fate.TheVariants.{Replied}
use Rattle.unit.specs.declared.judging.Sizes.{Sizes}
use Rattle.unit.specs.declared.judging.Ruling.{Ruling}
use Rattle.unit.specs.declared.judging.Ruling.TheVariants.{Ends, SetsTime, Planned}
use Rattle.unit.specs.declared.unit.Unit.{Unit as TheUnit}
use Rattle.unit.proofs.FateLaws.{unread_number}
use Rattle.unit.proofs.PlanLaws.{plan_fits}
use Rattle.unit.proofs.MemoryLaws.{memory_length}
use Rattle.unit.proofs.CommandLaws.{take_command, packet_is, small_is, command_is}

-- a command without a reply has a number above 3
silent_high : (s : Status) → fate_number (unanswered_fate s) ≤ 3 → ⊥
silent_high (Ok done) l = omega arith
silent_high (Err offence) l = omega arith

module _ (u : TheUnit) (p : Arrived) where
  abbrev path : Path
  path = path_read (read_packet (as_read p).packet u.number)

  module _ (lent : Lent) where
    -- fates 1, 2 and 3 leave everything
    abbrev Leaves : Outcome → Type 0
    Leaves o = fate_number o.answer.fate ≤ 3 → o ≡ leaving (without_reply o.answer.fate u) lent

    pub low_leaves : Leaves (take_packet u p lent)
    low_leaves =
        packet_is u p lent Leaves (λ e l. refl) (λ e f l. refl) (λ e f why g l. absurd (omega (arith, (unread_number why).0, l))) (λ e f g l. absurd (omega (arith, l)))
        (λ e f g t l. absurd (omega (arith, l)))
        (λ e f h g. command_is u h path (as_read p) lent Leaves (λ l. refl) (λ a. high (header_status u h path p.link)) (λ q a. high (data_status_of h (as_read p))) (λ q a. high (data_status_of h (as_read p))))
      where
        high : {A B C D : Type 0} (s : Status) → (A → fate_number (Replied s) ≤ 3 → C) × (B → fate_number (unanswered_fate s) ≤ 3 → D)
        high s = (λ w l. absurd (omega (arith, l)), λ w l. absurd (silent_high s l))

    -- memory and reply buffer keep their length, whatever the packet
    abbrev Long : Outcome → Type 0
    Long o = (length o.memory ≡ length lent.memory) × (length o.reply ≡ length lent.reply)

    pub packet_length : Long (take_packet u p lent)
    packet_length =
        packet_is u p lent Long (λ e. (refl, refl)) (λ e f. (refl, refl)) (λ e f why g. (refl, refl)) (λ e f g. (refl, refl)) (λ e f g t. (refl, refl))
        (λ e f h g. command_is u h path (as_read p) lent Long (refl, refl) (λ a. (λ w. (refl, buffer h _ _), λ w. (refl, refl)))
        (λ q a.
        let l = memory_length u h path (as_read p) lent.memory e (header_whole (as_read p).packet u.number h g) q a in
        (λ w. (l, buffer h _ _), λ w. (l, refl)))
        (λ q a. (λ w. (refl, buffer h _ _), λ w. (refl, refl))))
      where
        buffer : (h : Header) (s : ℕ) (d : List ℕ) → length (replied path h s d lent.reply) ≡ length lent.reply
        buffer h s d = length_replied path h s d lent.reply

    -- and the reply fits into its buffer
    pub reply_fits_law : (take_packet u p lent).answer.length ≤ length lent.reply
    unfolding take_command
    reply_fits_law =
        packet_is u p lent (λ o. o.answer.length ≤ length lent.reply) (λ e. omega arith) (λ e f. omega arith) (λ e f why g. omega arith)
        (λ e f g. omega arith) (λ e f g t. omega arith) (λ e f h g. plan_fits u h path (all_at_hand h (as_read p)) p.end p.link (length lent.reply))

  -- ---- what is judged is what becomes of it

  told_by : (r : Ruling) (lent : Lent)
      → ((done r u (as_read p).packet p.link lent).answer.fate ≡ fate_in r) × ((done r u (as_read p).packet p.link lent).answer.length ≡ length_in r)
  told_by (Ends fate) lent = (refl, refl)
  told_by (SetsTime t) lent = (refl, refl)
  told_by (Planned c plan) lent = (refl, refl)

  -- fate, with its status, and length of the reply are those of the ruling
  pub as_judged : (lent : Lent)
      → ((take_packet u p lent).answer.fate ≡ fate_in (judged u (as_read p) (sizes_of lent)))
      × ((take_packet u p lent).answer.length ≡ length_in (judged u (as_read p) (sizes_of lent)))
  unfolding take_packet
  as_judged lent = told_by (judged u (as_read p) (sizes_of lent)) lent

  -- so of what is lent only the sizes tell them (and of the counters nothing does: judged_aside)
  pub by_sizes : (lent other : Lent) → sizes_of lent ≡ sizes_of other
      → ((take_packet u p lent).answer.fate ≡ (take_packet u p other).answer.fate) × ((take_packet u p lent).answer.length ≡ (take_packet u p other).answer.length)
  by_sizes lent other e =
      let a = as_judged lent in
      let b = as_judged other in
      (a.0 ∙ ap (λ (n : Sizes). fate_in (judged u (as_read p) n)) e ∙ sym b.0, a.1 ∙ ap (λ (n : Sizes). length_in (judged u (as_read p) n)) e ∙ sym b.1)

-- a small call has no reply
pub code_length : (u : TheUnit) (byte : ℕ) → (take_time_code u byte).length ≡ 0
unfolding take_time_code
code_length u byte = small_is u (with_clock u (after_code u.clock (byte % 2 ^ 6))) (λ a. a.length ≡ 0) (λ e. refl) (λ e. refl)

pub ticks_length : (u : TheUnit) (ticks : ℕ) → (take_ticks u ticks).length ≡ 0
unfolding take_ticks
ticks_length u ticks = small_is u (with_clock u (after_ticks u.clock ticks)) (λ a. a.length ≡ 0) (λ e. refl) (λ e. refl)
