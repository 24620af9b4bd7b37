-- Demand 2, the reply, holds: what the plan counts is what is written, and each part of it ends in its CRC.
use mathlib.Core.Path.{◌≡◌, refl, ◌∙◌, ap}
use mathlib.Core.Bool.{Bool, true, false, cond, not, ◌&&◌}
use mathlib.Core.List.{List, [], ◌∷◌, ◌++◌}
use Prim.Native.Nat.{ℕ, min}
use native.Mathlib.Omega.{arith}
use borrow.Author.Tests.{eq-eqb, ne_eqb}
use lib.Dec.{eqb}
use lib.ListN.{length}
use Rattle.octets.specs.Places.{placed}
use Rattle.octets.specs.Numbers.{Digits, bytes_of}
use Rattle.octets.specs.Crc.{crc, with_crc}
use Rattle.octets.proofs.CrcLaws.{crc_none, crc_checked}
use Rattle.packets.specs.Instruction.{is_write, header_size}
use Rattle.packets.specs.Header.{kind_in}
use Rattle.packets.specs.Reply.{reply_start, reply_head, reply_with, carried, reply_of}
use Rattle.packets.specs.declared.instruction.Kind.{Kind}
use Rattle.packets.specs.declared.instruction.Kind.TheVariants.{Unused, Read, ReadModifyWrite, Write}
use Rattle.packets.specs.declared.header.Header.{Header}
use Rattle.unit.specs.Fate.{Status, byte_of, is_success, fate_number}
use Rattle.unit.specs.Usable.{usable}
use Rattle.unit.specs.Given.{Arrived, as_read, Lent}
use Rattle.unit.specs.Decide.{rmw_count, all_at_hand, data_count, data_status_of}
use Rattle.unit.specs.Plan.{action_of, field_action_of, decided}
use Rattle.unit.specs.Act.{data_for}
use Rattle.unit.specs.Calls.{Outcome}
use Rattle.unit.specs.declared.fate.Fate.TheVariants.{Replied}
use Rattle.unit.specs.declared.unit.Unit.{Unit as TheUnit}
use Rattle.unit.proofs.FateLaws.{unread_number, success_byte}
use Rattle.unit.proofs.PlanLaws.{replied_plan, carried_plan}
use Rattle.unit.proofs.ReplyLaws.{reply_written}
use Rattle.unit.proofs.CommandLaws.{take_command, packet_is}
use Rattle.unit.proofs.MemoryLaws.{read_data, rmw_data, write_data}
use Rattle.packets.proofs.BareLaws.{bare_bytes}
use Rattle.packets.proofs.ReadingLaws.{header_whole, length_below}
use Rattle.demands.specs.Terminal.{ours, IsCommand, path_in}
use Rattle.demands.specs.ReplyDue.{memory_data, field_data, data_due, reply_due, ReplyBytes}
use Rattle.demands.specs.Meaning.{Replies}

-- ---- the reply

-- both CRCs
head_checked : (h : Header) (status n : ℕ) → crc (reply_head h status n) ≡ 0
head_checked h status n = go (is_write h.instruction) (reply_start h status) (reply_start h status ++ (0 ∷ bytes_of 3 n))
  where
    go : (t : Bool) (a b : List ℕ) → crc (cond t (with_crc a) (with_crc b)) ≡ 0
    go true a b = crc_checked a
    go false a b = crc_checked b

data_checked : (t : Bool) (d : List ℕ) → crc (cond t [] (with_crc d)) ≡ 0
data_checked true d = crc_none
data_checked false d = crc_checked d

-- the data
memory_data_law : (kind : Kind) (u : TheUnit) (h : Header) (link : ℕ) (s : Status) (from k : ℕ) (m : List ℕ) → is_success s ≡ true
    → data_for (action_of kind h s from k) u link m ≡ memory_data kind h m
unfolding data_for
memory_data_law Unused u h link s from k m e = refl
memory_data_law Read u h link s from k m e = read_data h.instruction s h.address h.length u link m e
memory_data_law ReadModifyWrite u h link s from k m e = rmw_data s h.address from (rmw_count h) u link m e
memory_data_law Write u h link s from k m e = write_data h.instruction s h.address from (min k h.length) u link m

field_data_law : (kind : Kind) (u : TheUnit) (h : Header) (link : ℕ) (p : List ℕ) (from : ℕ) (m : List ℕ)
    → data_for (field_action_of kind h p from) u link m ≡ field_data kind u h link
unfolding data_for
field_data_law Unused u h link p from m = refl
field_data_law Read u h link p from m = refl
field_data_law ReadModifyWrite u h link p from m = refl
field_data_law Write u h link p from m = refl

module _ (u : TheUnit) (p : Arrived) (lent : Lent) (s : Status) (bytes : Digits 256 p.packet) where
  abbrev Says : Outcome → Type 0
  Says o = o.answer.fate ≡ Replied s → ReplyBytes u p lent s o

  module _ (h : Header) (read : IsCommand u p h) where
    abbrev answered : List ℕ
    answered = cond (eqb h.protocol 0x01) (memory_data (kind_in h) h lent.memory) (field_data (kind_in h) u h p.link)

    -- what is carried is what is due
    due : (d : List ℕ) → (is_success s ≡ true → d ≡ answered) → carried h (byte_of s) d ≡ data_due u p lent h s
    due d f = go (is_write h.instruction) (eqb (byte_of s) 0) (success_byte s)
      where
        go : (w t : Bool) → is_success s ≡ t → cond (not w && t) d [] ≡ cond (not w && t) answered []
        go true t e = refl
        go false true e = f e
        go false false e = refl

    pub command_says : usable u (length lent.memory) ≡ true → Says (take_command u h (path_in u p) (as_read p) lent)
    unfolding take_command reply_with
    command_says works e =
        let path = path_in u p in
        let plan = decided u h path (as_read p) (length lent.reply) in
        let d = data_for plan.action u p.link lent.memory in
        let w = reply_written u h path (as_read p) lent works (header_whole (as_read p).packet u.number h read) (length_below (as_read p).packet u.number h read (bare_bytes p.packet bytes)) (ap fate_number e) in
        let t = replied_plan u h path (all_at_hand h (as_read p)) p.end p.link (length lent.reply) s e in
        let same : carried h (byte_of s) d ≡ data_due u p lent h s = due d (λ f.
        carried_plan u h path (all_at_hand h (as_read p)) p.end p.link (length lent.reply) (λ a. data_for a u p.link lent.memory ≡ answered)
        (λ q g. memory_data_law (kind_in h) u h p.link (data_status_of h (as_read p)) (header_size h.instruction) (data_count h (all_at_hand h (as_read p))) lent.memory g
        ∙ rw (eq-eqb h.protocol 0x01 q))
        (λ q g. rw (g, ne_eqb h.protocol 0x01 q) (field_data_law (kind_in h) u h p.link (as_read p).packet (header_size h.instruction) lent.memory))
        (ap fate_number e) (rw t.0 f)) in
        let reply : reply_of path h (byte_of plan.status) d ≡ reply_due u p lent h s =
        ap (λ (x : Status). reply_of path h (byte_of x) d) t.0 ∙ ap (λ (c : List ℕ). reply_with path h (byte_of s) c) same in
        let long : plan.length ≡ length (reply_due u p lent h s) = w.0 ∙ ap length reply in (
          h,
          read,
          t.1,
          (w.1 ∙ ap (λ (b : List ℕ). placed 0 b lent.reply) reply, long, rw long at w.2),
          head_checked h (byte_of s) (length (data_due u p lent h s)),
          data_checked (is_write h.instruction) (data_due u p lent h s),
        )

pub replies : Replies ours
replies u p lent s bytes =
    packet_is u p lent (Says u p lent s bytes)
    (λ e n. absurd (omega (arith, ap fate_number n))) (λ e f n. absurd (omega (arith, ap fate_number n)))
    (λ e f why g n. absurd (omega (arith, (unread_number why).1, ap fate_number n))) (λ e f g n. absurd (omega (arith, ap fate_number n)))
    (λ e f g t n. absurd (omega (arith, ap fate_number n))) (λ e f h g. command_says u p lent s bytes h g e)
