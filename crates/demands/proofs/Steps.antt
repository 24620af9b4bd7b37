-- One RMAP command, as a step on memory: it tells and leaves what follows from the bytes that it refers to, stores to no other, and changes
-- nothing of the unit but its counters.
use Rattle.std.proofs.Common.{Some, Ok, Err}
use Rattle.std.specs.Prelude.{Result, Ok}
use mathlib.Core.Path.{◌≡◌, refl, sym, ◌∙◌, ap}
use mathlib.Core.Bool.{Bool, true, false, ◌&&◌, ◌||◌, false≢true, or-true, and-false}
use mathlib.Core.Logic.{◌⊎◌, inl, inr}
use mathlib.Core.List.{List}
use Prim.Native.Nat.{ℕ, ◌+◌, ◌<◌, ◌≤◌}
use borrow.Author.Tests.{leb-true, leb-false, ltb-true, ltb-false, le-leb, lt-ltb}
use lib.Dec.{leb, ltb}
use lib.ListN.{length, get_or}
use Rattle.octets.proofs.PlaceLaws.{first_true, second_true}
use Rattle.packets.specs.Instruction.{is_rmw, is_write, header_size}
use Rattle.packets.specs.Header.{kind_in}
use Rattle.packets.specs.Reply.{replied}
use Rattle.packets.specs.declared.instruction.Kind.TheVariants.{ReadModifyWrite, Write}
use Rattle.packets.specs.declared.header.Header.{Header}
use Rattle.packets.specs.declared.path.Path.{Path}
use Rattle.unit.specs.Fate.{Status, byte_of, is_success, fate_status}
use Rattle.packets.specs.declared.reading.Packet.{Packet}
use Rattle.packets.specs.declared.reading.Refusal.{Refusal}
use Rattle.packets.specs.declared.reading.Packet.TheVariants.{Command}
use Rattle.unit.specs.Counters.{counted_for}
use Rattle.unit.specs.Usable.{usable}
use Rattle.unit.specs.Given.{Arrived, as_read, Lent}
use Rattle.unit.specs.Decide.{span_size, header_status, wanted_count, all_at_hand, data_count, data_status_of}
use Rattle.unit.specs.Plan.{unanswered_fate}
use Rattle.unit.specs.Act.{stored, data_for, counted_unit}
use Rattle.unit.specs.Calls.{Outcome, take_packet}
use Rattle.unit.specs.declared.fate.Fate.{Fate}
use Rattle.unit.specs.declared.fate.Fate.TheVariants.{Replied}
use Rattle.unit.specs.declared.unit.Unit.{Unit as TheUnit}
use Rattle.unit.proofs.CallLaws.{packet_length, by_sizes}
use Rattle.unit.proofs.DecideLaws.{write_bit, data_is}
use Rattle.unit.proofs.PlanLaws.{memory_action_in}
use Rattle.unit.proofs.CommandLaws.{packets_are, packet_is, commands_are, command_is}
use Rattle.unit.proofs.MemoryLaws.{memory_outside, span_data, span_stored, storing_kind}
use Rattle.packets.proofs.BareLaws.{bare_rmap}
use Rattle.packets.proofs.ReadingLaws.{header_whole, protocol_read, no_time}
use Rattle.demands.proofs.Weave.{Keeps}
use Rattle.demands.specs.Terminal.{ours, read_of, path_in}
use Rattle.demands.specs.Lists.{Sent, Rmap, State, lent_for, Heard, heard_of, next_of, refers_to_none, in_span, refers, is_store, stores}

-- a packet whose protocol is 01 is read as it is
second_read : (p : Arrived) → get_or p.packet 1 0 ≡ 0x01 → get_or (as_read p).packet 1 0 ≡ 0x01
second_read p rmap = ap (λ (b : List ℕ). get_or b 1 0) (bare_rmap p.packet rmap) ∙ rmap

-- ---- a memory command whose header is accepted refers to its span, whatever its data

data_refers : (h : Header) (p : Arrived) → refers_to_none (Some (byte_of (data_status_of h p))) ≡ false
data_refers h p =
    data_is (λ s. refers_to_none (Some (byte_of s)) ≡ false) (data_count h (all_at_hand h p)) (all_at_hand h p).data_crc (wanted_count h) p.end refl refl refl refl refl

silent_refers : (s : Status) → refers_to_none (Some (byte_of s)) ≡ false → refers_to_none (fate_status (unanswered_fate s)) ≡ false
silent_refers (Ok done) e = refl
silent_refers (Err offence) e = e

-- ---- one command

module _ (s : State) (c : Sent) (rmap : Rmap c) where
  abbrev u : TheUnit
  u = s.unit

  abbrev on : List ℕ → Outcome
  on m = take_packet u c.arrived (lent_for c m)

  abbrev read : Result Packet Refusal
  read = read_of u c.arrived

  abbrev path : Path
  path = path_in u c.arrived

  -- fate and length of the reply are the same on every memory of one length
  pub same_fate : (m k : List ℕ) → length m ≡ length k → ((on m).answer.fate ≡ (on k).answer.fate) × ((on m).answer.length ≡ (on k).answer.length)
  same_fate m k l = by_sizes u c.arrived (lent_for c m) (lent_for c k) (ap (λ (n : ℕ). record { memory = n; reply = length c.buffer }) l)

  -- a command whose header was accepted, of some fate that it also has in s: the test of what it refers to is that of its span
  module _ (h : Header) (is : read ≡ Ok (Command (record { header = h; path = path }))) (f : Fate) (refers_to : refers_to_none (fate_status f) ≡ false) (has : f ≡ (on s.memory).answer.fate) where
    refers_span : (i : ℕ) → refers s c i ≡ in_span h i
    unfolding refers
    refers_span i = rw (← has, refers_to, is)

    stores_span : (i : ℕ) → stores s c i ≡ ((is_write h.instruction || is_rmw (kind_in h)) && in_span h i)
    unfolding stores
    stores_span i = rw (is, refers_span i)

  in_span_law : (h : Header) (i : ℕ) → h.address ≤ i → i < h.address + span_size h → in_span h i ≡ true
  in_span_law h i b l = rw (le-leb h.address i b, lt-ltb i (h.address + span_size h) l)

  outside : (h : Header) (i : ℕ) → in_span h i ≡ false → (i < h.address) ⊎ (h.address + span_size h ≤ i)
  outside h i e = go (leb h.address i) (ltb i (h.address + span_size h)) refl refl e
    where
      go : (a b : Bool) → leb h.address i ≡ a → ltb i (h.address + span_size h) ≡ b → (a && b) ≡ false → (i < h.address) ⊎ (h.address + span_size h ≤ i)
      go false b f g e = inl (leb-false h.address i f)
      go true false f g e = inr (ltb-false i (h.address + span_size h) g)
      go true true f g e = absurd (false≢true (sym e))

  abbrev status : Header → Status
  status h = data_status_of h (as_read c.arrived)

  abbrev after : Header → List ℕ → List ℕ
  after h m = stored (memory_action_in h (as_read c.arrived)) (as_read c.arrived).packet m

  spoken_refers : (h : Header) → refers_to_none (fate_status (Replied (status h))) ≡ false
  spoken_refers h = data_refers h (as_read c.arrived)

  -- every byte stays that it does not store to
  byte_stays : (m : List ℕ) → length m ≡ length s.memory → (i : ℕ) → stores s c i ≡ false → get_or (on m).memory i 0 ≡ get_or m i 0
  byte_stays m l i kept =
      packet_is u c.arrived (lent_for c m) Q (λ e g. refl) (λ e f g. refl) (λ e f why b g. refl) (λ e f b g. refl) (λ e f b t g. refl)
      (λ e f h b. command_is u h path (as_read c.arrived) (lent_for c m) Q (λ g. refl) (λ a. (λ w g. refl, λ w g. refl))
      (λ p a. (λ w g. stays e h b p a (Replied (status h)) (spoken_refers h) g, λ w g. stays e h b p a (unanswered_fate (status h)) (silent_refers (status h) (spoken_refers h)) g))
      (λ p a. (λ w g. refl, λ w g. refl)))
      (same_fate m s.memory l).0
    where
      Q : Outcome → Type 0
      Q o = o.answer.fate ≡ (on s.memory).answer.fate → get_or o.memory i 0 ≡ get_or m i 0

      stays : usable u (length m) ≡ true → (h : Header) → read ≡ Ok (Command (record { header = h; path = path })) → h.protocol ≡ 0x01 → is_success (header_status u h path c.arrived.link) ≡ true
          → (f : Fate) → refers_to_none (fate_status f) ≡ false → f ≡ (on s.memory).answer.fate → get_or (after h m) i 0 ≡ get_or m i 0
      stays works h is rmap accepted f r has =
          go (storing_kind (kind_in h) h (status h) (as_read c.arrived).packet m (header_size h.instruction) (data_count h (all_at_hand h (as_read c.arrived)))) (in_span h i) refl (sym (stores_span h is f r has i) ∙ kept)
        where
          go : (after h m ≡ m) ⊎ ((kind_in h ≡ Write) ⊎ (kind_in h ≡ ReadModifyWrite)) → (t : Bool) → in_span h i ≡ t
              → ((is_write h.instruction || is_rmw (kind_in h)) && t) ≡ false → get_or (after h m) i 0 ≡ get_or m i 0
          go (inl same) t e k = ap (λ (x : List ℕ). get_or x i 0) same
          go (inr kind) false e k =
              memory_outside u h path (as_read c.arrived) m works (header_whole (as_read c.arrived).packet u.number h is) rmap accepted i (outside h i e)
          go (inr (inl kind)) true e k = absurd (false≢true (sym k ∙ rw (write_bit h kind)))
          go (inr (inr kind)) true e k = absurd (false≢true (sym k ∙ rw (kind, or-true (is_write h.instruction))))

  -- on two memories that agree where it refers to: one reply, and one content there
  module _ (m k : List ℕ) (lm : length m ≡ length s.memory) (lk : length k ≡ length s.memory)
      (alike : (i : ℕ) → refers s c i ≡ true → get_or m i 0 ≡ get_or k i 0) where
    abbrev Same : Outcome → Outcome → Type 0
    Same o o' =
        o.answer.fate ≡ (on s.memory).answer.fate
        → (o.reply ≡ o'.reply) × ((i : ℕ) → refers s c i ≡ true → get_or o.memory i 0 ≡ get_or o'.memory i 0)

    module _ (works : usable u (length m) ≡ true) (h : Header) (is : read ≡ Ok (Command (record { header = h; path = path }))) (accepted : is_success (header_status u h path c.arrived.link) ≡ true)
        (f : Fate) (r : refers_to_none (fate_status f) ≡ false) (has : f ≡ (on s.memory).answer.fate) (p : h.protocol ≡ 0x01) where
      in_alike : (i : ℕ) → h.address ≤ i → i < h.address + span_size h → get_or m i 0 ≡ get_or k i 0
      in_alike i b l = alike i (refers_span h is f r has i ∙ in_span_law h i b l)

      same_data : data_for (memory_action_in h (as_read c.arrived)) u c.arrived.link m ≡ data_for (memory_action_in h (as_read c.arrived)) u c.arrived.link k
      same_data =
          span_data u h path (as_read c.arrived) m works (header_whole (as_read c.arrived).packet u.number h is) p accepted k (lm ∙ sym lk) in_alike

      same_bytes_law : (i : ℕ) → refers s c i ≡ true → get_or (after h m) i 0 ≡ get_or (after h k) i 0
      same_bytes_law i e =
          let there : in_span h i ≡ true = sym (refers_span h is f r has i) ∙ e in
          span_stored u h path (as_read c.arrived) m works (header_whole (as_read c.arrived).packet u.number h is) p accepted k (lm ∙ sym lk) in_alike i
          (leb-true h.address i (first_true (leb h.address i) (ltb i (h.address + span_size h)) there))
          (ltb-true i (h.address + span_size h) (second_true (leb h.address i) (ltb i (h.address + span_size h)) there))

    same_outcome : ((on m).reply ≡ (on k).reply) × ((i : ℕ) → refers s c i ≡ true → get_or (on m).memory i 0 ≡ get_or (on k).memory i 0)
    same_outcome =
        packets_are u c.arrived (lent_for c m) k (lm ∙ sym lk) Same (λ e g. same) (λ e f g. same) (λ e f why b g. same) (λ e f b w g. same)
        (λ e f b t w g. same)
        (λ e f h b. commands_are u h path (as_read c.arrived) (lent_for c m) k Same (λ g. same) (λ a. (λ w g. same, λ w g. same))
        (λ p a. (
          λ w g. (
            ap (λ (d : List ℕ). replied path h (byte_of (status h)) d c.buffer) (same_data e h b a (Replied (status h)) (spoken_refers h) g p),
            same_bytes_law e h b a (Replied (status h)) (spoken_refers h) g p,
          ),
          λ w g. (refl, same_bytes_law e h b a (unanswered_fate (status h)) (silent_refers (status h) (spoken_refers h)) g p),
        ))
        (λ p a. absurd (p (protocol_read (as_read c.arrived).packet u.number h b ∙ second_read c.arrived rmap))))
        (same_fate m s.memory lm).0
      where
        same : {A : Type 0} {x : A} → (x ≡ x) × ((i : ℕ) → refers s c i ≡ true → get_or m i 0 ≡ get_or k i 0)
        same = (refl, alike)

-- ---- as a step on memory

-- what a command tells and leaves with the unit of s and another memory
abbrev pub tells : State → Sent → List ℕ → Heard
tells s c m = heard_of ours (record { unit = s.unit; memory = m }) c

abbrev pub leaves : State → Sent → List ℕ → List ℕ
leaves s c m = (next_of ours (record { unit = s.unit; memory = m }) c).memory

pub keeps : (s : State) (c : Sent) → Rmap c → Keeps (tells s) (leaves s) (refers s) (stores s) (length s.memory) c
unfolding stores
keeps s c rmap = record {
  long = λ m l. (packet_length s.unit c.arrived (lent_for c m)).0 ∙ l;
  within = λ i e. rw e (and-false (is_store (read_of s.unit c.arrived)));
  frame = λ m i l kept. byte_stays s c rmap m l i kept;
  same = λ m k lm lk alike.
      let f = same_fate s c rmap m k (lm ∙ sym lk) in
      let o = same_outcome s c rmap m k lm lk alike in
      λ i. record { fate = f.0 i; length = f.1 i; buffer = o.0 i };
  puts = λ m k i lm lk alike r. (same_outcome s c rmap m k lm lk alike).1 i r;
}

-- nothing of the unit changes but its counters
pub only_counted : (u : TheUnit) (p : Arrived) (lent : Lent) → get_or p.packet 1 0 ≡ 0x01
    → (take_packet u p lent).answer.unit ≡ counted_unit (take_packet u p lent).answer.fate u
unfolding counted_for
only_counted u p lent rmap =
    packet_is u p lent Q (λ e. refl) (λ e f. refl) (λ e f why g. refl) (λ e f g. refl) (λ e f g t. absurd (no_time (as_read p).packet u.number (inl (second_read p rmap)) g))
    (λ e f h g. command_is u h (path_in u p) (as_read p) lent Q refl (λ a. (λ w. refl, λ w. refl)) (λ q a. (λ w. refl, λ w. refl))
    (λ q a. absurd (q (protocol_read (as_read p).packet u.number h g ∙ second_read p rmap))))
  where
    Q : Outcome → Type 0
    Q o = o.answer.unit ≡ counted_unit o.answer.fate u
