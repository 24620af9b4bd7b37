-- A counter is never looked at, and counting goes in any order.
use Rattle.std.proofs.Common.{◌≡◌, ℕ, ◌+◌, ◌%◌, ◌^◌, Bool, true, false, cond, not, eqb, ltb, List, get_or, set, sym, refl, ap, ◌∙◌, get_or-set_other}
use native.Mathlib.Decide.{ℕ_discrete}
use lib.Seq.{set_comm}
use Rattle.packets.specs.Reading.{read_packet}
use Rattle.packets.specs.Reply.{replied}
use Rattle.packets.specs.declared.header.Header.{Header}
use Rattle.packets.specs.declared.path.Path.{Path}
use Rattle.std.specs.Prelude.{Result, Ok, Err}
use Rattle.packets.specs.declared.reading.Packet.{Packet}
use Rattle.packets.specs.declared.reading.Packet.TheVariants.{Time, Command}
use Rattle.packets.specs.declared.reading.Refusal.{Refusal}
use Rattle.unit.specs.Fate.{byte_of, fate_number}
use Rattle.unit.specs.Counters.{bumped_at, counter_of, total, counted_for}
use Rattle.unit.specs.Clock.{time_code_written}
use Rattle.unit.specs.Fields.{row_of, time_code_counter, divider, divider_written}
use Rattle.unit.specs.Usable.{usable, usable_unit}
use Rattle.unit.specs.Given.{Arrived, as_read, Lent, sizes_of}
use Rattle.unit.specs.Decide.{header_status}
use Rattle.unit.specs.Plan.{decided_on}
use Rattle.unit.specs.Judge.{ruling_on, is_link, judged}
use Rattle.unit.specs.Act.{stored, data_for, replied_to, field_written, changed, with_clock, with_fields, with_counters, counted_unit}
use Rattle.unit.specs.Calls.{Outcome, acted, done, take_packet}
use Rattle.unit.specs.declared.fate.Fate.{Fate}
use Rattle.unit.specs.declared.fate.Fate.TheVariants.{Unusable, NoSuchLink}
use Rattle.unit.specs.declared.decide.Action.{Action}
use Rattle.unit.specs.declared.decide.Action.TheVariants.{Nothing, ReadMemory, RepeatByte, Store, StoreLast, Combine, ReadFields, Swap, WriteField}
use Rattle.unit.specs.declared.decide.Plan.{Plan}
use Rattle.unit.specs.declared.judging.Sizes.{Sizes}
use Rattle.unit.specs.declared.judging.Ruling.{Ruling}
use Rattle.unit.specs.declared.judging.Ruling.TheVariants.{Ends, SetsTime, Planned}
use Rattle.unit.specs.declared.unit.Unit.{Unit as TheUnit}

-- ---- with other counters all is the same, but for the counters, which then are those, counted

abbrev pub recounted : List ℕ → Outcome → Outcome
recounted c o = record {
  answer = record {
    unit = with_counters o.answer.unit (counted_for o.answer.fate c);
    fate = o.answer.fate;
    length = o.answer.length;
  };
  memory = o.memory;
  reply = o.reply;
}

module _ (u : TheUnit) (c : List ℕ) where
  data_aside : (a : Action) (link : ℕ) (m : List ℕ) → data_for a (with_counters u c) link m ≡ data_for a u link m
  unfolding data_for
  data_aside Nothing link m = refl
  data_aside (ReadMemory at count) link m = refl
  data_aside (RepeatByte at count) link m = refl
  data_aside (Store at from count) link m = refl
  data_aside (StoreLast at from count) link m = refl
  data_aside (Combine at from count) link m = refl
  data_aside (ReadFields address count) link m = refl
  data_aside (Swap new expected) link m = refl
  data_aside (WriteField address word) link m = refl

  written_aside : (address word : ℕ) → field_written (with_counters u c) address word ≡ with_counters (field_written u address word) c
  unfolding field_written
  written_aside address word = go (eqb (row_of address) time_code_counter) (eqb (row_of address) divider)
    where
      written : Bool → Bool → TheUnit → TheUnit
      written a b v = cond a (with_clock v (time_code_written v.clock word)) (cond b (with_fields v (divider_written v.fields word)) v)

      go : (a b : Bool) → written a b (with_counters u c) ≡ with_counters (written a b u) c
      go true b = refl
      go false true = refl
      go false false = refl

  changed_aside : (a : Action) (initiator : ℕ) (path : Path) (link : ℕ)
      → changed a (with_counters u c) initiator path link ≡ with_counters (changed a u initiator path link) c
  unfolding changed
  changed_aside Nothing initiator path link = refl
  changed_aside (ReadMemory at count) initiator path link = refl
  changed_aside (RepeatByte at count) initiator path link = refl
  changed_aside (Store at from count) initiator path link = refl
  changed_aside (StoreLast at from count) initiator path link = refl
  changed_aside (Combine at from count) initiator path link = refl
  changed_aside (ReadFields address count) initiator path link = refl
  changed_aside (Swap new expected) initiator path link = refl
  changed_aside (WriteField address word) initiator path link = written_aside address word

  -- it is not judged by
  ruling_aside : (q : Result Packet Refusal) (p : Arrived) (sizes : Sizes) → ruling_on q (with_counters u c) p sizes ≡ ruling_on q u p sizes
  unfolding decided_on header_status
  ruling_aside (Err why) p sizes = refl
  ruling_aside (Ok Time) p sizes = refl
  ruling_aside (Ok (Command k)) p sizes = refl

  pub judged_aside : (p : Arrived) (sizes : Sizes) → judged (with_counters u c) p sizes ≡ judged u p sizes
  unfolding judged usable usable_unit
  judged_aside p sizes =
      ap (λ (r : Ruling). cond (not (usable u sizes.memory)) (Ends Unusable) (cond (not (is_link u p.link)) (Ends NoSuchLink) r))
      (ruling_aside (read_packet p.packet u.number) p sizes)

  module _ (bytes : List ℕ) (link : ℕ) (lent : Lent) where
    plan_aside : (plan : Plan) (h : Header) (path : Path)
        → acted plan (with_counters u c) h path bytes link lent ≡ recounted c (acted plan u h path bytes link lent)
    unfolding replied_to
    plan_aside plan h path =
        let unit = changed_aside plan.action h.initiator path link in
        let d = data_aside plan.action link lent.memory in
        λ i. record {
          answer = record { unit = counted_unit plan.fate (unit i); fate = plan.fate; length = plan.length };
          memory = stored plan.action bytes lent.memory;
          reply = cond (eqb (fate_number plan.fate) 20) (replied path h (byte_of plan.status) (d i) lent.reply) lent.reply;
        }

    done_aside : (ruling : Ruling) → done ruling (with_counters u c) bytes link lent ≡ recounted c (done ruling u bytes link lent)
    done_aside (Ends fate) = refl
    done_aside (SetsTime t) = refl
    done_aside (Planned k plan) = plan_aside plan k.header k.path

  pub counters_aside : (p : Arrived) (lent : Lent) → take_packet (with_counters u c) p lent ≡ recounted c (take_packet u p lent)
  unfolding take_packet
  counters_aside p lent =
      ap (λ (k : Ruling). done k (with_counters u c) (as_read p).packet p.link lent) (judged_aside (as_read p) (sizes_of lent))
      ∙ done_aside (as_read p).packet p.link lent (judged u (as_read p) (sizes_of lent))

-- ---- counting goes in any order

bump_order : (i j : ℕ) (c : List ℕ) → bumped_at i (bumped_at j c) ≡ bumped_at j (bumped_at i c)
bump_order i j c = go (ℕ_discrete i j)
  where
    more : ℕ → ℕ
    more n = (n + 1) % 2 ^ 32

    go : Dec (i ≡ j) → bumped_at i (bumped_at j c) ≡ bumped_at j (bumped_at i c)
    go (yes e) = rw e
    go (no d) =
        ap (λ (n : ℕ). set (bumped_at j c) i (more n)) (get_or-set_other c j i (more (get_or c j 0)) 0 d)
        ∙ set_comm c j i (more (get_or c j 0)) (more (get_or c i 0)) (λ e. d (sym e))
        ∙ ap (λ (n : ℕ). set (bumped_at i c) j (more n)) (sym (get_or-set_other c i j (more (get_or c i 0)) 0 (λ e. d (sym e))))

pub count_order : (f g : Fate) (c : List ℕ) → counted_for f (counted_for g c) ≡ counted_for g (counted_for f c)
unfolding counted_for
count_order f g c = go (ltb (fate_number f) 11) (ltb (fate_number g) 11)
  where
    counts : Bool → Fate → List ℕ → List ℕ
    counts t f c = cond t c (bumped_at total (bumped_at (counter_of f) c))

    go : (t s : Bool) → counts t f (counts s g c) ≡ counts s g (counts t f c)
    go true s = refl
    go false true = refl
    go false false =
        let a = counter_of f in
        let b = counter_of g in
        ap (bumped_at total) (bump_order a total (bumped_at b c))
        ∙ ap (λ (x : List ℕ). bumped_at total (bumped_at total x)) (bump_order a b c)
        ∙ ap (bumped_at total) (bump_order total b (bumped_at a c))
