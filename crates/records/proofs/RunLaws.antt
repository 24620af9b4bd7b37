-- Laws of a run: how much room there is, and what a call does by one step after the other.
use Rattle.std.proofs.Common.{◌≡◌, ℕ, zero, suc, ◌+◌, ◌-◌, ◌<◌, ◌≤◌, Bool, true, false, cond, leb, Option, Some, None, Result, Ok, Err, List, length, take, drop, sym, refl, ap, ◌∙◌, subst, arith, length-drop}
use Rattle.std.proofs.lemmas.Option.{none-some, same_Some}
use Rattle.std.specs.Option.{option_map_or}
use Rattle.unit.specs.Given.{Lent}
use Rattle.unit.specs.Calls.{Outcome}
use Rattle.unit.specs.declared.unit.Unit.{Unit as TheUnit}
use Rattle.unit.proofs.CallLaws.{packet_length, reply_fits_law, code_length, ticks_length}
use Rattle.unit.specs.declared.calls.Answer.{Answer}
use Rattle.records.specs.Between.{Put, SameLent, held_in, Says, Fits}
use Rattle.records.specs.declared.log.Held.{Held as HeldNow}
use Rattle.records.specs.declared.text.Page.{Page}
use Rattle.records.specs.Record.{read_record, size_of}
use Rattle.records.specs.Text.{record_line}
use Rattle.records.specs.Log.{number_after, Held, arrived_in, called, lent_by, outcome_of, bench_after, held_after}
use Rattle.records.specs.declared.record.Item.{Item}
use Rattle.records.specs.declared.record.Item.TheVariants.{Packet, TimeCode, Ticks}
use Rattle.records.specs.Run.{next_for, next_of, Progress, left_by, used_by, stepped, longest_line, next_in, next_step, ran_in, steps, steps_left, ran}
use Rattle.records.specs.declared.bench.Stage.{Stage}
use Rattle.records.specs.declared.bench.Stage.TheVariants.{Fresh, Running, Over}
use Rattle.records.specs.declared.log.Next.{Next}
use Rattle.records.specs.declared.log.Next.TheVariants.{Heading, Line, Last}
use Rattle.records.specs.declared.record.NoRecord.{NoRecord}
use Rattle.records.specs.declared.record.NoRecord.TheVariants.{Wrong, Cut}
use Rattle.records.proofs.RecordLaws.{whole_fits}
use Rattle.records.proofs.Turns.{enough_turns}

-- ---- a call

-- its reply stands in its buffer, which keeps its length
pub call_fits : (item : Item) (s : List ℕ) (u : TheUnit) (lent : Lent)
    → ((called item s u lent).answer.length ≤ length (called item s u lent).reply) × (length (called item s u lent).reply ≡ length lent.reply)
call_fits (Packet end link size) s u lent =
    let p = arrived_in s end link size in
    let long = (packet_length u p lent).1 in
    (omega (arith, long, reply_fits_law u p lent), long)
call_fits (TimeCode byte) s u lent = (omega (arith, code_length u byte), refl)
call_fits (Ticks count) s u lent = (omega (arith, ticks_length u count), refl)

module _ (item : Item) (s : List ℕ) (h h' : HeldNow) (a : Answer) (is : record { answer = a; memory = h'.memory.now; reply = h'.reply.now } ≡ outcome_of item s (held_in h)) where
  pub answer_fits : (a.length ≤ length h'.reply.now) × (length h'.reply.now ≡ length h.reply.now)
  answer_fits =
      subst (λ (o : Outcome). (o.answer.length ≤ length o.reply) × (length o.reply ≡ length h.reply.now)) (sym is)
      (call_fits item s h.bench.unit (lent_by (held_in h)))

  -- a step that printed the line of a call
  pub says_item : {p p' : Page} {size : ℕ} → SameLent h h' → size ≡ size_of item
      → Put (record_line (bench_after a size h.bench).items a.fate (take a.length h'.reply.now)) p p'
      → Says (Line item) s h (record { bench = bench_after a size h.bench; memory = h'.memory; reply = h'.reply }) p p' size
  says_item {p} {p'} {size} lent z put = record {
    lent = record { memory = lent.memory; reply = lent.reply };
    leaves = ap (λ (o : Outcome). held_after o size (held_in h)) is ∙ ap (λ (n : ℕ). held_after (outcome_of item s (held_in h)) n (held_in h)) z;
    uses = z;
    prints =
        subst (λ (o : Outcome). Put (record_line (number_after h.bench) o.answer.fate (take o.answer.length o.reply)) p p') is put;
  }

-- ---- a step

-- it asks for no more than there is
next_for_fits : (r : Result Item NoRecord) (last : Bool) (s : List ℕ) → ((item : Item) → r ≡ Ok item → (7 ≤ size_of item) × (size_of item ≤ length s))
    → (next : Next) → next_for r last ≡ Some next → Fits next s
next_for_fits (Ok item) last s f next e = rw (sym (same_Some (Line item) next e)) (f item refl).1
next_for_fits (Err Wrong) last s f next e = rw (sym (same_Some Last next e)) tt
next_for_fits (Err Cut) true s f next e = rw (sym (same_Some Last next e)) tt
next_for_fits (Err Cut) false s f next e = absurd (none-some next e)

pub next_fits : (stage : Stage) (s : List ℕ) (last : Bool) (next : Next) → next_of stage s last ≡ Some next → Fits next s
next_fits Fresh s last next e = rw (sym (same_Some Heading next e)) tt
next_fits Running s last next e = next_for_fits (read_record s) last s (whole_fits s) next e
next_fits Over s last next e = absurd (none-some next e)

abbrev stage_after : Next → Stage → Stage
stage_after Heading stage = Running
stage_after (Line item) stage = stage
stage_after Last stage = Over

stage_after_law : (next : Next) (s : List ℕ) (h : Held) → (left_by next s h).bench.stage ≡ stage_after next h.bench.stage
stage_after_law Heading s h = refl
stage_after_law (Line item) s h = refl
stage_after_law Last s h = refl

-- it uses bytes that are there, and there are fewer steps left
abbrev Falls : Stage → ℕ → ℕ → Next → Type 0
Falls stage long used next =
    (used + used_by next ≤ long) × (long - (used + used_by next) + steps (stage_after next stage) < long - used + steps stage)

for_falls : (r : Result Item NoRecord) (log : List ℕ) (used : ℕ) (last : Bool) → used ≤ length log
    → ((item : Item) → r ≡ Ok item → (7 ≤ size_of item) × (size_of item ≤ length (drop used log)))
    → (next : Next) → next_for r last ≡ Some next → Falls Running (length log) used next
for_falls (Ok item) log used last u f next e =
    let g = f item refl in
    let n = length-drop used log in
    subst (Falls Running (length log) used) (same_Some (Line item) next e) (omega (arith, g, n, u), omega (arith, g, n, u))
for_falls (Err Wrong) log used last u f next e = subst (Falls Running (length log) used) (same_Some Last next e) (omega (arith, u), omega (arith, u))
for_falls (Err Cut) log used true u f next e = subst (Falls Running (length log) used) (same_Some Last next e) (omega (arith, u), omega (arith, u))
for_falls (Err Cut) log used false u f next e = absurd (none-some next e)

step_falls : (stage : Stage) (log : List ℕ) (used : ℕ) (last : Bool) → used ≤ length log
    → (next : Next) → next_of stage (drop used log) last ≡ Some next → Falls stage (length log) used next
step_falls Fresh log used last u next e = subst (Falls Fresh (length log) used) (same_Some Heading next e) (omega (arith, u), omega (arith, u))
step_falls Running log used last u next e = for_falls (read_record (drop used log)) log used last u (whole_fits (drop used log)) next e
step_falls Over log used last u next e = absurd (none-some next e)

-- ---- a call, step by step

module _ (log : List ℕ) (last : Bool) (room : ℕ) where
  -- a step is what is next
  pub next_there : (p : Progress) (next : Next) → next_step log last room p ≡ Some next → next_in log last p ≡ Some next
  next_there p next e = go (leb (length p.text + longest_line (length p.held.reply)) room) e
    where
      go : (t : Bool) → cond t (next_in log last p) None ≡ Some next → next_in log last p ≡ Some next
      go true e = e
      go false e = absurd (none-some next e)

  abbrev pub further : Next → Progress → Progress
  further next p = stepped next (drop p.used log) p

  pub falls : (p : Progress) (next : Next) → p.used ≤ length log → next_step log last room p ≡ Some next
      → ((further next p).used ≤ length log) × (steps_left log (further next p) < steps_left log p)
  falls p next u e =
      let f = step_falls p.held.bench.stage log p.used last u next (next_there p next e) in
      let g : steps_left log (further next p) < steps_left log p = rw (stage_after_law next (drop p.used log) p.held) f.1 in
      (f.0, g)

  -- more turns than there are steps left make no difference
  spare : (k : ℕ) (p : Progress) → p.used ≤ length log → steps_left log p ≤ k → ran_in (suc k) log last room p ≡ ran_in k log last room p
  spare zero p u l = go (next_step log last room p) refl
    where
      go : (o : Option Next) → next_step log last room p ≡ o → option_map_or (λ next. further next p) o p ≡ p
      go (Some next) e = let f = falls p next u e in absurd (omega (arith, f.1, l))
      go None e = refl
  spare (suc k) p u l = go (next_step log last room p) refl (λ next e. spare k (further next p) (falls p next u e).0 (let f = falls p next u e in omega (arith, f.1, l)))
    where
      go : (o : Option Next) → next_step log last room p ≡ o
          → ((next : Next) → next_step log last room p ≡ Some next → ran_in (suc k) log last room (further next p) ≡ ran_in k log last room (further next p))
          → option_map_or (λ next. ran_in (suc k) log last room (further next p)) o p ≡ option_map_or (λ next. ran_in k log last room (further next p)) o p
      go (Some next) e more = more next e
      go None e more = refl

  pub ran_next : (p : Progress) (next : Next) → p.used ≤ length log → next_step log last room p ≡ Some next → ran log last room p ≡ ran log last room (further next p)
  unfolding ran
  ran_next p next u e = go (steps_left log p) refl
    where
      go : (n : ℕ) → steps_left log p ≡ n → ran_in n log last room p ≡ ran_in (steps_left log (further next p)) log last room (further next p)
      go zero f = let g = falls p next u e in absurd (omega (arith, g.1, f))
      go (suc n) f =
          let g = falls p next u e in
          rw e
          (enough_turns (λ k. ran_in k log last room (further next p)) (steps_left log (further next p)) (λ k l. spare k (further next p) g.0 l) n (omega (arith, g.1, f)))

  pub ran_stop : (p : Progress) → next_step log last room p ≡ None → ran log last room p ≡ p
  unfolding ran
  ran_stop p e = go (steps_left log p)
    where
      go : (n : ℕ) → ran_in n log last room p ≡ p
      go zero = refl
      go (suc n) = rw e

  -- what holds at the start and after every step holds at the end; and there no step follows
  module _ (Q : Progress → Type 0) (step : (q : Progress) (next : Next) → q.used ≤ length log → next_step log last room q ≡ Some next → Q q → Q (further next q)) where
    runs_in : (k : ℕ) (p : Progress) → p.used ≤ length log → Q p → Q (ran_in k log last room p)
    runs_in zero p u q = q
    runs_in (suc k) p u q =
        go (next_step log last room p) refl (λ next e. runs_in k (further next p) (falls p next u e).0 (step p next u e q))
      where
        go : (o : Option Next) → next_step log last room p ≡ o → ((next : Next) → next_step log last room p ≡ Some next → Q (ran_in k log last room (further next p)))
            → Q (option_map_or (λ next. ran_in k log last room (further next p)) o p)
        go (Some next) e more = more next e
        go None e more = q

    pub ran_is : (p : Progress) → p.used ≤ length log → Q p → Q (ran log last room p)
    unfolding ran
    ran_is p u q = runs_in (steps_left log p) p u q

  ends_in : (k : ℕ) (p : Progress) → p.used ≤ length log → steps_left log p ≤ k → next_step log last room (ran_in k log last room p) ≡ None
  ends_in zero p u l = go (next_step log last room p) refl
    where
      go : (o : Option Next) → next_step log last room p ≡ o → next_step log last room p ≡ None
      go (Some next) e = let f = falls p next u e in absurd (omega (arith, f.1, l))
      go None e = e
  ends_in (suc k) p u l = go (next_step log last room p) refl (λ next e. ends_in k (further next p) (falls p next u e).0 (let f = falls p next u e in omega (arith, f.1, l)))
    where
      go : (o : Option Next) → next_step log last room p ≡ o
          → ((next : Next) → next_step log last room p ≡ Some next → next_step log last room (ran_in k log last room (further next p)) ≡ None)
          → next_step log last room (option_map_or (λ next. ran_in k log last room (further next p)) o p) ≡ None
      go (Some next) e more = more next e
      go None e more = e

  pub ran_ends : (p : Progress) → p.used ≤ length log → next_step log last room (ran log last room p) ≡ None
  unfolding ran
  ran_ends p u = ends_in (steps_left log p) p u (omega arith)
