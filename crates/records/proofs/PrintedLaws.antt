-- Calls of `run` print what a log means, however it is cut into parts; one call with room enough prints all of it; and none stands still.
use Rattle.std.proofs.Common.{◌≡◌, ℕ, ◌+◌, ◌≤◌, Bool, true, false, cond, eqb, ◌⊎◌, Some, None, Result, Ok, Err, List, [], ◌∷◌, ◌++◌, length, take, drop, sym, refl, ap, ◌∙◌, subst, inl, inr, ⊎_elim, append_assoc, append-nil, arith, length-append, drop-drop, le-leb}
use Rattle.std.proofs.lemmas.Option.{none-some, same_Some}
use mathlib.Core.Bool.{false≢true}
use lib.ListN.{length-replicate}
use Rattle.unit.specs.Fate.{fate_number, fate_status}
use Rattle.unit.specs.declared.fate.Fate.{Fate}
use Rattle.records.specs.Record.{read_record, size_of}
use Rattle.records.specs.Text.{decimal, spaced, ended, status_text, reply_text, record_line, heading, end_line, bad_line}
use Rattle.records.specs.Log.{start_held, number_after, Held, lent_by, outcome_of, line_for, last_line, lines}
use Rattle.records.specs.Run.{next_for, next_of, Progress, left_by, used_by, text_of, longest_line, next_step, ran, begun}
use Rattle.records.specs.Printed.{by_stage, to_come, Calls, none, call, PrintsMeaning, OneCall, NoStandstill, CutIsShort}
use Rattle.records.specs.declared.record.Item.{Item}
use Rattle.records.specs.declared.record.NoRecord.{NoRecord}
use Rattle.records.specs.declared.record.NoRecord.TheVariants.{Wrong, Cut}
use Rattle.records.specs.declared.bench.Stage.{Stage}
use Rattle.records.specs.declared.bench.Stage.TheVariants.{Fresh, Running, Over}
use Rattle.records.specs.declared.log.Next.{Next}
use Rattle.records.specs.declared.log.Next.TheVariants.{Heading, Line, Last}
use Rattle.records.proofs.RecordLaws.{cut_short}
use Rattle.records.proofs.RunLaws.{call_fits, next_there, further, ran_is, ran_ends}
use Rattle.records.proofs.LogLaws.{after, stage_aside, item_first, wrong_first, cut_last}

-- ---- a step prints what comes first of what is to come

module _ (h : Held) (s more : List ℕ) where
  abbrev Comes : Stage → Next → Type 0
  Comes stage next = by_stage stage (lines (s ++ more) h) ≡ text_of next s h ++ by_stage (left_by next s h).bench.stage (lines (drop (used_by next) s ++ more) (left_by next s h))

  running : h.bench.stage ≡ Running → (r : Result Item NoRecord) (last : Bool) → read_record s ≡ r → (last ≡ true → more ≡ []) → (next : Next) → next_for r last ≡ Some next
      → Comes Running next
  running is (Ok item) last e end next some =
      subst (Comes Running) (same_Some (Line item) next some)
      (item_first h s more item e
      ∙ ap (λ (stage : Stage). line_for (outcome_of item s h) h ++ by_stage stage (lines (drop (size_of item) s ++ more) (after item s h))) (sym is))
  running is (Err Wrong) last e end next some =
      subst (Comes Running) (same_Some Last next some) (wrong_first h s more e ∙ sym (append-nil (last_line s h.bench)))
  running is (Err Cut) true e end next some =
      subst (Comes Running) (same_Some Last next some) (cut_last h s more e (end refl) ∙ sym (append-nil (last_line s h.bench)))
  running is (Err Cut) false e end next some = absurd (none-some next some)

  comes : (stage : Stage) → h.bench.stage ≡ stage → (last : Bool) → (last ≡ true → more ≡ []) → (next : Next) → next_of stage s last ≡ Some next → Comes stage next
  unfolding lines
  comes Fresh is last end next some =
      subst (Comes Fresh) (same_Some Heading next some) (ap (λ (l : List ℕ). heading ++ l) (sym (stage_aside (length (s ++ more)) (s ++ more) h Running)))
  comes Running is last end next some = running is (read_record s) last refl end next some
  comes Over is last end next some = absurd (none-some next some)

-- it prints something, and the reply buffer keeps its length
line_some : (n : ℕ) (fate : Fate) (r : List ℕ) → 1 ≤ length (record_line n fate r)
unfolding record_line
line_some n fate r =
    omega (
      arith,
      length-append (spaced (decimal n) ++ spaced (decimal (fate_number fate)) ++ spaced (status_text (fate_status fate))) (ended (reply_text r)),
      length-append (reply_text r) (0x0A ∷ []),
    )

last_some : (s : List ℕ) (h : Held) → 1 ≤ length (last_line s h.bench)
last_some s h = go (eqb (length s) 0)
  where
    go : (t : Bool) → 1 ≤ length (cond t (end_line h.bench.items) (bad_line h.bench.offset))
    go true = omega arith
    go false = omega arith

text_some : (next : Next) (s : List ℕ) (h : Held) → 1 ≤ length (text_of next s h)
text_some Heading s h = omega arith
text_some (Line item) s h =
    let o = outcome_of item s h in
    line_some (number_after h.bench) o.answer.fate (take o.answer.length o.reply)
text_some Last s h = last_some s h

reply_stays : (next : Next) (s : List ℕ) (h : Held) → length (left_by next s h).reply ≡ length h.reply
reply_stays Heading s h = refl
reply_stays (Line item) s h = (call_fits item s h.bench.unit (lent_by h)).1
reply_stays Last s h = refl

-- ---- a call

module _ (part : List ℕ) (last : Bool) (room : ℕ) (h : Held) where
  abbrev end : Progress
  end = ran part last room (begun h)

  -- what it printed and what is to come behind it is what was to come
  pub call_prints : (more : List ℕ) → (last ≡ true → more ≡ []) → to_come h (part ++ more) ≡ end.text ++ to_come end.held (drop end.used part ++ more)
  call_prints more ends =
      ran_is part last room (λ q. to_come h (part ++ more) ≡ q.text ++ to_come q.held (drop q.used part ++ more)) step (begun h) (omega arith) refl
    where
      step : (q : Progress) (next : Next) → q.used ≤ length part → next_step part last room q ≡ Some next → to_come h (part ++ more) ≡ q.text ++ to_come q.held (drop q.used part ++ more)
          → to_come h (part ++ more) ≡ (further part last room next q).text ++ to_come (further part last room next q).held (drop (further part last room next q).used part ++ more)
      step q next u e so =
          let s = drop q.used part in
          let text = text_of next s q.held in
          let left = left_by next s q.held in
          so ∙ ap (λ (l : List ℕ). q.text ++ l) (comes q.held s more q.held.bench.stage refl last ends next (next_there part last room q next e))
          ∙ sym (append_assoc q.text text (to_come left (drop (used_by next) s ++ more)))
          ∙ ap (λ (l : List ℕ). q.text ++ text ++ to_come left (l ++ more)) (drop-drop (used_by next) q.used part)

  reply_long : length end.held.reply ≡ length h.reply
  reply_long =
      ran_is part last room (λ q. length q.held.reply ≡ length h.reply)
      (λ q next u e so. reply_stays next (drop q.used part) q.held ∙ so) (begun h) (omega arith) refl

  -- it did nothing, or it printed something
  moved : (end ≡ begun h) ⊎ (1 ≤ length end.text)
  moved =
      ran_is part last room (λ q. (q ≡ begun h) ⊎ (1 ≤ length q.text))
      (λ q next u e so. inr (omega (
        arith,
        length-append q.text (text_of next (drop q.used part) q.held),
        text_some next (drop q.used part) q.held,
      ))) (begun h) (omega arith) (inl refl)

-- nothing is to be printed only where all is printed, or where a record is cut and more may come
silent_why : (stage : Stage) (s : List ℕ) (last : Bool) → next_of stage s last ≡ None → (stage ≡ Over) ⊎ ((last ≡ false) × (read_record s ≡ Err Cut))
silent_why Fresh s last e = absurd (none-some Heading (sym e))
silent_why Running s last e = go (read_record s) last e
  where
    go : (r : Result Item NoRecord) (last : Bool) → next_for r last ≡ None → (Running ≡ Over) ⊎ ((last ≡ false) × (r ≡ Err Cut))
    go (Ok item) last e = absurd (none-some (Line item) (sym e))
    go (Err Wrong) last e = absurd (none-some Last (sym e))
    go (Err Cut) true e = absurd (none-some Last (sym e))
    go (Err Cut) false e = inr (refl, refl)
silent_why Over s last e = inl refl

-- where there was room for a line more, a call has ended for one of these two reasons
module _ (part : List ℕ) (last : Bool) (room : ℕ) (h : Held) where
  abbrev q : Progress
  q = ran part last room (begun h)

  ended_why : length q.text + longest_line (length h.reply) ≤ room → (q.held.bench.stage ≡ Over) ⊎ ((last ≡ false) × (read_record (drop q.used part) ≡ Err Cut))
  ended_why l =
      silent_why q.held.bench.stage (drop q.used part) last
      (rw (le-leb (length q.text + longest_line (length q.held.reply)) room (omega (arith, l, reply_long part last room h)))
      at (ran_ends part last room (begun h) (omega arith)))

-- ---- the theorems

so_far : (h h' : Held) (s s' text : List ℕ) → Calls h s h' s' text → to_come h s ≡ text ++ to_come h' s'
so_far h _ s _ _ none = refl
so_far h h' s s' all (call {rest = rest} {text = text} part more last room cut end left calls is) =
    let q = ran part last room (begun h) in
    ap (to_come h) cut ∙ call_prints part last room h more end
    ∙ ap (λ (l : List ℕ). q.text ++ l) (ap (to_come q.held) (sym left) ∙ so_far q.held h' rest s' text calls)
    ∙ sym (append_assoc q.text text (to_come h' s')) ∙ ap (λ (l : List ℕ). l ++ to_come h' s') (sym is)

pub prints_meaning : PrintsMeaning
prints_meaning log text rest h calls =
    let e = so_far start_held h log rest text calls in
    (e, λ is. sym (append-nil text) ∙ ap (λ (stage : Stage). text ++ by_stage stage (lines rest h)) (sym is) ∙ sym e)

pub one_call : OneCall
one_call log room l =
    let q = ran log true room (begun start_held) in
    let calls : Calls start_held log q.held (drop q.used log ++ []) (q.text ++ []) =
    call log [] true room (sym (append-nil log)) (λ z. refl) refl none refl in
    let p = prints_meaning log (q.text ++ []) (drop q.used log ++ []) q.held calls in
    let n = ap length p.0 ∙ length-append (q.text ++ []) (to_come q.held (drop q.used log ++ [])) in
    let k = length-append q.text [] in
    let r : length start_held.reply ≡ 8192 = length-replicate {A = ℕ} 8192 0 in
    let is : q.held.bench.stage ≡ Over =
    ⊎_elim (λ e. e) (λ (w : (true ≡ false) × (read_record (drop q.used log) ≡ Err Cut)). absurd (false≢true (sym w.0)))
    (ended_why log true room start_held (omega (arith, n, k, r, l))) in
    (sym (append-nil q.text) ∙ p.1 is, is)

pub no_standstill : NoStandstill
no_standstill h part last room l nothing =
    ⊎_elim (λ (e : ran part last room (begun h) ≡ begun h). rw e at (ended_why part last room h (omega (arith, ap length nothing, l))))
    (λ (some : 1 ≤ length (ran part last room (begun h)).text). absurd (omega (arith, ap length nothing, some)))
    (moved part last room h)

pub cut_is_short : CutIsShort
cut_is_short = cut_short
