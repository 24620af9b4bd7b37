-- What a log means, record by record; and what comes first of it, whatever bytes come behind.
use Rattle.std.proofs.Common.{◌≡◌, ℕ, zero, suc, ◌≤◌, List, [], ◌++◌, length, drop, Result, Ok, Err, refl, ap, ◌∙◌, append-nil, arith, length-append, length-drop, ne_eqb}
use lib.Seq.{drop-append-le}
use Rattle.unit.specs.Calls.{Outcome, take_packet}
use Rattle.records.specs.Record.{read_record, size_of}
use Rattle.records.specs.Log.{Held, lent_by, outcome_of, line_for, held_after, last_line, by_record, lines_in, lines}
use Rattle.records.specs.Run.{held_at}
use Rattle.records.specs.declared.record.Item.{Item}
use Rattle.records.specs.declared.record.Item.TheVariants.{Packet, TimeCode, Ticks}
use Rattle.records.specs.declared.record.NoRecord.{NoRecord}
use Rattle.records.specs.declared.record.NoRecord.TheVariants.{Wrong, Cut}
use Rattle.records.specs.declared.bench.Stage.{Stage}
use Rattle.records.proofs.RecordLaws.{whole_fits, wrong_long, more_part, record_more}
use Rattle.records.proofs.Turns.{enough_turns}

-- ---- turns to spare make no difference

abbrev pub after : Item → List ℕ → Held → Held
after item s h = held_after (outcome_of item s h) (size_of item) h

abbrev Fits : Result Item NoRecord → List ℕ → Type 0
Fits r s = (item : Item) → r ≡ Ok item → (7 ≤ size_of item) × (size_of item ≤ length s)

spare : (k : ℕ) (s : List ℕ) (h : Held) → length s ≤ k → lines_in (suc k) s h ≡ lines_in k s h
spare zero s h l = go (read_record s) (whole_fits s)
  where
    go : (r : Result Item NoRecord) → Fits r s → by_record r (λ item. line_for (outcome_of item s h) h ++ lines_in zero (drop (size_of item) s) (after item s h)) (last_line s h.bench) ≡ last_line s h.bench
    go (Ok item) f = let g = f item refl in absurd (omega (arith, g, l))
    go (Err why) f = refl
spare (suc k) s h l = go (read_record s) (whole_fits s) (λ item g. spare k (drop (size_of item) s) (after item s h) (omega (arith, length-drop (size_of item) s, g, l)))
  where
    go : (r : Result Item NoRecord) → Fits r s → ((item : Item) → (7 ≤ size_of item) × (size_of item ≤ length s)
        → lines_in (suc k) (drop (size_of item) s) (after item s h) ≡ lines_in k (drop (size_of item) s) (after item s h))
        → by_record r (λ item. line_for (outcome_of item s h) h ++ lines_in (suc k) (drop (size_of item) s) (after item s h)) (last_line s h.bench)
        ≡ by_record r (λ item. line_for (outcome_of item s h) h ++ lines_in k (drop (size_of item) s) (after item s h)) (last_line s h.bench)
    go (Ok item) f more = ap (λ (t : List ℕ). line_for (outcome_of item s h) h ++ t) (more item (f item refl))
    go (Err why) f more = refl

enough : (k : ℕ) (s : List ℕ) (h : Held) → length s ≤ k → lines_in k s h ≡ lines_in (length s) s h
enough k s h l = enough_turns (λ n. lines_in n s h) (length s) (λ k l. spare k s h l) k l

-- ---- a log, record by record: these two are all that `lines` says

-- a whole record comes first: its line, and the lines of what is behind it
pub lines_record : (s : List ℕ) (h : Held) (item : Item) → read_record s ≡ Ok item
    → lines s h ≡ line_for (outcome_of item s h) h ++ lines (drop (size_of item) s) (after item s h)
unfolding lines
lines_record s h item e = go (length s) refl
  where
    go : (n : ℕ) → length s ≡ n → lines_in n s h ≡ line_for (outcome_of item s h) h ++ lines_in (length (drop (size_of item) s)) (drop (size_of item) s) (after item s h)
    go zero f = let g = whole_fits s item e in absurd (omega (arith, f, g))
    go (suc n) f =
        let g = whole_fits s item e in
        rw e (ap (λ (t : List ℕ). line_for (outcome_of item s h) h ++ t) (enough n (drop (size_of item) s) (after item s h) (omega (arith, length-drop (size_of item) s, f, g))))

-- no record comes first: the last line
pub lines_last : (s : List ℕ) (h : Held) → ((item : Item) → read_record s ≡ Ok item → ⊥) → lines s h ≡ last_line s h.bench
unfolding lines
lines_last s h none = go (length s)
  where
    by : (r : Result Item NoRecord) (whole : Item → List ℕ) → ((item : Item) → r ≡ Ok item → ⊥) → by_record r whole (last_line s h.bench) ≡ last_line s h.bench
    by (Ok item) whole f = absurd (f item refl)
    by (Err why) whole f = refl

    go : (n : ℕ) → lines_in n s h ≡ last_line s h.bench
    go zero = refl
    go (suc k) = by (read_record s) (λ item. line_for (outcome_of item s h) h ++ lines_in k (drop (size_of item) s) (after item s h)) none

-- the stage is not looked at
pub stage_aside : (n : ℕ) (s : List ℕ) (h : Held) (stage : Stage) → lines_in n s (held_at stage h) ≡ lines_in n s h
stage_aside zero s h stage = refl
stage_aside (suc n) s h stage = go (read_record s) (λ item. stage_aside n (drop (size_of item) s) (after item s h) stage)
  where
    go : (r : Result Item NoRecord) → ((item : Item) → lines_in n (drop (size_of item) s) (held_at stage (after item s h)) ≡ lines_in n (drop (size_of item) s) (after item s h))
        → by_record r (λ item. line_for (outcome_of item s h) h ++ lines_in n (drop (size_of item) s) (held_at stage (after item s h))) (last_line s h.bench)
        ≡ by_record r (λ item. line_for (outcome_of item s h) h ++ lines_in n (drop (size_of item) s) (after item s h)) (last_line s h.bench)
    go (Ok item) more = ap (λ (t : List ℕ). line_for (outcome_of item s h) h ++ t) (more item)
    go (Err why) more = refl

-- ---- a step prints what comes first

-- a packet is the same whatever comes behind its record
called_more : (item : Item) (s t : List ℕ) (h : Held) → size_of item ≤ length s → outcome_of item (s ++ t) h ≡ outcome_of item s h
called_more (Packet end link size) s t h l = ap (λ (p : List ℕ). take_packet h.bench.unit (record { packet = p; end = end; link = link }) (lent_by h)) (more_part s t 7 size l)
called_more (TimeCode byte) s t h l = refl
called_more (Ticks count) s t h l = refl

module _ (h : Held) (s more : List ℕ) where
  pub item_first : (item : Item) → read_record s ≡ Ok item
      → lines (s ++ more) h ≡ line_for (outcome_of item s h) h ++ lines (drop (size_of item) s ++ more) (after item s h)
  item_first item e =
      let told : read_record s ≡ Err Cut → ⊥ = λ c. (let z : ◌≡◌ {A = ℕ} 0 1 = cc in omega arith) in
      let f = whole_fits s item e in
      let same = called_more item s more h f.1 in
      lines_record (s ++ more) h item (record_more s more told ∙ e)
      ∙ ap (λ (o : Outcome). line_for o h ++ lines (drop (size_of item) (s ++ more)) (held_after o (size_of item) h)) same
      ∙ ap (λ (l : List ℕ). line_for (outcome_of item s h) h ++ lines l (after item s h)) (drop-append-le (size_of item) s more f.1)

  pub wrong_first : read_record s ≡ Err Wrong → lines (s ++ more) h ≡ last_line s h.bench
  wrong_first e =
      let told : read_record s ≡ Err Cut → ⊥ = λ c. (let z : ◌≡◌ {A = ℕ} 0 1 = cc in omega arith) in
      let some = wrong_long s e in
      lines_last (s ++ more) h (λ item w. let t = record_more s more told in let z : ◌≡◌ {A = ℕ} 0 1 = cc in absurd (omega arith))
      ∙ rw (ne_eqb (length (s ++ more)) 0 (λ z. omega (arith, length-append s more, some, z)), ne_eqb (length s) 0 (λ z. omega (arith, some, z)))

  pub cut_last : read_record s ≡ Err Cut → more ≡ [] → lines (s ++ more) h ≡ last_line s h.bench
  cut_last e none =
      ap (λ (l : List ℕ). lines (s ++ l) h) none ∙ ap (λ (l : List ℕ). lines l h) (append-nil s)
      ∙ lines_last s h (λ item w. let z : ◌≡◌ {A = ℕ} 0 1 = cc in absurd (omega arith))
