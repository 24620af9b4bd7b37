-- The loop of `run`: what its turns have done is one run that goes on from where they are. Each turn is a step; where none follows, that run is done.
use Rattle.std.proofs.Common.{◌≡◌, ℕ, ◌+◌, ◌-◌, ◌<◌, ◌≤◌, Bool, true, false, cond, eqb, leb, Some, None, List, [], ◌∷◌, ◌++◌, length, take, drop, sym, refl, ap, ◌∙◌, zero-add, arith, length-drop, take-append-drop, length-take, length-take-le, take_all, drop-drop, le-leb, leb-false, leb-true}
use borrow.Author.Tests.{lt-leb}
use Rattle.octets.specs.Places.{placed}
use Rattle.octets.proofs.PlaceLaws.{take_placed, drop_placed}
use Rattle.records.specs.Between.{HasRoom, HasLine, SameLent, held_in, Says}
use Rattle.records.specs.declared.log.Held.{Held as HeldNow}
use Rattle.records.specs.declared.text.Page.{Page}
use Rattle.records.specs.Text.{end_line, bad_line}
use Rattle.records.specs.Log.{number_after, Held, lent_by, outcome_of, last_line}
use Rattle.records.specs.Run.{next_of, Progress, text_of, stepped, longest_line, next_step, steps_left, ran, answer_of}
use Rattle.records.specs.declared.bench.Bench.{Bench}
use Rattle.records.specs.declared.log.Ran.{Ran}
use Rattle.records.specs.declared.log.Next.{Next}
use Rattle.records.specs.declared.log.Next.TheVariants.{Heading, Line, Last}
use Rattle.records.proofs.TextLaws.{line_length, word_length, put_length}
use Rattle.records.proofs.RunLaws.{call_fits, falls, ran_next, ran_stop}

-- ---- no step prints more than the longest line

last_length : (s : List ℕ) (b : Bench) → length (last_line s b) ≤ 67
last_length s b = go (eqb (length s) 0)
  where
    go : (t : Bool) → length (cond t (end_line b.items) (bad_line b.offset)) ≤ 67
    go true = omega (arith, word_length (0x65 ∷ 0x6E ∷ 0x64 ∷ 0x20 ∷ []) b.items refl)
    go false = omega (arith, word_length (0x62 ∷ 0x61 ∷ 0x64 ∷ 0x20 ∷ []) b.offset refl)

pub text_length : (next : Next) (s : List ℕ) (h : Held) → length (text_of next s h) ≤ longest_line (length h.reply)
text_length Heading s h = omega arith
text_length (Line item) s h =
    let o = outcome_of item s h in
    let f = call_fits item s h.bench.unit (lent_by h) in
    omega (arith, line_length (number_after h.bench) o.answer.fate (take o.answer.length o.reply), length-take o.answer.length o.reply, f.1)
text_length Last s h = omega (arith, last_length s h.bench)

-- ---- the loop

-- two answers at each place are an answer at each place, twice
pub paired : {C : Type 0} {P Q : C → Type 0} → ((c : C) → P c × Q c) → ((c : C) → P c) × ((c : C) → Q c)
paired f = (λ c. (f c).0, λ c. (f c).1)

-- a part from a place on is what is behind it
pub rest_is : (log : List ℕ) (used : ℕ) → take (length log - used) (drop used log) ≡ drop used log
rest_is log used = take_all (length log - used) (drop used log) (omega (arith, length-drop used log))

-- what the turns so far have done
abbrev pub reached : HeldNow → ℕ → Page → Progress
reached h used p = record { held = held_in h; used = used; text = take p.at p.out.now }

-- of a run from any `first` on
module _ (log : List ℕ) (last : Bool) (h₀ : HeldNow) (p₀ : Page) (first : Progress) where
  -- how much room a call has
  abbrev all : ℕ
  all = length p₀.out.now

  pub record Got (h : HeldNow) (used : ℕ) (p : Page) : Type 0 where
    pub lent : SameLent h₀ h
    pub same_reference : p.out.ghost_name ≡ p₀.out.ghost_name
    pub same : ran log last all (reached h used p) ≡ ran log last all first
    pub there : used ≤ length log
    pub inside : p.at ≤ length p.out.now
    pub long : length p.out.now ≡ all
    pub rest : drop p.at p.out.now ≡ drop p.at p₀.out.now

  module _ (h : HeldNow) (used : ℕ) (p : Page) (got : Got h used p) where
    abbrev here : Progress
    here = reached h used p

    text_is : length (take p.at p.out.now) ≡ p.at
    text_is = length-take-le p.at p.out.now got.inside

    -- a turn
    module _ (room : leb (longest_line (length h.reply.now)) (length p.out.now - p.at) ≡ true) (next : Next)
        (is : next_of h.bench.stage (drop used log) last ≡ Some next) where
      pub has_line : HasLine h p
      has_line = let r = leb-true (longest_line (length h.reply.now)) (length p.out.now - p.at) room in let i = got.inside in omega arith

      goes : next_step log last all here ≡ Some next
      goes = rw (le-leb (length (take p.at p.out.now) + longest_line (length h.reply.now)) all (omega (arith, text_is, has_line, got.long))) is

      pub got_next : (h' : HeldNow) (p' : Page) (u : ℕ) → Says next (drop used log) h h' p p' u
          → Got h' (used + u) p' × (steps_left log (reached h' (used + u) p') < steps_left log here)
      got_next h' p' u says =
          let s = drop used log in
          let text = text_of next s (held_in h) in
          let fits : HasRoom text p = omega (arith, text_length next s (held_in h), has_line) in
          let put = says.prints in
          let shown : take p'.at p'.out.now ≡ take p.at p.out.now ++ text = rw (put.next, put.bytes) (take_placed p.at text p.out.now fits) in
          let step : reached h' (used + u) p' ≡ stepped next s here =
          λ i. record {
            held = says.leaves i;
            used = used + says.uses i;
            text = shown i;
          } in
          let f = falls log last all here next got.there goes in
          let z = put.next in (
            record {
              lent = record { memory = says.lent.memory ∙ got.lent.memory; reply = says.lent.reply ∙ got.lent.reply };
              same_reference = put.same_reference ∙ got.same_reference;
              same = ap (ran log last all) step ∙ sym (ran_next log last all here next got.there goes) ∙ got.same;
              there = rw (ap (λ (q : Progress). q.used) step) f.0;
              inside = omega (arith, z, put_length put fits, fits);
              long = put_length put fits ∙ got.long;
              rest =
                  rw (put.next, put.bytes) (drop_placed p.at text p.out.now fits ∙ sym (drop-drop (length text) p.at p.out.now)
                  ∙ ap (drop (length text)) got.rest ∙ drop-drop (length text) p.at p₀.out.now);
            },
            rw (ap (steps_left log) step) f.1,
          )

    -- no turn more: no room, or nothing to print
    pub stops_full : leb (longest_line (length h.reply.now)) (length p.out.now - p.at) ≡ false → next_step log last all here ≡ None
    stops_full e =
        let full = leb-false (longest_line (length h.reply.now)) (length p.out.now - p.at) e in
        rw (lt-leb (length (take p.at p.out.now) + longest_line (length h.reply.now)) all (omega (arith, text_is, full, got.inside, got.long)))

    pub stops_silent : next_of h.bench.stage (drop used log) last ≡ None → next_step log last all here ≡ None
    stops_silent e = go (leb (length (take p.at p.out.now) + longest_line (length h.reply.now)) all)
      where
        go : (t : Bool) → cond t (next_of h.bench.stage (drop used log) last) None ≡ None
        go true = e
        go false = refl

    module _ (stops : next_step log last all here ≡ None) where
      done : ran log last all first ≡ here
      done = sym got.same ∙ ran_stop log last all here stops

      answer_is : ◌≡◌ {A = Ran} (record { bench = h.bench; used = used; written = p.at }) (answer_of (ran log last all first))
      answer_is = rw done (λ i. record { bench = h.bench; used = used; written = sym text_is i })

      text_stands : p.out.now ≡ placed 0 (ran log last all first).text p₀.out.now
      text_stands =
          sym (take-append-drop p.at p.out.now) ∙ ap (λ (l : List ℕ). take p.at p.out.now ++ l) got.rest
          ∙ ap (λ (k : ℕ). take p.at p.out.now ++ drop k p₀.out.now) (sym text_is ∙ sym (zero-add (length (take p.at p.out.now))))
          ∙ ap (λ (q : Progress). placed 0 q.text p₀.out.now) (sym done)

      -- all that `run` promises
      pub got_all : (◌≡◌ {A = Ran} (record { bench = h.bench; used = used; written = p.at }) (answer_of (ran log last all first)))
          × (((used ≤ length log) × (p.at ≤ all))
          × ((h.memory.now ≡ (ran log last all first).held.memory)
          × ((h.reply.now ≡ (ran log last all first).held.reply) × (p.out.now ≡ placed 0 (ran log last all first).text p₀.out.now))))
      got_all = (
        answer_is,
        (
          (got.there, omega (arith, got.inside, got.long)),
          (sym (ap (λ (q : Progress). q.held.memory) done), (sym (ap (λ (q : Progress). q.held.reply) done), text_stands)),
        ),
      )
