-- Demand 3 holds: RMAP commands are steps on memory that keep to what they refer to, so two lists of them weave; and counting goes in any order.
use mathlib.Core.Path.{◌≡◌, refl, sym, ◌∙◌, ap, ap₂}
use mathlib.Core.Bool.{Bool, true, false, false≢true, or-true}
use mathlib.Core.List.{List, [], ◌∷◌}
use Prim.Native.Nat.{ℕ}
use lib.ListN.{length, get_or}
use lib.Seq.{ext_get_or}
use Rattle.octets.proofs.PlaceLaws.{either_false}
use Rattle.unit.specs.Some.{some}
use Rattle.unit.specs.Counters.{counted_for}
use Rattle.unit.specs.Act.{with_counters}
use Rattle.unit.specs.Calls.{Outcome}
use Rattle.unit.specs.declared.fate.Fate.{Fate}
use Rattle.unit.specs.declared.unit.Unit.{Unit as TheUnit}
use Rattle.unit.proofs.CounterLaws.{counters_aside, count_order}
use Rattle.demands.proofs.Weave.{Off, Fits, told, left, weave}
use Rattle.demands.proofs.Steps.{tells, leaves, same_fate, keeps, only_counted}
use Rattle.demands.specs.Terminal.{ours, Every}
use Rattle.demands.specs.Lists.{Side, Merge, neither, from_one, from_other, Sent, Rmap, State, lent_for, Heard, heard_of, next_of, heard, ends, refers, stores, Clear, Apart, EachAsAlone, OneEnd, Merges}

module _ (s : State) where
  abbrev u : TheUnit
  u = s.unit

  -- the unit with some counters, and some memory
  abbrev at : List ℕ → List ℕ → State
  at k m = record { unit = with_counters u k; memory = m }

  abbrev fate_in : Sent → List ℕ → Fate
  fate_in c m = (tells s c m).fate

  step_heard : (c : Sent) (k m : List ℕ) → heard_of ours (at k m) c ≡ tells s c m
  step_heard c k m =
      ap (λ (o : Outcome). record { fate = o.answer.fate; length = o.answer.length; buffer = o.reply })
      (counters_aside u k c.arrived (lent_for c m))

  step_next : (c : Sent) (k m : List ℕ) → Rmap c → next_of ours (at k m) c ≡ at (counted_for (fate_in c m) k) (leaves s c m)
  step_next c k m rmap =
      ap (λ (o : Outcome). record { unit = o.answer.unit; memory = o.memory }) (counters_aside u k c.arrived (lent_for c m))
      ∙ ap (λ (v : TheUnit). record { unit = with_counters v (counted_for (fate_in c m) k); memory = leaves s c m })
      (only_counted u c.arrived (lent_for c m) rmap)

  heard_told : (cs : List Sent) (k m : List ℕ) → Every Rmap cs → heard ours (at k m) cs ≡ told (tells s) (leaves s) cs m
  unfolding heard told
  heard_told [] k m all = refl
  heard_told (c ∷ cs) k m all =
      ap₂ (λ (x : Heard) (xs : List Heard). x ∷ xs) (step_heard c k m)
      (ap (λ (q : State). heard ours q cs) (step_next c k m all.0) ∙ heard_told cs (counted_for (fate_in c m) k) (leaves s c m) all.1)

  unfoldable counts : List Sent → List ℕ → List ℕ
  counts [] k = k
  counts (c ∷ cs) k = counts cs (counted_for (fate_in c s.memory) k)

  ends_left : (cs : List Sent) (k m : List ℕ) → Every Rmap cs → length m ≡ length s.memory
      → ends ours (at k m) cs ≡ at (counts cs k) (left (tells s) (leaves s) cs m)
  unfolding ends left counts
  ends_left [] k m all l = refl
  ends_left (c ∷ cs) k m all l =
      ap (λ (q : State). ends ours q cs) (step_next c k m all.0)
      ∙ ends_left cs (counted_for (fate_in c m) k) (leaves s c m) all.1 ((keeps s c all.0).long m l)
      ∙ ap (λ (f : Fate). at (counts cs (counted_for f k)) (left (tells s) (leaves s) cs (leaves s c m)))
      (same_fate s c all.0 m s.memory l).0

  length_left : (cs : List Sent) (m : List ℕ) → Every Rmap cs → length m ≡ length s.memory
      → length (left (tells s) (leaves s) cs m) ≡ length s.memory
  unfolding left
  length_left [] m all l = l
  length_left (c ∷ cs) m all l = length_left cs (leaves s c m) all.1 ((keeps s c all.0).long m l)

  -- counting goes in any order
  counts_later : (f : Fate) (cs : List Sent) (k : List ℕ) → counts cs (counted_for f k) ≡ counted_for f (counts cs k)
  unfolding counts
  counts_later f [] k = refl
  counts_later f (c ∷ cs) k =
      ap (counts cs) (count_order (fate_in c s.memory) f k) ∙ counts_later f cs (counted_for (fate_in c s.memory) k)

  counts_merge : {pattern : List Side} {xs ys zs : List Sent} (k : List ℕ) → Merge pattern xs ys zs → counts zs k ≡ counts xs (counts ys k)
  unfolding counts
  counts_merge k neither = refl
  counts_merge k (from_one {x = x} {xs = xs} {ys = ys} w) =
      counts_merge (counted_for (fate_in x s.memory) k) w ∙ ap (counts xs) (counts_later (fate_in x s.memory) ys k)
  counts_merge k (from_other {y = y} w) = counts_merge (counted_for (fate_in y s.memory) k) w

every_merge : {pattern : List Side} {xs ys zs : List Sent} → Merge pattern xs ys zs → Every Rmap xs → Every Rmap ys → Every Rmap zs
every_merge neither a b = tt
every_merge (from_one w) a b = (a.0, every_merge w a.1 b)
every_merge (from_other w) a b = (b.0, every_merge w a b.1)

-- ---- two lists that are apart

module _ (s : State) where
  abbrev stores_in : List Sent → ℕ → Bool
  stores_in cs i = some (λ c. stores s c i) cs

  abbrev refers_in : List Sent → ℕ → Bool
  refers_in cs i = some (λ c. refers s c i) cs

  -- the list stores only in W, and refers to nothing of U
  every_fits : (U W : ℕ → Bool) (cs : List Sent) → Every Rmap cs → ((i : ℕ) → W i ≡ false → stores_in cs i ≡ false)
      → ((i : ℕ) → refers_in cs i ≡ true → U i ≡ false) → Every (Fits (tells s) (leaves s) (refers s) (stores s) (length s.memory) U W) cs
  every_fits U W [] all w v = tt
  every_fits U W (c ∷ cs) all w v = (
    (keeps s c all.0, λ i e. (either_false (stores s c i) (stores_in cs i) (w i e)).0, λ i e. v i (rw e)),
    every_fits U W cs all.1 (λ i e. (either_false (stores s c i) (stores_in cs i) (w i e)).1) (λ i e. v i (rw e (or-true (refers s c i)))),
  )

  -- what does not refer does not store
  stores_refers : (cs : List Sent) → Every Rmap cs → (i : ℕ) → refers_in cs i ≡ false → stores_in cs i ≡ false
  stores_refers [] all i e = refl
  stores_refers (c ∷ cs) all i e =
      let b = either_false (refers s c i) (refers_in cs i) e in
      rw ((keeps s c all.0).within i b.0) (stores_refers cs all.1 i b.1)

  -- where one list is clear of the other
  clear_of : (xs ys : List Sent) → Clear s xs ys → (i : ℕ) → refers_in ys i ≡ true → stores_in xs i ≡ false
  clear_of xs ys clear i e = go (stores_in xs i) refl
    where
      go : (t : Bool) → stores_in xs i ≡ t → stores_in xs i ≡ false
      go true f = absurd (false≢true (sym (clear i f) ∙ e))
      go false f = f

  module _ (xs ys : List Sent) (rx : Every Rmap xs) (ry : Every Rmap ys) (apart : Apart s xs ys) where
    abbrev start : List ℕ
    start = s.memory

    -- as by itself: off what the other list stores; as the other: off what this one stores
    woven : {pattern : List Side} {zs : List Sent} → Merge pattern xs ys zs
        → Merge pattern (told (tells s) (leaves s) xs start) (told (tells s) (leaves s) ys start) (told (tells s) (leaves s) zs start)
        × Off (stores_in ys) (left (tells s) (leaves s) zs start) (left (tells s) (leaves s) xs start)
        × Off (stores_in xs) (left (tells s) (leaves s) zs start) (left (tells s) (leaves s) ys start)
    woven w =
        weave (tells s) (leaves s) (refers s) (stores s) (length start) (stores_in ys) (stores_in xs) start start start w
        (every_fits (stores_in ys) (stores_in xs) xs rx (λ i e. e) (clear_of ys xs apart.1))
        (every_fits (stores_in xs) (stores_in ys) ys ry (λ i e. e) (clear_of xs ys apart.0))
        refl refl refl (λ i e. refl) (λ i e. refl)

    each_as_alone : EachAsAlone ours s xs ys
    each_as_alone pattern zs w =
        let k = s.unit.counters in
        rw (heard_told s xs k start rx, heard_told s ys k start ry, heard_told s zs k start (every_merge w rx ry)) (woven w).0

    one_memory : {pattern pattern' : List Side} {zs zs' : List Sent} → Merge pattern xs ys zs → Merge pattern' xs ys zs'
        → left (tells s) (leaves s) zs start ≡ left (tells s) (leaves s) zs' start
    one_memory {zs = zs} {zs' = zs'} w w' =
        let l = length_left s zs start (every_merge w rx ry) refl in
        let l' = length_left s zs' start (every_merge w' rx ry) refl in
        ext_get_or 0 (left (tells s) (leaves s) zs start) (left (tells s) (leaves s) zs' start) (l ∙ sym l') (λ i h. go i (stores_in ys i) refl)
      where
        go : (i : ℕ) (t : Bool) → stores_in ys i ≡ t → get_or (left (tells s) (leaves s) zs start) i 0 ≡ get_or (left (tells s) (leaves s) zs' start) i 0
        go i false e = (woven w).1 i e ∙ sym ((woven w').1 i e)
        go i true e =
            let f = stores_refers xs rx i (apart.1 i e) in
            (woven w).2 i f ∙ sym ((woven w').2 i f)

    one_end : OneEnd ours s xs ys
    one_end pattern pattern' zs zs' w w' =
        let k = s.unit.counters in
        ends_left s zs k start (every_merge w rx ry) refl
        ∙ ap₂ (λ (c m : List ℕ). at s c m) (counts_merge s k w ∙ sym (counts_merge s k w')) (one_memory w w')
        ∙ sym (ends_left s zs' k start (every_merge w' rx ry) refl)

pub merges : Merges ours
merges s xs ys rx ry apart = (each_as_alone s xs ys rx ry apart, one_end s xs ys rx ry apart)
