-- Laws of parts and places: how long they are, and which byte stands where.
use mathlib.Core.Path.{◌≡◌, refl, sym, ap, ap₂, ◌∙◌}
use mathlib.Core.Bool.{Bool, true, false, cond, ◌&&◌, ◌||◌, false≢true}
use mathlib.Core.Logic.{◌⊎◌, inl, inr, ⊎_elim}
use mathlib.Core.List.{List, [], ◌∷◌, ◌++◌, append_assoc, append-nil}
use Prim.Native.Nat.{ℕ, zero, suc, ◌+◌, ◌-◌, ◌*◌, ◌/◌, ◌<◌, ◌≤◌, min}
use native.Mathlib.Omega.{arith}
use native.Mathlib.Decide.{dec_le}
use native.Mathlib.Nat.{lt_of_not-le, add_assoc, add-zero, zero-mul}
use borrow.Author.Tests.{leb-true, le-leb}
use lib.ListN.{length, get_or, take, drop, replicate, length-replicate, length-append, length-take, length-drop, take-append-drop, drop_of_length-le, get_or-append}
use borrow.Rule.Slice.PartMut.{put_mid}
use Rattle.std.proofs.lemmas.Slice.{put_mid-paste}
use Rattle.std.specs.List.{copy_within}
use Rattle.std.specs.Simd.{first_chunks}
use lib.Seq.{ext_get_or, paste, take_all, take-add, take-append_seam, take-append-le, take-append-add, drop-append_seam, drop-append-le, drop-append-add, length-take-le, take-length, take_at, drop_at, drop-drop, get_or-take, get_or-drop, get_or-append-add}
use Rattle.octets.proofs.Tabulate.{tabulate, length_tabulate}
use Rattle.octets.proofs.Tabulate.{at as at_place}
use Rattle.octets.specs.Places.{within, part, placed, copy_fits, copied, filled}

-- ---- a part

pub length_part : (from count : ℕ) (s : List ℕ) → from + count ≤ length s → length (part from count s) ≡ count
length_part from count s h = length-take-le count (drop from s) (simp length-drop (omega arith))

pub part_at : (from count : ℕ) (s : List ℕ) (i : ℕ) → i < count → get_or (part from count s) i 0 ≡ get_or s (from + i) 0
part_at from count s i h = get_or-take count (drop from s) i 0 h ∙ get_or-drop from s i 0

-- a part of a length that is written out, byte by byte: as a reader of fixed places has it
pub part_bytes : (from count : ℕ) (s : List ℕ) → from + suc count ≤ length s
    → part from (suc count) s ≡ get_or s from 0 ∷ tabulate 1 count (λ k. get_or s (from + k) 0)
part_bytes from count s h =
    let l = length_part from (suc count) s h in
    let f : ℕ → ℕ = λ k. get_or s (from + k) 0 in
    ext_get_or 0 (part from (suc count) s) (tabulate 0 (suc count) f) (l ∙ sym (length_tabulate f 0 (suc count)))
    (λ i g. part_at from (suc count) s i (omega arith) ∙ sym (at_place 0 f (suc count) i (omega arith)))
    ∙ ap (λ (k : ℕ). get_or s k 0 ∷ tabulate 1 count f) (add-zero from)

-- a part in two: what comes first, and what stands from its end on
pub part_split : (from m k to : ℕ) (s : List ℕ) → from + m ≡ to → part from (m + k) s ≡ part from m s ++ part to k s
part_split from m k to s e =
    rw (← e) (take-add m k (drop from s) ∙ ap (λ (l : List ℕ). part from m s ++ take k l) (drop-drop m from s))

-- a part, and all that stands behind it
pub part_rest : (from count : ℕ) (s : List ℕ) → part from count s ++ drop (from + count) s ≡ drop from s
part_rest from count s =
    ap (λ (l : List ℕ). part from count s ++ l) (sym (drop-drop count from s)) ∙ take-append-drop count (drop from s)

pub part_first : (from k to : ℕ) (s : List ℕ) → from + 1 ≡ to → to ≤ length s → part from (1 + k) s ≡ get_or s from 0 ∷ part to k s
part_first from k to s e h =
    part_split from 1 k to s e ∙ ap (λ (l : List ℕ). l ++ part to k s) (part_bytes from 0 s (omega arith))

-- what stands behind x, from its end on
pub part_behind : (x y : List ℕ) (at j count : ℕ) → length x ≡ at → part (at + j) count (x ++ y) ≡ part j count y
part_behind x y at j count e = rw (← e, drop-append-add x y j)

pub part_at_behind : (x y : List ℕ) (at j : ℕ) → length x ≡ at → get_or (x ++ y) (at + j) 0 ≡ get_or y j 0
part_at_behind x y at j e = rw (← e) (get_or-append-add x y j 0)

-- ---- the first and the rest of two rows, and a number of bytes that may be too large

module _ (n : ℕ) (x y : List ℕ) where
  pub take_append : take n (x ++ y) ≡ take n x ++ take (n - length x) y
  take_append = go (dec_le n (length x))
    where
      go : Dec (n ≤ length x) → take n (x ++ y) ≡ take n x ++ take (n - length x) y
      go (yes h) =
          let none : n - length x ≡ 0 = omega arith in
          take-append-le n x y h ∙ sym (append-nil (take n x)) ∙ ap (λ (k : ℕ). take n x ++ take k y) (sym none)
      go (no h) =
          let l = lt_of_not-le h in
          let e : n ≡ length x + (n - length x) = omega (arith, l) in
          ap (λ (k : ℕ). take k (x ++ y)) e ∙ take-append-add x y (n - length x) ∙ ap (λ (b : List ℕ). b ++ take (n - length x) y) (sym (take_all n x (omega (arith, l))))

  pub drop_append : drop n (x ++ y) ≡ drop n x ++ drop (n - length x) y
  drop_append = go (dec_le n (length x))
    where
      go : Dec (n ≤ length x) → drop n (x ++ y) ≡ drop n x ++ drop (n - length x) y
      go (yes h) = let none : n - length x ≡ 0 = omega arith in drop-append-le n x y h ∙ ap (λ (k : ℕ). drop n x ++ drop k y) (sym none)
      go (no h) =
          let l = lt_of_not-le h in
          let e : n ≡ length x + (n - length x) = omega (arith, l) in
          ap (λ (k : ℕ). drop k (x ++ y)) e ∙ drop-append-add x y (n - length x)
          ∙ ap (λ (b : List ℕ). b ++ drop (n - length x) y) (sym (drop_of_length-le x {i = n} (omega (arith, l))))

-- a number that passes the end counts as the end
module _ (n : ℕ) (x : List ℕ) where
  pub take_min : take (min n (length x)) x ≡ take n x
  take_min =
      ap (λ (k : ℕ). take k x) (sym (length-take n x)) ∙ ap (take (length (take n x))) (sym (take-append-drop n x)) ∙ take-append_seam (take n x) (drop n x)

  pub drop_min : drop (min n (length x)) x ≡ drop n x
  drop_min =
      ap (λ (k : ℕ). drop k x) (sym (length-take n x)) ∙ ap (drop (length (take n x))) (sym (take-append-drop n x)) ∙ drop-append_seam (take n x) (drop n x)

-- ---- bytes put at a place

-- all of p pasted is p placed
pub pasted : (d : List ℕ) (at : ℕ) (p : List ℕ) (n : ℕ) → length p ≡ n → paste d at p n ≡ placed at p d
pasted d at p n e = rw (← e, take-length p)

module _ (at : ℕ) (p d : List ℕ) (fits : at + length p ≤ length d) where
  front : length (take at d) ≡ at
  front = length-take-le at d (omega arith)

  head : length (take at d ++ p) ≡ at + length p
  head = length-append (take at d) p ∙ ap (λ (k : ℕ). k + length p) front

  -- it keeps its length
  pub length_placed : length (placed at p d) ≡ length d
  length_placed = omega (arith, length-append (take at d ++ p) (drop (at + length p) d), head, length-drop (at + length p) d)

  -- what stands up to its end, and what behind it
  pub take_placed : take (at + length p) (placed at p d) ≡ take at d ++ p
  take_placed = take_at (take at d ++ p) (drop (at + length p) d) (at + length p) head

  pub drop_placed : drop (at + length p) (placed at p d) ≡ drop (at + length p) d
  drop_placed = drop_at (take at d ++ p) (drop (at + length p) d) (at + length p) head

  -- what was put can be read back
  pub part_placed : part at (length p) (placed at p d) ≡ p
  part_placed = rw (append_assoc (take at d) p (drop (at + length p) d), drop_at (take at d) (p ++ drop (at + length p) d) at front)
      (take_at p (drop (at + length p) d) (length p) refl)

  -- a byte before it, in it and after it
  pub placed_before : (i : ℕ) → i < at → get_or (placed at p d) i 0 ≡ get_or d i 0
  placed_before i h =
      ap (λ (l : List ℕ). get_or l i 0) (append_assoc (take at d) p (drop (at + length p) d))
      ∙ get_or-append (take at d) (p ++ drop (at + length p) d) 0 i (omega (arith, front))
      ∙ get_or-take at d i 0 h

  pub placed_in : (i : ℕ) → i < length p → get_or (placed at p d) (at + i) 0 ≡ get_or p i 0
  placed_in i h =
      ap (λ (l : List ℕ). get_or l (at + i) 0) (append_assoc (take at d) p (drop (at + length p) d))
      ∙ ap (λ (k : ℕ). get_or (take at d ++ (p ++ drop (at + length p) d)) k 0) (ap (λ (k : ℕ). k + i) (sym front))
      ∙ get_or-append-add (take at d) (p ++ drop (at + length p) d) i 0
      ∙ get_or-append p (drop (at + length p) d) 0 i h

  pub placed_after : (i : ℕ) → at + length p ≤ i → get_or (placed at p d) i 0 ≡ get_or d i 0
  placed_after i h =
      let e : i ≡ length (take at d ++ p) + (i - (at + length p)) = omega (arith, head) in
      ap (λ (k : ℕ). get_or (placed at p d) k 0) e
      ∙ get_or-append-add (take at d ++ p) (drop (at + length p) d) (i - (at + length p)) 0
      ∙ get_or-drop (at + length p) d (i - (at + length p)) 0
      ∙ ap (λ (k : ℕ). get_or d k 0) (omega arith)

  -- a part beside it
  pub part_beside : (from count : ℕ) → (from + count ≤ at) ⊎ (at + length p ≤ from) → part from count (placed at p d) ≡ part from count d
  part_beside from count o =
      ext_get_or 0 (part from count (placed at p d)) (part from count d)
      (rw (
        length-take count (drop from (placed at p d)),
        length-take count (drop from d),
        length-drop from (placed at p d),
        length-drop from d,
        length_placed,
      ))
      (λ i h.
      let m = length-take count (drop from (placed at p d)) in
      let g : i < count = omega arith in
      part_at from count (placed at p d) i g
      ∙ ⊎_elim (λ (b : from + count ≤ at). placed_before (from + i) (omega arith)) (λ (a : at + length p ≤ from). placed_after (from + i) (omega arith)) o
      ∙ sym (part_at from count d i g))

-- bytes put behind bytes are one row of bytes
pub placed_on : (at : ℕ) (p q d : List ℕ) → at + length p + length q ≤ length d
    → placed (at + length p) q (placed at p d) ≡ placed at (p ++ q) d
placed_on at p q d h =
    let n = at + length p in
    let fits : n ≤ length d = omega arith in
    rw (
      take_placed at p d fits,
      ← drop-drop (length q) n (placed at p d),
      drop_placed at p d fits,
      drop-drop (length q) n d,
      length-append p q,
      ← add_assoc at (length p) (length q),
      append_assoc (take at d) p q,
    )

-- no bytes put, wherever
pub placed_none : (at : ℕ) (d : List ℕ) → placed at [] d ≡ d
placed_none at d = rw (append-nil (take at d), add-zero at) (take-append-drop at d)

-- bytes put over their own places stay
pub placed_same : (at count : ℕ) (d : List ℕ) → at + count ≤ length d → placed at (part at count d) d ≡ d
placed_same at count d h =
    rw (length_part at count d h, append_assoc (take at d) (part at count d) (drop (at + count) d), ← drop-drop count at d)
    (ap (λ (l : List ℕ). take at d ++ l) (take-append-drop count (drop at d)) ∙ take-append-drop at d)

-- bytes put over bytes hide them
pub placed_hides : (to at : ℕ) (p q d : List ℕ) → to ≤ at → at + length q ≤ to + length p → to + length p ≤ length d
    → placed to p (placed at q d) ≡ placed to p d
placed_hides to at p q d before behind fits =
    let room : at + length q ≤ length d = omega arith in
    let front : take to (placed at q d) ≡ take to d = part_beside at q d room 0 to (inl (omega arith)) in
    let back : drop (to + length p) (placed at q d) ≡ drop (to + length p) d =
    ext_get_or 0 (drop (to + length p) (placed at q d)) (drop (to + length p) d)
    (rw (length-drop (to + length p) (placed at q d), length-drop (to + length p) d, length_placed at q d room))
    (λ i g.
    get_or-drop (to + length p) (placed at q d) i 0
    ∙ placed_after at q d room (to + length p + i) (omega arith)
    ∙ sym (get_or-drop (to + length p) d i 0)) in
    ap₂ (λ (x y : List ℕ). x ++ p ++ y) front back

-- ---- copies and fills, whether they fit or not

pub first_true : (a b : Bool) → (a && b) ≡ true → a ≡ true
first_true true b e = refl
first_true false b e = e

pub second_true : (a b : Bool) → (a && b) ≡ true → b ≡ true
second_true true b e = e
second_true false b e = absurd (false≢true e)

pub either_false : (a b : Bool) → (a || b) ≡ false → (a ≡ false) × (b ≡ false)
either_false true b e = absurd (false≢true (sym e))
either_false false b e = (refl, e)

-- d with p placed where a test lets it, and as it was where not: it keeps its length, and every byte outside p's places
module _ (at : ℕ) (p d : List ℕ) where
  pub placed_if_length : (t : Bool) → (t ≡ true → at + length p ≤ length d) → length (cond t (placed at p d) d) ≡ length d
  placed_if_length true h = length_placed at p d (h refl)
  placed_if_length false h = refl

  pub placed_if_none : (t : Bool) → p ≡ [] → cond t (placed at p d) d ≡ d
  placed_if_none true e = ap (λ (l : List ℕ). placed at l d) e ∙ placed_none at d
  placed_if_none false e = refl

  pub placed_if_outside : (t : Bool) → (t ≡ true → at + length p ≤ length d) → (i : ℕ) → (i < at) ⊎ (at + length p ≤ i)
      → get_or (cond t (placed at p d) d) i 0 ≡ get_or d i 0
  placed_if_outside true h i o = ⊎_elim (placed_before at p d (h refl) i) (placed_after at p d (h refl) i) o
  placed_if_outside false h i o = refl

module _ (s : List ℕ) (from count : ℕ) (d : List ℕ) (at : ℕ) where
  copy_room : copy_fits s from count d at ≡ true → at + length (part from count s) ≤ length d
  copy_room e =
      let r = leb-true (at + count) (length d) (second_true (within from count s) (within at count d) e) in
      simp length-take (omega arith)

  pub copied_done : from + count ≤ length s → at + count ≤ length d → copied s from count d at ≡ placed at (part from count s) d
  unfolding copied
  copied_done h k = rw (le-leb (from + count) (length s) h, le-leb (at + count) (length d) k)

  pub copied_not : false ≡ copy_fits s from count d at → d ≡ copied s from count d at
  unfolding copied
  copied_not e = rw (sym e)

  pub copied_none : count ≡ 0 → copied s from count d at ≡ d
  unfolding copied
  copied_none e = placed_if_none at (part from count s) d (copy_fits s from count d at) (ap (λ (n : ℕ). take n (drop from s)) e)

  pub length_copied : length (copied s from count d at) ≡ length d
  unfolding copied
  length_copied = placed_if_length at (part from count s) d (copy_fits s from count d at) copy_room

  pub part_copied : copy_fits s from count d at ≡ true → part at count (copied s from count d at) ≡ part from count s
  unfolding copied
  part_copied e =
      let r = copy_room e in
      let l : length (part from count s) ≡ count =
      length_part from count s (leb-true (from + count) (length s) (first_true (within from count s) (within at count d) e)) in
      rw e (ap (λ (k : ℕ). part at k (placed at (part from count s) d)) (sym l) ∙ part_placed at (part from count s) d r)

  pub copied_outside : (i : ℕ) → (i < at) ⊎ (at + count ≤ i) → get_or (copied s from count d at) i 0 ≡ get_or d i 0
  unfolding copied
  copied_outside i o =
      placed_if_outside at (part from count s) d (copy_fits s from count d at) copy_room i
      (⊎_elim (λ l. inl l) (λ (g : at + count ≤ i). inr (simp length-take (omega arith))) o)

module _ (d : List ℕ) (at count b : ℕ) where
  fill_room : within at count d ≡ true → at + length (replicate count b) ≤ length d
  fill_room e = let r = leb-true (at + count) (length d) e in simp length-replicate (omega arith)

  pub filled_done : at + count ≤ length d → filled d at count b ≡ placed at (replicate count b) d
  unfolding filled
  filled_done h = rw (le-leb (at + count) (length d) h)

  pub filled_not : false ≡ within at count d → d ≡ filled d at count b
  unfolding filled
  filled_not e = rw (sym e)

  pub filled_none : count ≡ 0 → filled d at count b ≡ d
  unfolding filled
  filled_none e = placed_if_none at (replicate count b) d (within at count d) (ap (λ (n : ℕ). replicate n b) e)

  pub length_filled : length (filled d at count b) ≡ length d
  unfolding filled
  length_filled = placed_if_length at (replicate count b) d (within at count d) fill_room

  pub part_filled : within at count d ≡ true → part at count (filled d at count b) ≡ replicate count b
  unfolding filled
  part_filled e =
      rw e (ap (λ (k : ℕ). part at k (placed at (replicate count b) d)) (sym (length-replicate count b))
      ∙ part_placed at (replicate count b) d (fill_room e))

  pub filled_outside : (i : ℕ) → (i < at) ⊎ (at + count ≤ i) → get_or (filled d at count b) i 0 ≡ get_or d i 0
  unfolding filled
  filled_outside i o =
      placed_if_outside at (replicate count b) d (within at count d) fill_room i
      (⊎_elim (λ l. inl l) (λ g. inr (simp length-replicate g)) o)

-- ---- what a method of the library leaves of bytes whose part it was given

-- of the part from `at` up to `at + count`
pub put_placed : (at count : ℕ) (p d : List ℕ) → length p ≡ count → put_mid at (at + count - at) d p ≡ placed at p d
put_placed at count p d e = put_mid-paste at (at + count - at) d p p (length p) refl (omega (arith, e)) refl ∙ pasted d at p (length p) refl

pub length_middle : (at count : ℕ) (d : List ℕ) → at + count ≤ length d → length (take (at + count - at) (drop at d)) ≡ count
length_middle at count d h = length-take-le (at + count - at) (drop at d) (omega (arith, length-drop at d)) ∙ omega arith

-- of a move to the start
pub move_placed : (from count : ℕ) (d : List ℕ) → from + count ≤ length d → copy_within d from (from + count) 0 ≡ placed 0 (part from count d) d
move_placed from count d h =
    let long : length (part from count d) ≡ count = length_part from count d h in
    let count_is : from + count - from ≡ count = omega arith in
    ap (λ (n : ℕ). paste d 0 (drop from d) n) count_is ∙ ap (λ (n : ℕ). take 0 d ++ (part from count d ++ drop (0 + n) d)) (sym long)

-- a chunk of n bytes, of those that a row is cut into, is a part of the row
pub chunk_part : (n count : ℕ) (s : List ℕ) (k : ℕ) → k < count → get_or (first_chunks n count s) k [] ≡ part (k * n) n s
chunk_part n zero s k h = absurd (omega arith)
chunk_part n (suc count) s zero h = ap (λ (from : ℕ). take n (drop from s)) (sym (zero-mul n))
chunk_part n (suc count) s (suc k) h =
    let on : n + k * n ≡ suc k * n = omega arith in
    chunk_part n count (drop n s) k (omega arith) ∙ ap (take n) (drop-drop (k * n) n s ∙ ap (λ (from : ℕ). drop from s) on)

pub length_rest : (from : ℕ) (s : List ℕ) → from ≤ length s → length (part from (length s - from) s) ≡ length s - from
length_rest from s h = length_part from (length s - from) s (omega arith)

-- and so is one of those that what comes behind the first `from` bytes is cut into
pub chunk_rest : (n from : ℕ) (s : List ℕ) (rows : List (List ℕ)) (k : ℕ) → rows ≡ first_chunks n (length (part from (length s - from) s) / n) (part from (length s - from) s)
    → k < (length s - from) / n → get_or rows k [] ≡ part (from + k * n) n s
chunk_rest n from s rows k e h =
    let long : length (drop from s) ≡ length s - from = length-drop from s in
    let rest : part from (length s - from) s ≡ drop from s = take_all (length s - from) (drop from s) (omega (arith, long)) in
    ap (λ (l : List (List ℕ)). get_or l k []) (e ∙ ap (λ (l : List ℕ). first_chunks n (length l / n) l) rest)
    ∙ chunk_part n (length (drop from s) / n) (drop from s) k (rw long h)
    ∙ ap (take n) (drop-drop (k * n) from s)
