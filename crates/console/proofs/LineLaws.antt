-- Laws of lines: what stands before the first line end has none, wherever it lies in a buffer; what is left of an input goes to the buffer's start; and whole lines are inside what is read.
use native.Mathlib.Omega.{arith}
use mathlib.Core.Path.{◌≡◌, refl, sym, ap, ◌∙◌}
use mathlib.Core.Bool.{Bool, true, false, cond}
use mathlib.Core.List.{List, [], ◌∷◌}
use Prim.Native.Nat.{ℕ, ◌+◌, ◌-◌, ◌≤◌}
use Rattle.std.specs.Prelude.{ltb}
use lib.Dec.{eqb}
use borrow.Author.Tests.{leb-true}
use lib.ListN.{length, take, drop}
use Rattle.std.proofs.lemmas.List.{length-take}
use lib.Seq.{take-take}
use Rattle.octets.specs.Places.{part, placed, within, copied}
use Rattle.octets.proofs.PlaceLaws.{length_part, copied_done, copied_none}
use Rattle.script.specs.Fields.{up_to, line_end}
use Rattle.script.proofs.FieldLaws.{up_to_take, runnable_inside}
use Rattle.console.specs.Input.{buffer, none_read, unfinished, moved, have_come, come}
use Rattle.console.specs.declared.lines.Input.{Input}

-- what stands before a byte has nothing behind it
pub up_to_twice : (stop : ℕ) (s : List ℕ) → up_to stop (up_to stop s) ≡ up_to stop s
unfolding up_to
up_to_twice stop [] = refl
up_to_twice stop (b ∷ s) = go (eqb b stop) refl (up_to_twice stop s)
  where
    go : (t : Bool) → eqb b stop ≡ t → up_to stop (up_to stop s) ≡ up_to stop s → up_to stop (cond t [] (b ∷ up_to stop s)) ≡ cond t [] (b ∷ up_to stop s)
    go true e h = refl
    go false e h = rw e (ap (λ (l : List ℕ). b ∷ l) h)

-- of the bytes from `from` up to `have`, those up to `end`, which is the place of the first line end or the last place
pub a_line :
    (s : List ℕ) (from have end : ℕ)
    → end ≡ from + length (up_to line_end (part from (have - from) s))
    → end ≤ have
    → up_to line_end (part from (end - from) s) ≡ part from (end - from) s
a_line s from have end is inside =
    let x = part from (have - from) s in
    let cut : part from (end - from) s ≡ up_to line_end x =
    sym (take-take (end - from) (have - from) (drop from s) (omega arith))
    ∙ ap (λ (n : ℕ). take n x) (omega arith)
    ∙ up_to_take line_end x in
    ap (up_to line_end) cut ∙ up_to_twice line_end x ∙ sym cut

-- the first line is the part that has as many bytes, and has no line end in it
pub first_line : (s : List ℕ) (n : ℕ) → n ≡ length (up_to line_end s) → take n s ≡ up_to line_end s
first_line s n is = ap (λ (k : ℕ). take k s) is ∙ up_to_take line_end s

pub line_alone : (s : List ℕ) (n : ℕ) → n ≡ length (up_to line_end s) → up_to line_end (take n s) ≡ take n s
line_alone s n is =
    let cut = first_line s n is in
    ap (up_to line_end) cut ∙ up_to_twice line_end s ∙ sym cut

-- what is left is no longer than the buffer, and at its start once it was moved there
moved_left : (i : Input) → (copied i.space i.whole (length (unfinished i)) i.space 0 ≡ placed 0 (unfinished i) i.space) × (length (unfinished i) ≤ length i.space)
moved_left i = go (i.have - i.whole) (within i.whole (i.have - i.whole) i.space) refl
  where
    go :
        (n : ℕ)
        → (t : Bool)
        → within i.whole n i.space ≡ t
        → (copied i.space i.whole (length (cond t (part i.whole n i.space) [])) i.space 0 ≡ placed 0 (cond t (part i.whole n i.space) []) i.space)
        × (length (cond t (part i.whole n i.space) []) ≤ length i.space)
    go n true e =
        let h = leb-true (i.whole + n) (length i.space) e in
        let s = length_part i.whole n i.space h in
        (ap (λ (k : ℕ). copied i.space i.whole k i.space 0) s ∙ copied_done i.space i.whole n i.space 0 h (omega arith), omega (arith, s))
    go n false e = (copied_none i.space i.whole 0 i.space 0 refl, omega arith)

pub left_moved : (i : Input) (n : ℕ) (then : List ℕ) → n ≡ length (unfinished i) → then ≡ copied i.space i.whole n i.space 0
    → record { space = then; whole = 0; have = n; last = i.last } ≡ moved i
left_moved i n then n_is then_is =
    let start : then ≡ placed 0 (unfinished i) i.space = then_is ∙ ap (λ (k : ℕ). copied i.space i.whole k i.space 0) n_is ∙ (moved_left i).0 in
    λ j. record { space = start j; whole = 0; have = n_is j; last = i.last }

-- What each function leaves: the whole lines are inside what is read, and that is inside the buffer.
abbrev pub Inside : Input → Type 0
Inside i = (i.whole ≤ i.have) × (i.have ≤ buffer)

pub none_read_inside : Inside none_read
none_read_inside = (omega arith, omega arith)

pub moved_inside : (i : Input) → length i.space ≡ buffer → Inside (moved i)
moved_inside i size =
    let fits = (moved_left i).1 in
    (omega arith, omega (arith, fits, size))

pub come_inside : (n : ℕ) (i : Input) → Inside (come n i)
come_inside n i =
    let h = have_come n i in
    let short = length-take h i.space in
    let run = runnable_inside (ltb h buffer) (take h i.space) in
    (omega (arith, short, run), omega arith)
