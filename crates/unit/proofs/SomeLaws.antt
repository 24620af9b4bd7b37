-- Laws of a test along a list, from a place on.
use Rattle.std.proofs.Common.{◌≡◌, ℕ, ◌+◌, ◌<◌, ◌≤◌, Bool, true, false, ◌||◌, List, length, get_or, drop, ◌∙◌, add-one, drop_of_length-le, drop-cons}
use Rattle.unit.specs.Some.{some}

module _ {A : Type 0} (p : A → Bool) (l : List A) where
  some_at : (i : ℕ) (d : A) → i < length l → some p (drop i l) ≡ (p (get_or l i d) || some p (drop (i + 1) l))
  some_at i d h = rw (drop-cons l i d h, add-one)

  pub some_hit : (i : ℕ) (d : A) → i < length l → p (get_or l i d) ≡ true → some p (drop i l) ≡ true
  some_hit i d h e = some_at i d h ∙ rw e

  pub some_miss : (i : ℕ) (d : A) → i < length l → p (get_or l i d) ≡ false → some p (drop i l) ≡ some p (drop (i + 1) l)
  some_miss i d h e = some_at i d h ∙ rw e

  pub some_end : (i : ℕ) → length l ≤ i → some p (drop i l) ≡ false
  some_end i h = rw (drop_of_length-le l {i = i} h)
