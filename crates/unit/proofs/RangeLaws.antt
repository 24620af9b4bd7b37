-- Laws of a range with its last number: what it contains is what two comparisons say.
use Rattle.std.proofs.Common.{◌≡◌, ℕ, Bool, false, Ordering, Option, Some, cond, ◌&&◌, leb, ◌∙◌, rules}
use Rattle.std.specs.Ordering.{nat_cmp, partial_lt, partial_le}

abbrev order : ℕ → ℕ → Option Ordering
order a b = Some (nat_cmp a b)

as_le : (a b : ℕ) → partial_le order a b ≡ leb a b
as_le a b = search rules

pub contains_is : (first last n : ℕ) {a b : ℕ} {spent t : Bool} → a ≡ first → b ≡ last → spent ≡ false
    → t ≡ (partial_le order a n && cond spent (partial_lt order n b) (partial_le order n b)) → t ≡ (leb first n && leb n last)
contains_is first last n a b e f = f ∙ rw (a, b, e, as_le first n, as_le n last)
