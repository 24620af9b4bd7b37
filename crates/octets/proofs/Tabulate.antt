-- Two functions that agree on every number below n, by a comparison that antt computes: their tables are one list.
use mathlib.Core.Path.{◌≡◌, refl, sym, ap, ◌∙◌}
use mathlib.Core.List.{List, [], ◌∷◌}
use Prim.Native.Nat.{ℕ, zero, suc, ◌+◌, ◌<◌}
use native.Mathlib.Nat.{add-zero, zero-add, add-suc, suc-add, le_of_suc-le-suc, not-suc-le-zero}
use lib.ListN.{length, get_or}
use lib.Seq.{ext_get_or}

-- f at the n numbers from i on
abbrev pub tabulate : {A : Type 0} → ℕ → ℕ → (ℕ → A) → List A
tabulate i zero f = []
tabulate i (suc n) f = f i ∷ tabulate (suc i) n f

from : {A : Type 0} (d : A) (f : ℕ → A) (i n k : ℕ) → k < n → get_or (tabulate i n f) k d ≡ f (i + k)
from d f i zero k h = absurd (not-suc-le-zero h)
from d f i (suc n) zero h = ap f (sym (add-zero i))
from d f i (suc n) (suc k) h = from d f (suc i) n k (le_of_suc-le-suc h) ∙ ap f (suc-add i k ∙ sym (add-suc i k))

pub at : {A : Type 0} (d : A) (f : ℕ → A) (n k : ℕ) → k < n → get_or (tabulate 0 n f) k d ≡ f k
at d f n k h = from d f 0 n k h ∙ ap f (zero-add k)

pub same : (f g : ℕ → ℕ) (n : ℕ) → tabulate 0 n f ≡ tabulate 0 n g → (k : ℕ) → k < n → f k ≡ g k
same f g n e k h = sym (at 0 f n k h) ∙ ap (λ (l : List ℕ). get_or l k 0) e ∙ at 0 g n k h

pub length_tabulate : {A : Type 0} (f : ℕ → A) (i n : ℕ) → length (tabulate i n f) ≡ n
length_tabulate f i zero = refl
length_tabulate f i (suc n) = ap suc (length_tabulate f (suc i) n)

-- a list is the table of its elements; of a number n that is written out, this names them one by one
pub tabulated : (l : List ℕ) (n : ℕ) → length l ≡ n → l ≡ tabulate 0 n (λ k. get_or l k 0)
tabulated l n e =
    ext_get_or 0 l (tabulate 0 n (λ k. get_or l k 0)) (e ∙ sym (length_tabulate (λ k. get_or l k 0) 0 n))
    (λ i h. sym (at 0 (λ k. get_or l k 0) n i (rw e at h)))
