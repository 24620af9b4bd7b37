-- A test that holds of every number below n, by a table that antt computes.
use mathlib.Core.Path.{◌≡◌, sym, ◌∙◌, ap}
use mathlib.Core.Bool.{Bool, true, false}
use mathlib.Core.List.{List}
use Prim.Native.Nat.{ℕ, ◌<◌}
use lib.ListN.{get_or}
use Rattle.octets.proofs.Tabulate.{tabulate, at}

pub below : (p : ℕ → Bool) (n : ℕ) → tabulate 0 n p ≡ tabulate 0 n (λ k. true) → (k : ℕ) → k < n → p k ≡ true
below p n e k h = sym (at false p n k h) ∙ ap (λ (l : List Bool). get_or l k false) e ∙ at false (λ i. true) n k h
