-- Turns to spare: what one turn more does not change, once there are n, is with n or more turns what it is with n.
use Rattle.std.proofs.Common.{◌≡◌, ℕ, zero, suc, ◌+◌, ◌-◌, ◌≤◌, ap, ◌∙◌, suc-add, zero-add, arith}

pub enough_turns : {A : Type 0} (f : ℕ → A) (n : ℕ) → ((k : ℕ) → n ≤ k → f (suc k) ≡ f k) → (k : ℕ) → n ≤ k → f k ≡ f n
enough_turns f n spare k h =
    let e : k ≡ (k - n) + n = omega arith in
    ap f e ∙ go (k - n)
  where
    go : (j : ℕ) → f (j + n) ≡ f n
    go zero = ap f (zero-add n)
    go (suc j) = ap f (suc-add j n) ∙ spare (j + n) (omega arith) ∙ go j
