-- Functions that exclusive or goes through. Two of them that agree on the powers of two agree: that is computed, one power after the other.
use mathlib.Core.Path.{◌≡◌, refl, sym, ap, ap₂, ◌∙◌}
use Prim.Native.Nat.{ℕ, zero, suc, ◌+◌, ◌*◌, ◌/◌, ◌%◌, ◌^◌, ◌<◌}
use native.Mathlib.Omega.{arith}
use native.Mathlib.Nat.{add-zero, zero-mul, one-mul, mod-lt}
use native.Mathlib.Numerals.{one-add}
use lib.Pow.{pow_pos, shr_lt, split}
use lib.Bits.{bit_xor, xor_shr, xor_mod, xor_block, xor_self, xor_shifted}
use Rattle.octets.proofs.Tabulate.{tabulate, same}
use Rattle.octets.proofs.Xor.{xor_cross}

pub record Linear (f : ℕ → ℕ) : Type 0 where
  pub through : (a b : ℕ) → f (bit_xor a b) ≡ bit_xor (f a) (f b)

-- ---- which ones are

pub shifted_down : (k : ℕ) → Linear (λ x. x / 2 ^ k)
shifted_down k = record { through = λ a b. xor_shr a b k }

pub lowest : (k : ℕ) → Linear (λ x. x % 2 ^ k)
lowest k = record { through = λ a b. xor_mod a b k }

shift_up : (k a b : ℕ) → bit_xor a b * 2 ^ k ≡ bit_xor (a * 2 ^ k) (b * 2 ^ k)
shift_up k a b = sym (simp add-zero at (xor_block k a b 0 0 (pow_pos k) (pow_pos k)))

pub shifted_up : (k : ℕ) → Linear (λ x. x * 2 ^ k)
shifted_up k = record { through = shift_up k }

pub itself : Linear (λ x. x)
itself = record { through = λ a b. refl }

pub sum : {f g : ℕ → ℕ} → Linear f → Linear g → Linear (λ x. bit_xor (f x) (g x))
sum {f} {g} p q =
    record { through = λ a b. ap₂ bit_xor (p.through a b) (q.through a b) ∙ xor_cross (f a) (f b) (g a) (g b) }

pub after : {f g : ℕ → ℕ} → Linear f → Linear g → Linear (λ x. f (g x))
after {f} {g} p q = record { through = λ a b. ap f (q.through a b) ∙ p.through (g a) (g b) }

-- ---- where they agree

pub at_zero : {f : ℕ → ℕ} → Linear f → f 0 ≡ 0
at_zero {f} p = p.through 0 0 ∙ xor_self (f 0)

module _ {f g : ℕ → ℕ} (p : Linear f) (q : Linear g) where
  zeros : f 0 ≡ g 0
  zeros = at_zero p ∙ sym (at_zero q)

  -- a bit above the others, and the others
  bit_more : (n d r : ℕ) → d < 2 → r < 2 ^ n → f (2 ^ n) ≡ g (2 ^ n) → f r ≡ g r → f (d * 2 ^ n + r) ≡ g (d * 2 ^ n + r)
  bit_more n d r hd hr top rest =
      rw (← xor_shifted d n r hr, p.through (d * 2 ^ n) r, q.through (d * 2 ^ n) r) (ap₂ bit_xor (bit d hd) rest)
    where
      bit : (d : ℕ) → d < 2 → f (d * 2 ^ n) ≡ g (d * 2 ^ n)
      bit zero h = rw (zero-mul (2 ^ n)) zeros
      bit (suc zero) h = rw (one-mul (2 ^ n)) top
      bit (suc (suc d)) h = absurd (omega arith)

  on_powers : (n : ℕ) → ((k : ℕ) → k < n → f (2 ^ k) ≡ g (2 ^ k)) → (x : ℕ) → x < 2 ^ n → f x ≡ g x
  on_powers zero e x h = let z : x ≡ 0 = omega arith in rw z zeros
  on_powers (suc n) e x h =
      let some : 0 < 2 ^ n = pow_pos n in
      let top : x / 2 ^ n < 2 = shr_lt 1 n (rw one-add h) in
      rw (← split x n)
      (bit_more n (x / 2 ^ n) (x % 2 ^ n) top (mod-lt x some) (e n (omega arith))
      (on_powers n (λ k hk. e k (omega arith)) (x % 2 ^ n) (mod-lt x some)))

  pub basis : (n : ℕ) → tabulate 0 n (λ k. f (2 ^ k)) ≡ tabulate 0 n (λ k. g (2 ^ k)) → (x : ℕ) → x < 2 ^ n → f x ≡ g x
  basis n e = on_powers n (same (λ k. f (2 ^ k)) (λ k. g (2 ^ k)) n e)
