-- Exclusive or is associative, two sums of two can be added crosswise, and of bits it goes through a product. From bit to bit: numbers are equal where
-- their halves and their last bits are.
use mathlib.Core.Path.{◌≡◌, refl, sym, ◌∙◌}
use Prim.Native.Nat.{ℕ, zero, suc, ◌*◌, ◌/◌, ◌%◌, ◌<◌}
use native.Mathlib.Nat.{mod-lt, zero-lt-suc, zero-mul}
use native.Mathlib.Omega.{arith}
use lib.Arith.{bin_ind}
use lib.Bits.{bit_xor, xor_comm, xor_self, xor_zero_r, xor_shr, xor_mod}

halves : {a b : ℕ} → a / 2 ≡ b / 2 → a % 2 ≡ b % 2 → a ≡ b
halves p q = omega arith

bit_assoc : (x y z : ℕ) → x < 2 → y < 2 → z < 2 → bit_xor (bit_xor x y) z ≡ bit_xor x (bit_xor y z)
bit_assoc zero y z hx hy hz = refl
bit_assoc (suc zero) zero z hx hy hz = refl
bit_assoc (suc zero) (suc zero) zero hx hy hz = refl
bit_assoc (suc zero) (suc zero) (suc zero) hx hy hz = refl
bit_assoc (suc zero) (suc zero) (suc (suc z)) hx hy hz = absurd (omega arith)
bit_assoc (suc zero) (suc (suc y)) z hx hy hz = absurd (omega arith)
bit_assoc (suc (suc x)) y z hx hy hz = absurd (omega arith)

pub low : (n : ℕ) → n % 2 < 2
low n = mod-lt n (zero-lt-suc 1)

pub xor_assoc : (a b c : ℕ) → bit_xor (bit_xor a b) c ≡ bit_xor a (bit_xor b c)
xor_assoc =
    bin_ind (λ (a : ℕ). (b c : ℕ) → bit_xor (bit_xor a b) c ≡ bit_xor a (bit_xor b c)) (λ b c. refl)
    (λ a ih b c. halves
    (rw (xor_shr (bit_xor a b) c 1, xor_shr a b 1, xor_shr a (bit_xor b c) 1, xor_shr b c 1) (ih (b / 2) (c / 2)))
    (rw (xor_mod (bit_xor a b) c 1, xor_mod a b 1, xor_mod a (bit_xor b c) 1, xor_mod b c 1)
    (bit_assoc (a % 2) (b % 2) (c % 2) (low a) (low b) (low c))))

pub xor_cross : (p q r s : ℕ) → bit_xor (bit_xor p q) (bit_xor r s) ≡ bit_xor (bit_xor p r) (bit_xor q s)
xor_cross p q r s = rw (xor_assoc p q (bit_xor r s), ← xor_assoc q r s, xor_comm q r, xor_assoc r q s, ← xor_assoc p r (bit_xor q s))

-- of bits, a number taken or not
pub bit_times : (m u v : ℕ) → u < 2 → v < 2 → bit_xor u v * m ≡ bit_xor (u * m) (v * m)
bit_times m zero v hu hv = rw (zero-mul m)
bit_times m (suc zero) zero hu hv = rw (zero-mul m) (sym (xor_zero_r (1 * m)))
bit_times m (suc zero) (suc zero) hu hv = zero-mul m ∙ sym (xor_self (1 * m))
bit_times m (suc zero) (suc (suc v)) hu hv = absurd (omega arith)
bit_times m (suc (suc u)) v hu hv = absurd (omega arith)
