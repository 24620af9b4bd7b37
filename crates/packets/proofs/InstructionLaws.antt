-- Laws of the instruction byte: its parts are all of its bits, each at its place.
use mathlib.Core.Path.{◌≡◌, refl}
use mathlib.Core.Bool.{Bool, cond}
use Prim.Native.Nat.{ℕ, zero, suc, ◌+◌, ◌*◌, ◌/◌, ◌%◌, ◌^◌, ◌<◌}
use native.Mathlib.Omega.{arith}
use lib.Dec.{eqb}
use Rattle.packets.specs.Instruction.{type_of, is_write, is_verified, wants_reply, is_incrementing, r_of, code_of}
use Rattle.packets.specs.declared.instruction.Instruction.{Instruction}

-- a bit as a number
abbrev one : Bool → ℕ
one t = cond t 1 0

one_back : (n : ℕ) → n < 2 → one (eqb n 1) ≡ n
one_back zero h = refl
one_back (suc zero) h = refl
one_back (suc (suc n)) h = absurd (omega arith)

-- what stands from a bit on, and that bit
module _ (b : ℕ) where
  from_5 : b / 2 ^ 5 ≡ b / 2 ^ 6 * 2 + b / 2 ^ 5 % 2
  from_5 = omega arith

  from_4 : b / 2 ^ 4 ≡ b / 2 ^ 5 * 2 + b / 2 ^ 4 % 2
  from_4 = omega arith

  from_3 : b / 2 ^ 3 ≡ b / 2 ^ 4 * 2 + b / 2 ^ 3 % 2
  from_3 = omega arith

  from_2 : b / 2 ^ 2 ≡ b / 2 ^ 3 * 2 + b / 2 ^ 2 % 2
  from_2 = omega arith

  above_r : b / 2 ^ 2 ≡ b / 2 ^ 6 * 16 + b % 2 ^ 6 / 2 ^ 2
  above_r = omega arith

module _ (i : Instruction) where
  -- bits 7-6 type, 5 write, 4 verify, 3 reply wanted, 2 incrementing, 1-0 r
  pub bits_whole : i.byte
      ≡ type_of i * 0b0100_0000 + one (is_write i) * 0b0010_0000 + one (is_verified i) * 0b0001_0000
      + one (wants_reply i) * 0b0000_1000 + one (is_incrementing i) * 0b0000_0100 + r_of i
  bits_whole =
      let b = i.byte in
      rw (
        one_back (b / 2 ^ 5 % 2) (omega arith),
        one_back (b / 2 ^ 4 % 2) (omega arith),
        one_back (b / 2 ^ 3 % 2) (omega arith),
        one_back (b / 2 ^ 2 % 2) (omega arith),
      )
      (omega (arith, from_5 b, from_4 b, from_3 b, from_2 b))

  pub r_below : r_of i < 4
  r_below = omega arith

  -- bits 5 to 2 are the command code
  pub code_bits : code_of i ≡ one (is_write i) * 0b1000 + one (is_verified i) * 0b0100 + one (wants_reply i) * 0b0010 + one (is_incrementing i) * 0b0001
  code_bits =
      let b = i.byte in
      rw (
        one_back (b / 2 ^ 5 % 2) (omega arith),
        one_back (b / 2 ^ 4 % 2) (omega arith),
        one_back (b / 2 ^ 3 % 2) (omega arith),
        one_back (b / 2 ^ 2 % 2) (omega arith),
      )
      (omega (arith, from_5 b, from_4 b, from_3 b, from_2 b, above_r b))
