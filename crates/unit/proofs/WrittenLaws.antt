-- Laws of the two fields that the owner writes, in document 01's words ('Fields'): each test in the definition has been decided.
use Rattle.std.proofs.Common.{◌≡◌, ℕ, ◌/◌, ◌%◌, ◌^◌, ◌<◌, ◌≤◌, ltb, ◌≢◌, ◌⊎◌, refl, inl, inr, arith, le-ltb, lt-ltb, ne_eqb}
use mathlib.Core.Bool.{or-true}
use Rattle.unit.specs.Clock.{time_code_written}
use Rattle.unit.specs.Fields.{row_of, divider_written}
use Rattle.unit.specs.Act.{with_fields, with_clock, field_written}
use Rattle.unit.specs.declared.clock.Clock.{Clock}
use Rattle.unit.specs.declared.fields.Fields.{Fields}
use Rattle.unit.specs.declared.unit.Unit.{Unit as TheUnit}
use Rattle.unit.proofs.ClockLaws.{Shows}

-- protocol 1, set 0: field 0 is the Time-Code counter, field 3 the divider
pub writes_counter : (u : TheUnit) (word : ℕ) → field_written u 0x80000 word ≡ with_clock u (time_code_written u.clock word)
unfolding field_written row_of
writes_counter u word = refl

pub writes_divider : (u : TheUnit) (word : ℕ) → field_written u 0x80003 word ≡ with_fields u (divider_written u.fields word)
unfolding field_written row_of
writes_divider u word = refl

module _ (c : Clock) where
  -- a whole word of 0 resets the last Time-Code, and no more
  pub counter_reset : Shows (time_code_written c 0) 0 c.elapsed.value c.elapsed.epoch c.waiting
  counter_reset = (refl, refl, refl, refl)

  -- others are ignored
  pub counter_stays : (word : ℕ) → word ≢ 0 → time_code_written c word ≡ c
  counter_stays word n = rw (ne_eqb word 0 n)

-- the halves of a word
abbrev pub high : ℕ → ℕ
high word = word / 2 ^ 16

abbrev pub low : ℕ → ℕ
low word = word % 2 ^ 16

-- all fields but the divider are the same
abbrev pub Besides : Fields → Fields → Type 0
Besides g f =
    (g.vendor ≡ f.vendor) × (g.version ≡ f.version) × (g.status ≡ f.status) × (g.active ≡ f.active) × (g.information ≡ f.information)
    × (g.maker ≡ f.maker) × (g.serial ≡ f.serial) × (g.base ≡ f.base) × (g.range ≡ f.range)

module _ (f : Fields) (word : ℕ) where
  -- below the minimum, the low half of the rate range, or above the maximum, its high half: ignored
  pub divider_stays : (low word < low f.range) ⊎ (high f.range < low word) → divider_written f word ≡ f
  unfolding divider_written
  divider_stays (inl h) = rw (lt-ltb (low word) (low f.range) h)
  divider_stays (inr h) = rw (lt-ltb (high f.range) (low word) h, or-true (ltb (low word) (low f.range)))

  -- else the owner writes the divider's low half; the high half stays as held, and every other field
  pub divider_set : low f.range ≤ low word → low word ≤ high f.range
      → (low (divider_written f word).divider ≡ low word) × (high (divider_written f word).divider ≡ high f.divider) × Besides (divider_written f word) f
  unfolding divider_written
  divider_set h k =
      rw (le-ltb (low word) (low f.range) h, le-ltb (high f.range) (low word) k)
      (omega arith, omega arith, (refl, refl, refl, refl, refl, refl, refl, refl, refl))
