-- A unit with another part is the unit in every other part: each part is computed.
use Rattle.std.proofs.Common.{◌≡◌, ℕ, List, refl}
use Rattle.unit.specs.Act.{with_owner, with_fields, with_clock, with_counters}
use Rattle.unit.specs.declared.fields.Fields.{Fields}
use Rattle.unit.specs.declared.owner.Owner.{Owner}
use Rattle.unit.specs.declared.clock.Clock.{Clock}
use Rattle.unit.specs.declared.unit.Unit.{Unit as TheUnit}

-- v was set up as u was: no call changes that (UsableLaws)
abbrev pub SetUpAs : TheUnit → TheUnit → Type 0
SetUpAs u v =
    (v.logical ≡ u.logical) × (v.key ≡ u.key) × (v.number ≡ u.number) × (v.links ≡ u.links) × (v.windows ≡ u.windows)

-- and has these fields, owner, clock and counters
abbrev pub Parts : TheUnit → TheUnit → Fields → Owner → Clock → List ℕ → Type 0
Parts v u f o c n = SetUpAs u v × (v.fields ≡ f) × (v.owner ≡ o) × (v.clock ≡ c) × (v.counters ≡ n)

pub only_owner : (u : TheUnit) (o : Owner) → Parts (with_owner u o) u u.fields o u.clock u.counters
only_owner u o = ((refl, refl, refl, refl, refl), refl, refl, refl, refl)

pub only_fields : (u : TheUnit) (f : Fields) → Parts (with_fields u f) u f u.owner u.clock u.counters
only_fields u f = ((refl, refl, refl, refl, refl), refl, refl, refl, refl)

pub only_clock : (u : TheUnit) (c : Clock) → Parts (with_clock u c) u u.fields u.owner c u.counters
only_clock u c = ((refl, refl, refl, refl, refl), refl, refl, refl, refl)

pub only_counters : (u : TheUnit) (n : List ℕ) → Parts (with_counters u n) u u.fields u.owner u.clock n
only_counters u n = ((refl, refl, refl, refl, refl), refl, refl, refl, refl)
