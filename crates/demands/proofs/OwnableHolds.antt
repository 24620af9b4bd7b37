-- Demand 2, what can be owned, holds: a command that changes it passed the checks of its sender.
use mathlib.Core.Path.{◌≡◌, refl, sym, ap}
use mathlib.Core.Bool.{Bool, true, false, cond, ◌||◌, false≢true}
use mathlib.Core.Logic.{◌⊎◌, inl, inr}
use mathlib.Core.List.{List, [], ◌∷◌}
use Prim.Native.Nat.{ℕ, ◌+◌, ◌*◌, ◌/◌, ◌%◌, ◌^◌, ◌<◌}
use borrow.Author.Tests.{eqb-true, eq-eqb}
use lib.Dec.{eqb, ltb}
use Rattle.packets.specs.declared.instruction.Kind.TheVariants.{ReadModifyWrite}
use Rattle.packets.specs.Instruction.{is_rmw}
use Rattle.packets.specs.Header.{kind_in}
use Rattle.packets.specs.declared.header.Header.{Header}
use Rattle.packets.specs.declared.path.Path.{Path}
use Rattle.packets.proofs.PathLaws.{path_same}
use Rattle.packets.specs.declared.time.When.{When}
use Rattle.packets.specs.declared.time.When.TheVariants.{AtWrap, AtOnce}
use Rattle.packets.specs.declared.time.Time.{Time as TheTime}
use Rattle.unit.specs.Some.{some}
use Rattle.unit.specs.Fate.{is_success}
use Rattle.unit.specs.Clock.{set_at, after_time}
use Rattle.unit.specs.Owner.{is_owner, unowned, swapped}
use Rattle.unit.specs.Fields.{device_id, missing, row_of, values_of, divider_written}
use Rattle.unit.specs.Given.{Arrived, as_read, Lent}
use Rattle.unit.specs.Decide.{is_allowed, header_status}
use Rattle.unit.specs.Act.{with_owner, with_fields}
use Rattle.unit.specs.Calls.{take_packet}
use Rattle.unit.specs.declared.clock.Clock.{Clock}
use Rattle.unit.specs.declared.owner.Owner.{Owner}
use Rattle.unit.specs.declared.unit.Unit.{Unit as TheUnit}
use Rattle.unit.proofs.FieldLaws.{swapped_row}
use Rattle.unit.proofs.DecideLaws.{fields_passed, named_passed}
use Rattle.unit.proofs.CommandLaws.{unit_is}
use Rattle.packets.proofs.ReadingLaws.{protocol_other}
use Rattle.demands.proofs.Below.{below}
use Rattle.demands.specs.Terminal.{ours, IsCommand, path_in, Every}
use Rattle.demands.specs.Meaning.{OwnersOrClaim, with_ownable, OwnableIsOwners, OwnerIsSwapped, shown_by, ownable, FieldsAreOwners, OthersStay}

-- ---- what can be owned

-- of a unit with what can be owned from another, that is the other's, and all else its own
with_ownable_law : (u v : TheUnit)
    → (((with_ownable u v).owner ≡ v.owner) × ((with_ownable u v).clock.last ≡ v.clock.last) × ((with_ownable u v).fields.divider ≡ v.fields.divider))
    × (((with_ownable u v).logical ≡ u.logical)
    × ((with_ownable u v).key ≡ u.key)
    × ((with_ownable u v).number ≡ u.number)
    × ((with_ownable u v).links ≡ u.links)
    × ((with_ownable u v).windows ≡ u.windows)
    × ((with_ownable u v).counters ≡ u.counters))
    × (((with_ownable u v).clock.elapsed ≡ u.clock.elapsed) × ((with_ownable u v).clock.waiting ≡ u.clock.waiting))
    × (((with_ownable u v).fields.vendor ≡ u.fields.vendor)
    × ((with_ownable u v).fields.version ≡ u.fields.version)
    × ((with_ownable u v).fields.status ≡ u.fields.status)
    × ((with_ownable u v).fields.active ≡ u.fields.active)
    × ((with_ownable u v).fields.information ≡ u.fields.information)
    × ((with_ownable u v).fields.maker ≡ u.fields.maker)
    × ((with_ownable u v).fields.serial ≡ u.fields.serial)
    × ((with_ownable u v).fields.base ≡ u.fields.base)
    × ((with_ownable u v).fields.range ≡ u.fields.range))
with_ownable_law u v = (
  (refl, refl, refl),
  (refl, refl, refl, refl, refl, refl),
  (refl, refl),
  (refl, refl, refl, refl, refl, refl, refl, refl, refl),
)

-- a time packet leaves the last Time-Code
last_stays : (w : When) (c : Clock) (t : TheTime) → (set_at w c t).last ≡ c.last
last_stays AtOnce c t = refl
last_stays AtWrap c t = refl

-- a swap that passed is on Device ID
on_device : (u : TheUnit) (p : Arrived) (h : Header) → (h.protocol ≡ 0x01 → ⊥) → is_success (header_status u h (path_in u p) p.link) ≡ true
    → kind_in h ≡ ReadModifyWrite → row_of h.address ≡ device_id
on_device u p h other accepted k =
    swapped_row h.address (rw k at (named_passed u.owner h (path_in u p) p.link (fields_passed u h (path_in u p) p.link other accepted)).2)

module _ (u : TheUnit) (p : Arrived) (lent : Lent) where
  abbrev path : Path
  path = path_in u p

  -- nothing that can be owned, and nothing that a field shows, has changed; or the packet is the owner's, or a claim
  abbrev Kept : TheUnit → Type 0
  Kept v = (v.fields ≡ u.fields) × (v.owner ≡ u.owner) × (v.clock.last ≡ u.clock.last) × (v.links ≡ u.links)

  abbrev Allowed : TheUnit → Type 0
  Allowed v = Kept v ⊎ OwnersOrClaim u p v

  same : Kept u
  same = (refl, refl, refl, refl)

  module _ (h : Header) (read : IsCommand u p h) (other : h.protocol ≡ 0x01 → ⊥) (accepted : is_success (header_status u h path p.link) ≡ true) where
    known : h.protocol ≡ 0x03
    known = protocol_other (as_read p).packet u.number h read other

    allowed : is_allowed (kind_in h) u.owner h.initiator path p.link ≡ true
    allowed = (named_passed u.owner h path p.link (fields_passed u h path p.link other accepted)).3

    -- a swap: the owner's, or anyone's where Device ID is 0, and then it claims or changes nothing
    claims : kind_in h ≡ ReadModifyWrite → (new expected : ℕ) → u.owner.device ≡ 0
        → Allowed (with_owner u (swapped u.owner new expected h.initiator path p.link))
    unfolding swapped
    claims k new expected zero = go (eqb u.owner.device expected) (eqb u.owner.device 0) (eqb new 0) refl (eq-eqb u.owner.device 0 zero)
      where
        o : Owner
        o = u.owner

        taken : Owner
        taken = record { device = new; initiator = h.initiator; path = path; link = p.link }

        go : (a b c : Bool) → eqb new 0 ≡ c → b ≡ true → Allowed (with_owner u (cond a (cond b (cond c o taken) (cond c unowned (record { device = new; initiator = o.initiator; path = o.path; link = o.link }))) o))
        go false b c e f = inl same
        go true true true e f = inl same
        go true true false e f =
            inr (h, read, known, inr (zero, rw k, on_device u p h other accepted k, rw (e, eq-eqb h.initiator h.initiator refl, path_same path, eq-eqb p.link p.link refl)))
        go true false c e f = absurd (false≢true f)

    swaps : kind_in h ≡ ReadModifyWrite → (new expected : ℕ) → Allowed (with_owner u (swapped u.owner new expected h.initiator path p.link))
    swaps k new expected = go (eqb u.owner.device 0) refl (rw k at allowed)
      where
        go : (t : Bool) → eqb u.owner.device 0 ≡ t → (t || is_owner u.owner h.initiator path p.link) ≡ true
            → Allowed (with_owner u (swapped u.owner new expected h.initiator path p.link))
        go true e a = claims k new expected (eqb-true u.owner.device 0 e)
        go false e a = inr (h, read, known, inl a)

  packet_allowed : Allowed (take_packet u p lent).answer.unit
  unfolding after_time
  packet_allowed =
      unit_is u p lent Allowed (λ f v x. x) (inl same) (λ w t g. inl (refl, refl, last_stays t.when u.clock t, refl))
      (λ w there h g q a. (
        λ k new expected. swaps h g q a k new expected,
        λ k word. let owner = inl (rw k at (allowed h g q a)) in (inr (h, g, known h g q a, owner), inr (h, g, known h g q a, owner)),
      ))

pub ownable_is_owners : OwnableIsOwners ours
ownable_is_owners u p lent other = go (packet_allowed u p lent)
  where
    v : TheUnit
    v = (take_packet u p lent).answer.unit

    go : Allowed u p lent v → OwnersOrClaim u p v
    go (inl k) = absurd (other (rw (k.0, k.1, k.2)))
    go (inr x) = x

-- the owner changes by a swap on Device ID alone
pub owner_is_swapped : OwnerIsSwapped ours
owner_is_swapped u p lent other =
    go (unit_is u p lent Swapped (λ f v x. x) (inl refl) (λ w t g. inl refl)
    (λ w there h g q a. (
      λ k new expected. inr (h, g, protocol_other (as_read p).packet u.number h g q, rw k, on_device u p h q a k),
      λ k word. (inl refl, inl refl),
    )))
  where
    Swap : Type 0
    Swap = (h : Header) × IsCommand u p h × (h.protocol ≡ 0x03) × (is_rmw (kind_in h) ≡ true) × (row_of h.address ≡ device_id)

    Swapped : TheUnit → Type 0
    Swapped v = (v.owner ≡ u.owner) ⊎ Swap

    go : Swapped (take_packet u p lent).answer.unit → Swap
    go (inl same) = absurd (other same)
    go (inr x) = x

pub fields_are_owners : FieldsAreOwners ours
fields_are_owners u p lent row shown other = go (packet_allowed u p lent)
  where
    v : TheUnit
    v = (take_packet u p lent).answer.unit

    go : Allowed u p lent v → OwnersOrClaim u p v
    go (inl k) = absurd (other (rw (k.0, k.1, k.2, k.3)))
    go (inr x) = x

-- ---- the fields that no packet changes

-- what holds of every one of a list holds of one that is in it
one_of : (P : ℕ → Type 0) (l : List ℕ) (n : ℕ) → some (eqb n) l ≡ true → Every P l → P n
one_of P [] n e all = absurd (false≢true e)
one_of P (x ∷ xs) n e all = go (eqb n x) refl e (one_of P xs n)
  where
    go : (t : Bool) → eqb n x ≡ t → (t || some (eqb n) xs) ≡ true → (some (eqb n) xs ≡ true → Every P xs → P n) → P n
    go true f e rest = rw (eqb-true n x f) all.0
    go false f e rest = rest e all.1

abbrev others : List ℕ
others = 0 ∷ 1 ∷ 2 ∷ 3 ∷ 9 ∷ 10 ∷ 12 ∷ 13 ∷ []

-- with those that can change they are the whole table
other_row : (row : ℕ) → row < missing → some (eqb row) (4 ∷ ownable) ≡ false → some (eqb row) others ≡ true
other_row row h e = rw e at (below (λ k. some (eqb k) (4 ∷ ownable) || some (eqb k) others) missing refl row h)

divider_only : (u : TheUnit) (word : ℕ) → with_fields u (divider_written u.fields word) ≡ with_ownable u (with_fields u (divider_written u.fields word))
unfolding divider_written
divider_only u word = go (ltb (word % 2 ^ 16) (u.fields.range % 2 ^ 16) || ltb (u.fields.range / 2 ^ 16) (word % 2 ^ 16))
  where
    written : Bool → TheUnit
    written t = with_fields u (cond t u.fields (record {
      vendor = u.fields.vendor;
      version = u.fields.version;
      status = u.fields.status;
      active = u.fields.active;
      information = u.fields.information;
      maker = u.fields.maker;
      serial = u.fields.serial;
      base = u.fields.base;
      range = u.fields.range;
      divider = u.fields.divider / 2 ^ 16 * 2 ^ 16 + word % 2 ^ 16;
    }))

    go : (t : Bool) → written t ≡ with_ownable u (written t)
    go true = refl
    go false = refl

-- of the fields' values the divider alone may differ
fields_stay : (u : TheUnit) (p : Arrived) (lent : Lent)
    → (with_ownable u (take_packet u p lent).answer.unit).fields ≡ (take_packet u p lent).answer.unit.fields
fields_stay u p lent =
    unit_is u p lent (λ v. (with_ownable u v).fields ≡ v.fields) (λ f v x. x) refl (λ w t g. refl)
    (λ w there h g q a. (λ k new expected. refl, λ k word. (refl, sym (ap (λ (v : TheUnit). v.fields) (divider_only u word)))))

pub others_stay : OthersStay ours
unfolding values_of
others_stay u p lent row shown small other =
    let v = (take_packet u p lent).answer.unit in
    let s = sym (fields_stay u p lent) in
    one_of (λ k. shown_by v shown k ≡ shown_by u shown k) others row (other_row row small other)
    (rw s, (rw s, (rw s, (rw s, (rw s, (rw s, (rw s, (rw s, tt))))))))
