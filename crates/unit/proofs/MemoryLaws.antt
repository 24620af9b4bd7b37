-- Laws of memory: it keeps its length; a command reads and stores only in its span; and of the refused ones only a write without verify stores.
use Rattle.std.proofs.Common.{◌≡◌, ℕ, zero, suc, ◌+◌, ◌-◌, ◌/◌, ◌<◌, ◌≤◌, min, Bool, true, false, cond, not, ◌&&◌, ◌⊎◌, List, [], length, get_or, replicate, sym, refl, ap, ◌∙◌, inl, inr, lt_of_not-le, arith, length-drop, ext_get_or}
use native.Mathlib.Decide.{dec_le}
use Rattle.octets.specs.Places.{part, placed}
use Rattle.octets.proofs.PlaceLaws.{length_part, part_at, length_placed, placed_before, placed_in, placed_after}
use Rattle.packets.specs.Instruction.{is_rmw, is_verified, is_incrementing, header_size}
use Rattle.packets.specs.Header.{kind_in}
use Rattle.packets.specs.declared.instruction.Instruction.{Instruction}
use Rattle.packets.specs.declared.instruction.Kind.{Kind}
use Rattle.packets.specs.declared.instruction.Kind.TheVariants.{Unused, Read, ReadModifyWrite, Write}
use Rattle.packets.specs.declared.header.Header.{Header}
use Rattle.packets.specs.declared.path.Path.{Path}
use Rattle.unit.specs.Fate.{Status, is_success}
use Rattle.unit.specs.Usable.{usable}
use Rattle.unit.specs.Given.{Arrived}
use Rattle.unit.specs.Decide.{span_size, header_status, all_at_hand, data_count, data_status_of}
use Rattle.unit.specs.Plan.{read_action, rmw_action, write_action, action_of, field_action_of}
use Rattle.unit.specs.Act.{combined, last_of, stored, data_for}
use Rattle.unit.specs.Granted.{Readable, Storable, Granted}
use Rattle.unit.specs.declared.decide.Action.{Action}
use Rattle.unit.specs.declared.decide.Action.TheVariants.{Nothing, ReadMemory, RepeatByte, Store, StoreLast, Combine, ReadFields, Swap, WriteField}
use Rattle.unit.specs.declared.unit.Unit.{Unit as TheUnit}
use Rattle.unit.proofs.ActLaws.{length_now}
use Rattle.unit.proofs.DecideLaws.{writes}
use Rattle.unit.proofs.PlanLaws.{action_is, memory_action_in}
use Rattle.unit.proofs.GrantLaws.{accepted_memory}

-- ---- the bytes that an action puts into memory

length_last : (bytes : List ℕ) → length (last_of bytes) ≡ min (length bytes) 1
length_last bytes = length-drop (length bytes - 1) bytes ∙ omega arith

pub stored_length : (a : Action) (p m : List ℕ) → Storable a (length p) (length m) → length (stored a p m) ≡ length m
unfolding stored
stored_length Nothing p m g = refl
stored_length (ReadMemory at count) p m g = refl
stored_length (RepeatByte at count) p m g = refl
stored_length (Store at from count) p m g =
    let l = length_part from count p g.1 in
    length_placed at (part from count p) m (omega (arith, l, g.0))
stored_length (StoreLast at from count) p m g =
    let l = length_part from count p g.1 in
    length_placed at (last_of (part from count p)) m (omega (arith, l, length_last (part from count p), g.0))
stored_length (Combine at from count) p m g =
    let l = length_now p m from count at g.0 g.1 in
    length_placed at (combined (part at count m) (part from count p) (part (from + count) count p)) m (omega (arith, l, g.0))
stored_length (ReadFields address count) p m g = refl
stored_length (Swap new expected) p m g = refl
stored_length (WriteField address word) p m g = refl

-- an action reads and stores only in the `size` bytes of memory from `at` on
abbrev pub StaysIn : ℕ → ℕ → Action → Type 0
StaysIn at size Nothing = Unit
StaysIn at size (ReadMemory place count) = (place ≡ at) × (count ≤ size)
StaysIn at size (RepeatByte place count) = (place ≡ at) × (min count 1 ≤ size)
StaysIn at size (Store place from count) = (place ≡ at) × (count ≤ size)
StaysIn at size (StoreLast place from count) = (place ≡ at) × (min count 1 ≤ size)
StaysIn at size (Combine place from count) = (place ≡ at) × (count ≤ size)
StaysIn at size (ReadFields address count) = Unit
StaysIn at size (Swap new expected) = Unit
StaysIn at size (WriteField address word) = Unit

outside : (place : ℕ) (bytes m : List ℕ) (i at size n : ℕ) → place + length bytes ≤ length m → length bytes ≡ n → place ≡ at → n ≤ size
    → (i < at) ⊎ (at + size ≤ i) → get_or (placed place bytes m) i 0 ≡ get_or m i 0
outside place bytes m i at size n fits l e s (inl h) = placed_before place bytes m fits i (omega (arith, e))
outside place bytes m i at size n fits l e s (inr h) = placed_after place bytes m fits i (omega (arith, e, l))

pub stored_outside : (a : Action) (p m : List ℕ) (at size i : ℕ) → Storable a (length p) (length m) → StaysIn at size a → (i < at) ⊎ (at + size ≤ i)
    → get_or (stored a p m) i 0 ≡ get_or m i 0
unfolding stored
stored_outside Nothing p m at size i g w o = refl
stored_outside (ReadMemory place count) p m at size i g w o = refl
stored_outside (RepeatByte place count) p m at size i g w o = refl
stored_outside (Store place from count) p m at size i g w o =
    let l = length_part from count p g.1 in
    outside place (part from count p) m i at size count (omega (arith, l, g.0)) l w.0 w.1 o
stored_outside (StoreLast place from count) p m at size i g w o =
    let l : length (last_of (part from count p)) ≡ min count 1 =
    omega (arith, length_last (part from count p), length_part from count p g.1) in
    outside place (last_of (part from count p)) m i at size (min count 1) (omega (arith, l, g.0)) l w.0 w.1 o
stored_outside (Combine place from count) p m at size i g w o =
    let l = length_now p m from count place g.0 g.1 in
    outside place (combined (part place count m) (part from count p) (part (from + count) count p)) m i at size count (omega (arith, l, g.0)) l w.0 w.1 o
stored_outside (ReadFields address count) p m at size i g w o = refl
stored_outside (Swap new expected) p m at size i g w o = refl
stored_outside (WriteField address word) p m at size i g w o = refl

-- ---- two memories of one length that agree on those bytes

module _ (m n : List ℕ) (same : length m ≡ length n) where
  part_alike : (at count : ℕ) → at + count ≤ length m → ((i : ℕ) → i < count → get_or m (at + i) 0 ≡ get_or n (at + i) 0)
      → part at count m ≡ part at count n
  part_alike at count fits alike =
      let l = length_part at count m fits in
      ext_get_or 0 (part at count m) (part at count n) (l ∙ sym (length_part at count n (omega arith)))
      (λ i h.
      let k : i < count = omega arith in
      part_at at count m i k ∙ alike i k ∙ sym (part_at at count n i k))

  placed_alike : (at : ℕ) (bytes : List ℕ) → at + length bytes ≤ length m → (i : ℕ) → get_or m i 0 ≡ get_or n i 0
      → get_or (placed at bytes m) i 0 ≡ get_or (placed at bytes n) i 0
  placed_alike at bytes fits i e = go (dec_le at i) (dec_le (at + length bytes) i)
    where
      room : at + length bytes ≤ length n
      room = omega arith

      go : Dec (at ≤ i) → Dec (at + length bytes ≤ i) → get_or (placed at bytes m) i 0 ≡ get_or (placed at bytes n) i 0
      go (no h) k = let b = lt_of_not-le h in placed_before at bytes m fits i b ∙ e ∙ sym (placed_before at bytes n room i b)
      go (yes h) (yes k) = placed_after at bytes m fits i k ∙ e ∙ sym (placed_after at bytes n room i k)
      go (yes h) (no k) =
          let l = lt_of_not-le k in
          let j : at + (i - at) ≡ i = omega (arith, h) in
          let inside : i - at < length bytes = omega (arith, h, l) in
          rw j at (placed_in at bytes m fits (i - at) inside ∙ sym (placed_in at bytes n room (i - at) inside))

  module _ (at size : ℕ) (alike : (i : ℕ) → at ≤ i → i < at + size → get_or m i 0 ≡ get_or n i 0) where
    same_part : (place count : ℕ) → place ≡ at → count ≤ size → place + count ≤ length m → part place count m ≡ part place count n
    same_part place count e s fits = part_alike place count fits (λ i h. alike (place + i) (omega (arith, e)) (omega (arith, e, s, h)))

    -- the data of a reply are the same
    pub data_alike : (a : Action) (u : TheUnit) (link : ℕ) → StaysIn at size a → Readable a (length m) → data_for a u link m ≡ data_for a u link n
    unfolding data_for
    data_alike Nothing u link w g = refl
    data_alike (ReadMemory place count) u link w g = same_part place count w.0 w.1 g
    data_alike (RepeatByte place zero) u link w g = refl
    data_alike (RepeatByte place (suc count)) u link w g =
        ap (λ (b : ℕ). replicate (suc count) b) (alike place (omega (arith, w.0)) (omega (arith, w.0, w.1)))
    data_alike (Store place from count) u link w g = refl
    data_alike (StoreLast place from count) u link w g = refl
    data_alike (Combine place from count) u link w g = same_part place count w.0 w.1 g
    data_alike (ReadFields address count) u link w g = refl
    data_alike (Swap new expected) u link w g = refl
    data_alike (WriteField address word) u link w g = refl

    -- and so is what is stored there
    pub stored_alike : (a : Action) (p : List ℕ) (i : ℕ) → StaysIn at size a → Storable a (length p) (length m) → at ≤ i → i < at + size
        → get_or (stored a p m) i 0 ≡ get_or (stored a p n) i 0
    unfolding stored
    stored_alike Nothing p i w g b l = alike i b l
    stored_alike (ReadMemory place count) p i w g b l = alike i b l
    stored_alike (RepeatByte place count) p i w g b l = alike i b l
    stored_alike (Store place from count) p i w g b l =
        placed_alike place (part from count p) (omega (arith, length_part from count p g.1, g.0)) i (alike i b l)
    stored_alike (StoreLast place from count) p i w g b l =
        placed_alike place (last_of (part from count p)) (omega (arith, length_last (part from count p), length_part from count p g.1, g.0)) i (alike i b l)
    stored_alike (Combine place from count) p i w g b l =
        rw (← same_part place count w.0 w.1 g.0)
        (placed_alike place (combined (part place count m) (part from count p) (part (from + count) count p))
        (omega (arith, length_now p m from count place g.0 g.1, g.0)) i (alike i b l))
    stored_alike (ReadFields address count) p i w g b l = alike i b l
    stored_alike (Swap new expected) p i w g b l = alike i b l
    stored_alike (WriteField address word) p i w g b l = alike i b l

-- ---- a memory command stays in its span

action_stays : (kind : Kind) (h : Header) (s : Status) (from k : ℕ)
    → StaysIn h.address (cond (is_rmw kind) (h.length / 2) (cond (is_incrementing h.instruction) h.length (min h.length 1))) (action_of kind h s from k)
action_stays kind h s from k =
    action_is (StaysIn h.address (cond (is_rmw kind) (h.length / 2) (cond (is_incrementing h.instruction) h.length (min h.length 1)))) kind h s from k tt
    (λ a b c. rw (a, c) (refl, omega arith)) (λ a b c. rw (a, c) (refl, omega arith)) (λ a b. rw a (refl, omega arith)) (λ a c. rw (a, c) (refl, omega arith))
    (λ a c. rw (a, c) (refl, omega arith))

-- an accepted memory command: what it leaves of memory m, and of a memory that is like m in its span
module _ (u : TheUnit) (h : Header) (path : Path) (p : Arrived) (m : List ℕ) (works : usable u (length m) ≡ true)
    (whole : header_size h.instruction ≤ length p.packet) (rmap : h.protocol ≡ 0x01) (accepted : is_success (header_status u h path p.link) ≡ true) where
  abbrev action : Action
  action = memory_action_in h p

  allowed : Granted action (length p.packet) (length m)
  allowed = accepted_memory u h path p (length m) works whole rmap accepted

  pub stays : StaysIn h.address (span_size h) action
  unfolding span_size
  stays = action_stays (kind_in h) h (data_status_of h p) (header_size h.instruction) (data_count h (all_at_hand h p))

  pub memory_length : length (stored action p.packet m) ≡ length m
  memory_length = stored_length action p.packet m allowed.1

  pub memory_outside : (i : ℕ) → (i < h.address) ⊎ (h.address + span_size h ≤ i) → get_or (stored action p.packet m) i 0 ≡ get_or m i 0
  memory_outside i = stored_outside action p.packet m h.address (span_size h) i allowed.1 stays

  module _ (n : List ℕ) (same : length m ≡ length n)
      (alike : (i : ℕ) → h.address ≤ i → i < h.address + span_size h → get_or m i 0 ≡ get_or n i 0) where
    pub span_data : data_for action u p.link m ≡ data_for action u p.link n
    span_data = data_alike m n same h.address (span_size h) alike action u p.link stays allowed.0

    pub span_stored : (i : ℕ) → h.address ≤ i → i < h.address + span_size h
        → get_or (stored action p.packet m) i 0 ≡ get_or (stored action p.packet n) i 0
    span_stored i b l = stored_alike m n same h.address (span_size h) alike action p.packet i stays allowed.1 b l

-- ---- what each kind of command stores, and what it answers

pub nothing_stores : (p m : List ℕ) → stored Nothing p m ≡ m
unfolding stored
nothing_stores p m = refl

-- a read stores nothing, and answers its bytes, or its byte over and over
module _ (i : Instruction) (s : Status) (at n : ℕ) where
  pub read_stores : (p m : List ℕ) → stored (read_action i s at n) p m ≡ m
  unfolding stored
  read_stores p m = go (is_success s) (is_incrementing i)
    where
      go : (t b : Bool) → stored (cond t (cond b (ReadMemory at n) (RepeatByte at n)) Nothing) p m ≡ m
      go true true = refl
      go true false = refl
      go false b = refl

  pub read_data : (u : TheUnit) (link : ℕ) (m : List ℕ) → is_success s ≡ true
      → data_for (read_action i s at n) u link m ≡ cond (is_incrementing i) (part at n m) (replicate n (get_or m at 0))
  unfolding data_for
  read_data u link m e = rw e (go (is_incrementing i))
    where
      go : (b : Bool) → data_for (cond b (ReadMemory at n) (RepeatByte at n)) u link m ≡ cond b (part at n m) (replicate n (get_or m at 0))
      go true = refl
      go false = refl

-- an RMW that is obeyed stores what it combines, and answers what it read
module _ (s : Status) (at from n : ℕ) where
  pub rmw_stores : (p m : List ℕ) → stored (rmw_action s at from n) p m ≡ cond (is_success s) (placed at (combined (part at n m) (part from n p) (part (from + n) n p)) m) m
  unfolding stored
  rmw_stores p m = go (is_success s)
    where
      go : (t : Bool) → stored (cond t (Combine at from n) Nothing) p m ≡ cond t (placed at (combined (part at n m) (part from n p) (part (from + n) n p)) m) m
      go true = refl
      go false = refl

  pub rmw_data : (u : TheUnit) (link : ℕ) (m : List ℕ) → is_success s ≡ true → data_for (rmw_action s at from n) u link m ≡ part at n m
  unfolding data_for
  rmw_data u link m e = rw e

-- a write stores, unless it is verified and refused, and answers no data
module _ (i : Instruction) (s : Status) (at from n : ℕ) where
  pub write_stores : (p m : List ℕ)
      → stored (write_action i s at from n) p m ≡ cond (is_verified i && not (is_success s)) m (placed at (cond (is_incrementing i) (part from n p) (last_of (part from n p))) m)
  unfolding stored
  write_stores p m = go (is_verified i && not (is_success s)) (is_incrementing i)
    where
      go : (t b : Bool) → stored (cond t Nothing (cond b (Store at from n) (StoreLast at from n))) p m ≡ cond t m (placed at (cond b (part from n p) (last_of (part from n p))) m)
      go true b = refl
      go false true = refl
      go false false = refl

  pub write_data : (u : TheUnit) (link : ℕ) (m : List ℕ) → data_for (write_action i s at from n) u link m ≡ []
  unfolding data_for
  write_data u link m = go (is_verified i && not (is_success s)) (is_incrementing i)
    where
      go : (t b : Bool) → data_for (cond t Nothing (cond b (Store at from n) (StoreLast at from n))) u link m ≡ []
      go true b = refl
      go false true = refl
      go false false = refl

-- so what stores is a write or an RMW
pub storing_kind : (kind : Kind) (h : Header) (s : Status) (p m : List ℕ) (from k : ℕ)
    → (stored (action_of kind h s from k) p m ≡ m) ⊎ ((kind ≡ Write) ⊎ (kind ≡ ReadModifyWrite))
storing_kind Unused h s p m from k = inl (nothing_stores p m)
storing_kind Read h s p m from k = inl (read_stores h.instruction s h.address h.length p m)
storing_kind ReadModifyWrite h s p m from k = inr (inr refl)
storing_kind Write h s p m from k = inr (inl refl)

-- and of the refused commands a write without verify
pub refused_stores : (kind : Kind) (h : Header) (s : Status) (p m : List ℕ) (from k : ℕ) → is_success s ≡ false
    → stored (action_of kind h s from k) p m
    ≡ cond (writes kind && not (is_verified h.instruction))
    (placed h.address (cond (is_incrementing h.instruction) (part from (min k h.length) p) (last_of (part from (min k h.length) p))) m) m
refused_stores Unused h s p m from k e = nothing_stores p m
refused_stores Read h s p m from k e = read_stores h.instruction s h.address h.length p m
refused_stores ReadModifyWrite h s p m from k e = rmw_stores s h.address from (h.length / 2) p m ∙ rw e
refused_stores Write h s p m from k e =
    write_stores h.instruction s h.address from (min k h.length) p m ∙ rw e (go (is_verified h.instruction))
  where
    new : List ℕ
    new = placed h.address (cond (is_incrementing h.instruction) (part from (min k h.length) p) (last_of (part from (min k h.length) p))) m

    go : (v : Bool) → cond (v && true) m new ≡ cond (not v) new m
    go true = refl
    go false = refl

-- a field command does not
pub fields_store_none : (t : Bool) (kind : Kind) (h : Header) (p m : List ℕ) (from : ℕ) → stored (cond t (field_action_of kind h p from) Nothing) p m ≡ m
unfolding stored
fields_store_none false kind h p m from = refl
fields_store_none true Unused h p m from = refl
fields_store_none true Read h p m from = refl
fields_store_none true ReadModifyWrite h p m from = refl
fields_store_none true Write h p m from = refl
