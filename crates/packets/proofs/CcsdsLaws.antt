-- Laws of CCSDS packets: what one has passed, that reading gives back the parts of what was made, and what sending leaves.
use Rattle.std.specs.Prelude.{Option, Some, None, Result, Ok, Err}
use mathlib.Core.Path.{◌≡◌, refl, sym, ap, ◌∙◌}
use mathlib.Core.Bool.{Bool, true, false, cond, ◌&&◌, ◌||◌, false≢true}
use mathlib.Core.Logic.{◌⊎◌}
use mathlib.Core.List.{List, [], ◌∷◌}
use Prim.Native.Nat.{ℕ, ◌+◌, ◌<◌, ◌≤◌}
use native.Mathlib.Omega.{arith}
use borrow.Author.Tests.{eqb-true, eq-eqb, lt-ltb, le-ltb}
use lib.Dec.{eqb}
use lib.ListN.{length, get_or, take, drop, length-drop}
use Rattle.octets.proofs.PlaceLaws.{second_true, part_placed}
use Rattle.packets.specs.Reading.{is_eop}
use Rattle.packets.specs.Ccsds.{version_of, length_field, is_space_packet, ccsds_packet_of, application_at, space_packet_in, is_ccsds_packet, read_ccsds, sending, left_by, sent}
use Rattle.packets.specs.declared.reading.End.{End}
use Rattle.packets.specs.declared.reading.End.TheVariants.{Eop}
use Rattle.packets.specs.declared.ccsds.Unsent.{Unsent}
use Rattle.packets.specs.declared.ccsds.Unsent.TheVariants.{WrongSpacePacket, OutputTooShort}
use Rattle.packets.proofs.TimeLaws.{one_of, is_one_of, ends_well}

-- ---- the space packet

-- a right one has the size that its length field tells, and so at least 7 bytes
pub space_size : (s : List ℕ) → is_space_packet s ≡ true → length s ≡ length_field s + 7
space_size s w = sym (eqb-true (length_field s + 7) (length s) (second_true (eqb (version_of s) 0) (eqb (length_field s + 7) (length s)) w))

-- ---- what a CCSDS packet has passed

module _ (p : List ℕ) (end : End) (logical : ℕ) where
  pub record CcsdsPassed : Type 0 where
    pub address : (get_or p 0 0 ≡ logical) ⊎ (get_or p 0 0 ≡ 0xFE)
    pub protocol : get_or p 1 0 ≡ 0x02
    pub reserved : get_or p 2 0 ≡ 0x00
    pub eop : end ≡ Eop
    pub right : is_space_packet (drop 4 p) ≡ true

  all_of : (a b c d e : Bool) → (a && b && c && d && e) ≡ true → (a ≡ true) × (b ≡ true) × (c ≡ true) × (d ≡ true) × (e ≡ true)
  all_of true true true true true w = (refl, refl, refl, refl, refl)
  all_of true true true true false w = absurd (false≢true w)
  all_of true true true false e w = absurd (false≢true w)
  all_of true true false d e w = absurd (false≢true w)
  all_of true false c d e w = absurd (false≢true w)
  all_of false b c d e w = absurd (false≢true w)

  pub ccsds_passed : is_ccsds_packet p end logical ≡ true → CcsdsPassed
  ccsds_passed w =
      let t = all_of (eqb (get_or p 0 0) logical || eqb (get_or p 0 0) 0xFE) (eqb (get_or p 1 0) 0x02) (eqb (get_or p 2 0) 0x00) (is_eop end) (is_space_packet (drop 4 p)) w in
      record {
        address = one_of (get_or p 0 0) logical 0xFE t.0;
        protocol = eqb-true _ _ t.1;
        reserved = eqb-true _ _ t.2;
        eop = ends_well end t.3;
        right = t.4;
      }

  pub passed_ccsds : CcsdsPassed → is_ccsds_packet p end logical ≡ true
  passed_ccsds t =
      rw (is_one_of (get_or p 0 0) logical 0xFE t.address, eq-eqb _ _ t.protocol, eq-eqb _ _ t.reserved, t.eop, t.right)

  abbrev is_taken : Option ℕ → ℕ
  is_taken r = elim r [ None ↦ 0 | Some a ↦ 1 ]

  abbrev application_in : Option ℕ → ℕ
  application_in r = elim r [ None ↦ application_at p | Some a ↦ a ]

  -- what is taken has passed, for the application whose byte stands in it
  pub ccsds_taken_passed : (a : ℕ) → read_ccsds p end logical ≡ Some a → CcsdsPassed × (application_at p ≡ a)
  unfolding read_ccsds
  ccsds_taken_passed a = go (is_ccsds_packet p end logical) refl
    where
      go : (b : Bool) → is_ccsds_packet p end logical ≡ b → cond b (Some (application_at p)) None ≡ Some a → CcsdsPassed × (application_at p ≡ a)
      go true f e = (ccsds_passed f, ap application_in e)
      go false f e = absurd (omega (arith, ap is_taken e))

  pub ccsds_passed_taken : CcsdsPassed → read_ccsds p end logical ≡ Some (application_at p)
  unfolding read_ccsds
  ccsds_passed_taken t = rw (passed_ccsds t)

  -- and what has not is thrown away
  pub ccsds_thrown_away : (CcsdsPassed → ⊥) → read_ccsds p end logical ≡ None
  unfolding read_ccsds
  ccsds_thrown_away none = go (is_ccsds_packet p end logical) refl
    where
      go : (b : Bool) → is_ccsds_packet p end logical ≡ b → cond b (Some (application_at p)) None ≡ None
      go true f = absurd (none (ccsds_passed f))
      go false f = refl

  -- what has passed has the four bytes and at least 7 more
  pub ccsds_long : CcsdsPassed → 11 ≤ length p
  ccsds_long t = omega (arith, space_size (drop 4 p) t.right, length-drop 4 p)

-- ---- from the parts to bytes and back

four_first : (p : List ℕ) → 4 ≤ length p → p ≡ get_or p 0 0 ∷ get_or p 1 0 ∷ get_or p 2 0 ∷ get_or p 3 0 ∷ drop 4 p
four_first [] h = absurd (omega (arith, h))
four_first (a ∷ []) h = absurd (omega (arith, h))
four_first (a ∷ b ∷ []) h = absurd (omega (arith, h))
four_first (a ∷ b ∷ c ∷ []) h = absurd (omega (arith, h))
four_first (a ∷ b ∷ c ∷ d ∷ s) h = refl

-- what is made of a right space packet, to the unit or to FE, is read as one for that application
pub ccsds_read : (address application logical : ℕ) (space : List ℕ) → (address ≡ logical) ⊎ (address ≡ 0xFE) → is_space_packet space ≡ true
    → read_ccsds (ccsds_packet_of address application space) Eop logical ≡ Some application
ccsds_read address application logical space to right =
    ccsds_passed_taken (ccsds_packet_of address application space) Eop logical (record {
      address = to;
      protocol = refl;
      reserved = refl;
      eop = refl;
      right = right;
    })

-- and carries that space packet
pub ccsds_carries : (address application : ℕ) (space : List ℕ) → space_packet_in (ccsds_packet_of address application space) ≡ space
unfolding space_packet_in
ccsds_carries address application space = refl

-- what is taken is what is made of its parts
pub ccsds_taken_made : (p : List ℕ) (end : End) (logical a : ℕ) → read_ccsds p end logical ≡ Some a → p ≡ ccsds_packet_of (get_or p 0 0) a (space_packet_in p)
unfolding space_packet_in
ccsds_taken_made p end logical a e =
    let t = ccsds_taken_passed p end logical a e in
    let long = ccsds_long p end logical t.0 in
    four_first p (omega (arith, long)) ∙ rw (t.0.protocol, t.0.reserved, t.1)

-- ---- sending

module _ (s : List ℕ) (room : ℕ) where
  pub sending_wrong : is_space_packet s ≡ false → sending s room ≡ Err WrongSpacePacket
  unfolding sending
  sending_wrong w = rw w

  module _ (right : is_space_packet s ≡ true) where
    pub sending_short : room < 4 + length s → sending s room ≡ Err OutputTooShort
    unfolding sending
    sending_short h = rw (right, lt-ltb _ _ h)

    pub sending_all : 4 + length s ≤ room → sending s room ≡ Ok (4 + length s)
    unfolding sending
    sending_all h = rw (right, le-ltb _ _ h)

module _ (address application : ℕ) (space out : List ℕ) where
  abbrev packet : List ℕ
  packet = ccsds_packet_of address application space

  pub sent_by : (how : Result ℕ Unsent) → sending space (length out) ≡ how → sent address application space out ≡ left_by how packet out
  unfolding sent
  sent_by how e = rw e

  -- what was sent stands first in the output
  pub sent_first : is_space_packet space ≡ true → 4 + length space ≤ length out → take (4 + length space) (sent address application space out) ≡ packet
  sent_first right fits =
      let size : 4 + length space ≡ length packet = omega arith in
      rw (sent_by (Ok (4 + length space)) (sending_all space (length out) right fits), size) (part_placed 0 packet out (omega (arith, fits)))
