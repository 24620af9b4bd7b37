-- What does not take the zero off, or not everywhere, or takes off too much, is shut out: by a claim, a read and a write behind a zero.
use mathlib.Core.Path.{◌≡◌, refl, sym, ◌∙◌, ap}
use mathlib.Core.Bool.{true}
use mathlib.Core.Logic.{◌≢◌}
use mathlib.Core.List.{List, [], ◌∷◌}
use Prim.Native.Nat.{ℕ}
use native.Mathlib.Omega.{arith}
use lib.ListN.{get_or}
use Rattle.octets.specs.Crc.{crc, mirrored, bits, remainder, message, modulo}
use Rattle.octets.specs.Numbers.{Digits}
use Rattle.packets.specs.Instruction.{kind_of}
use Rattle.packets.specs.Path.{without_leading_zeros, or_one_zero, path_of, same_path}
use Rattle.packets.specs.Reading.{bare, read_command, read_protocol, read_packet}
use Rattle.packets.specs.Reply.{reply_with, reply_length, replied}
use Rattle.unit.specs.Fate.{fate_number}
use Rattle.unit.specs.Counters.{counted_for}
use Rattle.unit.specs.Usable.{usable_unit, usable}
use Rattle.unit.specs.Fields.{row_of, values_of, link_information}
use Rattle.unit.specs.Decide.{opening_status, span_size, is_authorised, span_status, names_fields, fields_status, header_status, wanted_count, data_status}
use Rattle.unit.specs.Plan.{reply_count, planned_for, decided_by_data, decided_on}
use Rattle.unit.specs.Judge.{judged}
use Rattle.unit.specs.Act.{stored, data_for, replied_to, changed}
use Rattle.unit.specs.Owner.{swapped}
use Rattle.unit.specs.Calls.{Outcome, take_read, take_packet}
use Rattle.demands.specs.Terminal.{Terminal, ours}
use Rattle.demands.specs.Demands.{Demand1}
use Rattle.demands.specs.Zero.{BeginsOtherwise, AsWithoutIt, OthersAsBefore, BySecondByte, OnlyAddressed}
use Rattle.demands.specs.Impostors.{reads_the_zero, shifts_data, swaps_alone, takes_any_zero}
use Rattle.demands.proofs.Witnesses.{unit, memory, buffer, arrived, lent, tested, write_0}
use Rattle.demands.proofs.OnlyOurs.{only_ours}

-- behind FE 03: a claim, Device ID from 0 to 5; and a read of it
abbrev claim : List ℕ
claim = 0x5C ∷ 0x00 ∷ 0x67 ∷ 0x00 ∷ 0x01 ∷ 0x00 ∷ 0x00 ∷ 0x00 ∷ 0x00 ∷ 0x08 ∷ 0x00 ∷ 0x00 ∷ 0x08 ∷ 0xA2 ∷ 0x00 ∷ 0x00 ∷ 0x00 ∷ 0x05 ∷ 0x00 ∷ 0x00 ∷ 0x00 ∷ 0x00 ∷ 0xCF ∷ []

abbrev asking : List ℕ
asking = 0x4C ∷ 0x00 ∷ 0x67 ∷ 0x00 ∷ 0x01 ∷ 0x00 ∷ 0x00 ∷ 0x00 ∷ 0x00 ∷ 0x08 ∷ 0x00 ∷ 0x00 ∷ 0x04 ∷ 0x96 ∷ []

-- a packet to the unit, and the Device ID, the number and the first byte of memory that it leaves
abbrev pub told : Terminal → List ℕ → Outcome
told t p = t.packet (unit 0) (arrived p 1) (lent memory buffer)

abbrev device : Outcome → ℕ
device o = o.answer.unit.owner.device

abbrev fate : Outcome → ℕ
fate o = fate_number o.answer.fate

abbrev byte : Outcome → ℕ
byte o = get_or o.memory 0 0

-- plug-and-play without the zero, and with it; and an RMAP write behind a zero
abbrev without : List ℕ → List ℕ
without rest = 0xFE ∷ 0x03 ∷ rest

abbrev zeroed : List ℕ → List ℕ
zeroed rest = 0x00 ∷ 0xFE ∷ 0x03 ∷ rest

abbrev write : List ℕ
write = 0x00 ∷ write_0

computed :
    -- the claim: ours takes it behind the zero; the first two only without it
    (device (told ours (zeroed claim)) ≡ 5)
    × (device (told reads_the_zero (without claim)) ≡ 5)
    × (device (told reads_the_zero (zeroed claim)) ≡ 0)
    × (device (told shifts_data (without claim)) ≡ 5)
    × (device (told shifts_data (zeroed claim)) ≡ 0)
    -- the read: the third answers it only without the zero
    × (fate (told ours (zeroed asking)) ≡ 20)
    × (fate (told swaps_alone (without asking)) ≡ 20)
    × (fate (told swaps_alone (zeroed asking)) ≡ 12)
    -- the write: the fourth stores
    × (byte (told ours write) ≡ 0x10)
    × (byte (take_read (unit 0) (arrived write 1) (lent memory buffer)) ≡ 0x10)
    × (byte (told takes_any_zero write) ≡ 0x61)
    × (fate (told takes_any_zero write) ≡ 20)
    × (usable (unit 0) 8 ≡ true)
unfolding take_packet bare judged decided_on decided_by_data planned_for header_status opening_status span_status span_size is_authorised fields_status names_fields row_of wanted_count data_status reply_count stored data_for replied_to changed swapped counted_for usable usable_unit values_of link_information read_packet read_protocol read_command kind_of without_leading_zeros or_one_zero path_of same_path reply_with reply_length replied crc mirrored bits remainder message modulo
computed = (refl, refl, refl, refl, refl, refl, refl, refl, refl, refl, refl, refl, refl)

-- what tells a packet behind the zero from the same without it is shut out
with_or_without : (t : Terminal) (rest : List ℕ) (measure : Outcome → ℕ) {a b : ℕ} → measure (told t (zeroed rest)) ≡ a → measure (told t (without rest)) ≡ b
    → a ≢ b → AsWithoutIt t → ⊥
with_or_without t rest measure e f differ meets =
    differ (sym e ∙ ap measure (meets (unit 0) (arrived (zeroed rest) 1) (lent memory buffer) rest refl) ∙ f)

-- and what differs from ours on a packet of bytes, by demand 1, since what meets that is ours
pub not_ours : (t : Terminal) (p : List ℕ) (measure : Outcome → ℕ) {a b : ℕ} → Digits 256 p → measure (told t p) ≡ a → measure (told ours p) ≡ b → a ≢ b → Demand1 t → ⊥
not_ours t p measure bytes e f differ meets =
    differ (sym e ∙ ap measure ((only_ours t meets.0 meets.1 meets.2).0 (unit 0) (arrived p 1) (lent memory buffer) bytes) ∙ f)

pub reads_the_zero_shut_out : (AsWithoutIt reads_the_zero → ⊥) × (Demand1 reads_the_zero → ⊥)
reads_the_zero_shut_out = (
  with_or_without reads_the_zero claim device computed.2 computed.1 (λ e. omega (arith, e)),
  not_ours reads_the_zero (zeroed claim) device (tested (zeroed claim) refl) computed.2 computed.0 (λ e. omega (arith, e)),
)

pub shifts_data_shut_out : (AsWithoutIt shifts_data → ⊥) × (Demand1 shifts_data → ⊥)
shifts_data_shut_out = (
  with_or_without shifts_data claim device computed.4 computed.3 (λ e. omega (arith, e)),
  not_ours shifts_data (zeroed claim) device (tested (zeroed claim) refl) computed.4 computed.0 (λ e. omega (arith, e)),
)

pub swaps_alone_shut_out : (AsWithoutIt swaps_alone → ⊥) × (Demand1 swaps_alone → ⊥)
swaps_alone_shut_out = (
  with_or_without swaps_alone asking fate computed.7 computed.6 (λ e. omega (arith, e)),
  not_ours swaps_alone (zeroed asking) fate (tested (zeroed asking) refl) computed.7 computed.5 (λ e. omega (arith, e)),
)

-- the write begins otherwise
otherwise : BeginsOtherwise (arrived write 1)
otherwise rest e = omega (arith, ap (λ (b : List ℕ). get_or b 2 0) e)

pub takes_any_zero_shut_out : (OthersAsBefore takes_any_zero → ⊥) × (BySecondByte takes_any_zero → ⊥) × (OnlyAddressed takes_any_zero → ⊥) × (Demand1 takes_any_zero → ⊥)
takes_any_zero_shut_out = (
  λ meets. omega (arith, ap byte (meets (unit 0) (arrived write 1) (lent memory buffer) otherwise), computed.9, computed.10),
  λ meets.
      let twelve = (meets (unit 0) (arrived write 1) (lent memory buffer) otherwise (omega arith) computed.12 refl).2
      (λ e. omega (arith, e)) (λ e. omega (arith, e)) (λ e. omega (arith, e)) (λ e. omega (arith, e)) in
      omega (arith, twelve, computed.11),
  λ meets.
      let kept = (meets (unit 0) (arrived write 1) (lent memory buffer) otherwise (λ e. omega (arith, e)) (λ e. omega (arith, e))).0 in
      omega (arith, ap (λ (m : List ℕ). get_or m 0 0) kept, computed.10),
  not_ours takes_any_zero write byte (tested write refl) computed.10 computed.8 (λ e. omega (arith, e)),
)
