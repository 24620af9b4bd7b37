-- What takes time packets otherwise is shut out: by three packets, worked out apart. And a value that waits until the wrap.
use mathlib.Core.Path.{◌≡◌, refl, ap}
use mathlib.Core.Bool.{true, false}
use mathlib.Core.Logic.{inl, inr}
use mathlib.Core.List.{List, [], ◌∷◌}
use Prim.Native.Nat.{ℕ}
use native.Mathlib.Omega.{arith}
use lib.Dec.{leb}
use Rattle.octets.specs.Crc.{crc, mirrored, bits, remainder, message, modulo}
use Rattle.packets.specs.Reading.{bare, read_protocol, read_packet}
use Rattle.packets.specs.Time.{read_time}
use Rattle.packets.specs.declared.time.When.TheVariants.{AtOnce}
use Rattle.packets.specs.declared.time.Time.{Time as TheTime}
use Rattle.unit.specs.Some.{some}
use Rattle.unit.specs.Counters.{counted_for}
use Rattle.unit.specs.Usable.{usable_unit, usable}
use Rattle.unit.specs.Clock.{after_time, after_code}
use Rattle.unit.specs.Judge.{judged}
use Rattle.unit.specs.Calls.{Outcome, take_packet, take_time_code}
use Rattle.demands.specs.Terminal.{Terminal, ours, time_code, after}
use Rattle.demands.specs.Demands.{Demand1}
use Rattle.demands.specs.Preamble.{number_got, before, MadeOf, MadeIsTaken, TakenIsMade, GreatestTick, WaitsUntil, GreatestAtWrap, TwelveAsBefore}
use Rattle.demands.specs.Impostors.{rounds_time, drops_seconds, counts_nothing}
use Rattle.demands.proofs.Witnesses.{unit, memory, buffer, arrived, lent, tested}
use Rattle.demands.proofs.PreambleHolds.{made_is_taken, set_at_wrap}
use Rattle.demands.proofs.ZeroShown.{told, not_ours}

-- 5 1/2 seconds and 255/256 of a tick; 2^32 seconds more than 5 1/2; and the first without the octet of fraction that it tells of
abbrev finer : List ℕ
finer = 0xFE ∷ 0xF0 ∷ 0x9F ∷ 0x05 ∷ 0x00 ∷ 0x00 ∷ 0x00 ∷ 0x05 ∷ 0x80 ∷ 0x00 ∷ 0x00 ∷ 0xFF ∷ 0xBB ∷ []

abbrev higher : List ℕ
higher = 0xFE ∷ 0xF0 ∷ 0x9F ∷ 0x21 ∷ 0x01 ∷ 0x00 ∷ 0x00 ∷ 0x00 ∷ 0x05 ∷ 0x80 ∷ 0x00 ∷ 0x00 ∷ 0x70 ∷ []

abbrev short : List ℕ
short = 0xFE ∷ 0xF0 ∷ 0x9F ∷ 0x05 ∷ 0x00 ∷ 0x00 ∷ 0x00 ∷ 0x05 ∷ 0x80 ∷ 0x00 ∷ 0x00 ∷ 0xC6 ∷ []

-- 5 1/2 seconds and 255/256 of a tick, at the wrap
abbrev later : List ℕ
later = 0xFE ∷ 0xF0 ∷ 0x9F ∷ 0x24 ∷ 0x00 ∷ 0x00 ∷ 0x00 ∷ 0x00 ∷ 0x05 ∷ 0x80 ∷ 0x00 ∷ 0x00 ∷ 0xFF ∷ 0x42 ∷ []

abbrev et : Outcome → ℕ
et o = o.answer.unit.clock.elapsed.value

computed :
    (number_got (told ours finer) ≡ 19)
    × (et (told ours finer) ≡ 0x5800000)
    × (number_got (told before finer) ≡ 16)
    × (number_got (told rounds_time finer) ≡ 19)
    × (et (told rounds_time finer) ≡ 0x5800001)
    × (number_got (told ours higher) ≡ 16)
    × (number_got (told drops_seconds higher) ≡ 19)
    × (et (told drops_seconds higher) ≡ 0x5800000)
    × (number_got (told ours short) ≡ 16)
    × (number_got (told before short) ≡ 16)
    × (number_got (told counts_nothing short) ≡ 19)
    × (usable (unit 0) 8 ≡ true)
unfolding take_packet bare judged counted_for usable usable_unit read_packet read_protocol read_time after_time crc mirrored bits remainder message modulo
computed = (refl, refl, refl, refl, refl, refl, refl, refl, refl, refl, refl, refl)

-- ---- what is said of a value that waits is said of something: it comes to a fresh unit, then Time-Codes 63 and 0

waits_until : WaitsUntil ours (unit 0) (arrived later 1) (lent memory buffer) (time_code 63 ∷ []) 0
unfolding take_packet bare judged counted_for usable usable_unit read_packet read_protocol read_time after_time after take_time_code after_code crc mirrored bits remainder message modulo
waits_until = (tested later refl, refl, refl, (λ wraps. omega (arith, wraps.1), tt), refl, (refl, refl))

pub greatest_at_wrap : GreatestAtWrap ours
greatest_at_wrap = (set_at_wrap, (unit 0, arrived later 1, lent memory buffer, time_code 63 ∷ [], 0, waits_until))

-- ---- impostors

-- the first is made of a time and FF
abbrev time : TheTime
time = record { epoch = 0x9F; when = AtOnce; value = 0x5800000 }

made : MadeOf (unit 0) (arrived finer 1) time 0 (0xFF ∷ [])
unfolding crc mirrored bits remainder message modulo
made = (0xFE, inr refl, inl refl, omega arith, omega arith, omega arith, refl, refl)

pub before_shut_out : (MadeIsTaken before → ⊥) × (Demand1 before → ⊥)
before_shut_out = (
  λ meets. omega (arith, (meets (unit 0) (arrived finer 1) (lent memory buffer) time 0 (0xFF ∷ []) computed.11 refl made).0, computed.2),
  not_ours before finer number_got (tested finer refl) computed.2 computed.0 (λ e. omega (arith, e)),
)

-- its last bit sets ET at once
pub rounds_time_shut_out : (GreatestTick rounds_time → ⊥) × (Demand1 rounds_time → ⊥)
rounds_time_shut_out = (
  λ meets. let most = (meets (unit 0) (arrived finer 1) (lent memory buffer) (tested finer refl) computed.3).0 refl in omega (arith, rw computed.4 at most.0),
  not_ours rounds_time finer et (tested finer refl) computed.4 computed.1 (λ e. omega (arith, e)),
)

-- what takes a packet that ours does not take, takes one that was not made
takes_more : (t : Terminal) (p : List ℕ) → some (leb 256) p ≡ false → number_got (told t p) ≡ 19 → number_got (told ours p) ≡ 16 → TakenIsMade t → ⊥
takes_more t p bytes e f meets =
    let is = meets (unit 0) (arrived p 1) (lent memory buffer) (tested p bytes) e in
    omega (arith, f, (made_is_taken (unit 0) (arrived p 1) (lent memory buffer) is.0 is.1 is.2 computed.11 refl is.3).0)

pub drops_seconds_shut_out : (GreatestTick drops_seconds → ⊥) × (TakenIsMade drops_seconds → ⊥) × (Demand1 drops_seconds → ⊥)
drops_seconds_shut_out = (
  λ meets. let most = (meets (unit 0) (arrived higher 1) (lent memory buffer) (tested higher refl) computed.6).0 refl in omega (arith, rw computed.7 at most.1),
  takes_more drops_seconds higher refl computed.6 computed.5,
  not_ours drops_seconds higher number_got (tested higher refl) computed.6 computed.5 (λ e. omega (arith, e)),
)

pub counts_nothing_shut_out : (TakenIsMade counts_nothing → ⊥) × (TwelveAsBefore counts_nothing → ⊥) × (Demand1 counts_nothing → ⊥)
counts_nothing_shut_out = (
  takes_more counts_nothing short refl computed.10 computed.8,
  λ meets. omega (arith, ap number_got (meets (unit 0) (arrived short 1) (lent memory buffer) (tested short refl) refl), computed.10, computed.9),
  not_ours counts_nothing short number_got (tested short refl) computed.10 computed.8 (λ e. omega (arith, e)),
)
