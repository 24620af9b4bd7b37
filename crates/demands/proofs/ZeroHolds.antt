-- The zero in front of plug-and-play packets: taken off where it is, once, and nothing else is.
use Rattle.packets.specs.declared.time.Time.{Time as TheTime}
use Rattle.std.specs.Prelude.{Option, Some, None, Ok, Err}
use mathlib.Core.Path.{◌≡◌, refl, sym, ◌∙◌, ap}
use mathlib.Core.Bool.{true, false, false≢true}
use mathlib.Core.Logic.{◌⊎◌, inl, inr, ⊎_elim, ◌≢◌}
use mathlib.Core.List.{List, ◌∷◌}
use Prim.Native.Nat.{ℕ}
use native.Mathlib.Omega.{arith}
use lib.ListN.{length, get_or}
use Rattle.packets.specs.Reading.{bare, read_packet}
use Rattle.packets.specs.Time.{read_time}
use Rattle.packets.specs.declared.header.Header.{Header}
use Rattle.packets.specs.declared.reading.End.{End}
use Rattle.packets.specs.declared.reading.Packet.TheVariants.{Time}
use Rattle.packets.specs.declared.reading.Refusal.TheVariants.{UnknownProtocol}
use Rattle.packets.proofs.BareLaws.{bare_lacks, bare_zero, bare_other, bare_once}
use Rattle.packets.proofs.TimeLaws.{taken_addressed, thrown_away}
use Rattle.packets.proofs.ReadingLaws.{target_read, protocol_extended, packet_protocol, packet_time, packet_unknown}
use Rattle.std.proofs.Common.{Ok, Err}
use Rattle.unit.specs.Given.{Arrived, as_read, Lent}
use Rattle.unit.specs.Fate.{Status, is_success, fate_number}
use Rattle.unit.specs.Decide.{header_status}
use Rattle.unit.specs.Plan.{unanswered_fate}
use Rattle.unit.specs.Judge.{time_ruling, judged}
use Rattle.unit.specs.Calls.{done, take_read, take_packet}
use Rattle.unit.specs.declared.unit.Unit.{Unit as TheUnit}
use Rattle.unit.proofs.FateLaws.{unread_number}
use Rattle.unit.proofs.DecideLaws.{addressed}
use Rattle.unit.proofs.CommandLaws.{packets_are, command_is}
use Rattle.unit.proofs.UsableLaws.{number_fits_law, alone}
use Rattle.demands.proofs.NamesHold.{refused_other, silent_other, no_status}
use Rattle.demands.specs.Terminal.{ours, IsCommand, path_in}
use Rattle.demands.specs.Zero.{with_bytes, ReadSo, AsWithoutIt, OthersAsBefore, BySecondByte, NoEffect, OnlyAddressed, TakenOnce, WasRefused, NoneWithZero}

-- two packets of one end and link that are read as the same bytes have one outcome
same_bytes_law : (u : TheUnit) (p : Arrived) (lent : Lent) {a b : List ℕ} → a ≡ b → take_read u (with_bytes p a) lent ≡ take_read u (with_bytes p b) lent
same_bytes_law u p lent e = ap (λ (bytes : List ℕ). take_read u (with_bytes p bytes) lent) e

pub as_without_it : AsWithoutIt ours
unfolding take_packet
as_without_it u p lent rest begins =
    same_bytes_law u p lent (ap bare begins ∙ bare_zero rest ∙ bare_lacks (0xFE ∷ 0x03 ∷ rest) refl)

pub others_as_before : OthersAsBefore ours
unfolding take_packet
others_as_before u p lent none = same_bytes_law u p lent (bare_other p.packet none)

pub taken_once : TakenOnce ours
unfolding take_packet
taken_once u p lent = same_bytes_law u p lent (bare_once p.packet)

pub read_so : ReadSo
read_so p = (
  λ rest begins. ap (with_bytes p) (ap bare begins ∙ bare_zero rest),
  λ otherwise. ap (with_bytes p) (bare_other p.packet otherwise),
)

pub none_with_zero : NoneWithZero
none_with_zero c rest rmap begins = omega (arith, sym rmap ∙ ap (λ (b : List ℕ). get_or b 1 0) begins)

-- ---- by the second byte

-- a time packet is thrown away or taken
time_either : (r : Option TheTime) (u : TheUnit) (bytes : List ℕ) (link : ℕ) (lent : Lent)
    → (fate_number (done (time_ruling r) u bytes link lent).answer.fate ≡ 16) ⊎ (fate_number (done (time_ruling r) u bytes link lent).answer.fate ≡ 19)
time_either None u bytes link lent = inl refl
time_either (Some t) u bytes link lent = inr refl

pub by_second_byte : BySecondByte ours
unfolding judged
by_second_byte u p lent otherwise two works there =
    let as-it-is = others_as_before u p lent otherwise in
    let fits = number_fits_law u (alone u (length lent.memory) works) in (
      λ e. rw (
        as-it-is,
        works,
        there,
        ← packet_protocol p.packet u.number two,
        ← protocol_extended (get_or p.packet 1 0) p.packet u.number e,
      ),
      λ e. rw (as-it-is, works, there, packet_time p.packet u.number two fits.0 fits.1 e)
          (time_either (read_time p.packet p.end u.logical u.number) u p.packet p.link lent),
      λ x y z other. rw (as-it-is, works, there, packet_unknown p.packet u.number two x y z other),
    )

-- ---- by the first byte

pub only_addressed : OnlyAddressed ours
only_addressed u p lent otherwise unit all =
    packets_are u p lent lent.memory refl (λ o o'. NoEffect u lent o) (λ e. (refl, refl, no_status, λ n. omega (arith, n)))
    (λ e f. (refl, refl, no_status, λ n. omega (arith, n))) (λ e f why g. (refl, refl, no_status, λ n. omega (arith, n, (unread_number why).1)))
    (λ e f g w. (refl, refl, no_status, λ n. omega (arith, n)))
    (λ e f g t w. absurd (taken_addressed (as_read p).packet p.end u.logical u.number t w (λ e. unit (sym first ∙ e)) (λ e. all (sym first ∙ e))))
    (λ e f h g. let s = header_status u h (path_in u p) p.link in
    command_is u h (path_in u p) (as_read p) lent (NoEffect u lent) (refl, refl, no_status, λ n. omega (arith, n))
    (λ refused. (λ w. (refl, refl, refused_other s refused, λ n. omega (arith, n)), λ w. (refl, refl, silent_other s refused, silent s refused)))
    (λ q a. absurd (elsewhere h g a)) (λ q a. absurd (elsewhere h g a)))
  where
    silent : (s : Status) → is_success s ≡ false → fate_number (unanswered_fate s) ≢ 19
    silent (Ok done) e = absurd (false≢true (sym e))
    silent (Err offence) e = λ n. omega (arith, n)

    first : get_or (as_read p).packet 0 0 ≡ get_or p.packet 0 0
    first = ap (λ (b : List ℕ). get_or b 0 0) (bare_other p.packet otherwise)

    elsewhere : (h : Header) → IsCommand u p h → is_success (header_status u h (path_in u p) p.link) ≡ true → ⊥
    elsewhere h is a =
        let target = target_read (as_read p).packet u.number h is ∙ first in
        addressed u h (path_in u p) p.link a (λ e. unit (sym target ∙ e)) (λ e. all (sym target ∙ e))

-- ---- what such a packet was before

module _ (rest : List ℕ) where
  abbrev zeroed : List ℕ
  zeroed = 0x00 ∷ 0xFE ∷ 0x03 ∷ rest

  -- by its second byte: a time packet where the time number is FE, unknown elsewhere
  was_time : (number : ℕ) → number ≡ 0xFE → read_packet zeroed number ≡ Ok Time
  was_time number e = packet_time zeroed number (omega arith) (omega (arith, e)) (omega (arith, e)) (sym e)

  was_unknown : (number : ℕ) → number ≢ 0xFE → read_packet zeroed number ≡ Err UnknownProtocol
  was_unknown number e = packet_unknown zeroed number (omega arith) (λ z. omega (arith, z)) (λ z. omega (arith, z)) (λ z. omega (arith, z)) (λ f. e (sym f))

  -- and 03 is no epoch code
  was_thrown : (end : End) (logical number : ℕ) → read_time zeroed end logical number ≡ None
  was_thrown end logical number = thrown_away zeroed end logical number (λ passed. ⊎_elim (λ e. omega (arith, e)) (λ e. omega (arith, e)) passed.epoch)

pub was_refused : WasRefused
unfolding judged
was_refused u p lent rest begins works there = (
  λ number. rw (works, there, begins, was_time rest u.number number, was_thrown rest p.end u.logical u.number),
  λ other. rw (works, there, begins, was_unknown rest u.number other),
)
