-- The cases by hand, computed by the definitions.
use mathlib.Core.Path.{refl}
use mathlib.Core.Bool.{or-true}
use lib.Dec.{eqb}
use Rattle.octets.specs.Crc.{crc, mirrored, bits, remainder, message, modulo}
use Rattle.packets.specs.Instruction.{kind_of}
use Rattle.packets.specs.Path.{without_leading_zeros, or_one_zero, path_of}
use Rattle.packets.specs.Reading.{bare, read_command, read_protocol, read_packet}
use Rattle.packets.specs.Time.{read_time}
use Rattle.unit.specs.Counters.{counted_for}
use Rattle.unit.specs.Clock.{after_time, nearest_second, after_code, after_ticks}
use Rattle.unit.specs.Judge.{judged}
use Rattle.unit.specs.Calls.{take_packet, take_time_code, take_ticks}
use Rattle.demands.specs.Cases.{HandCases, WrapCases, ZeroCases, PreambleCases}

pub hand_cases : HandCases
unfolding crc mirrored bits remainder message modulo kind_of without_leading_zeros or_one_zero path_of read_protocol read_packet after_ticks take_packet bare judged counted_for take_ticks
hand_cases = (
  refl,
  refl,
  refl,
  refl,
  refl,
  refl,
  (refl, refl, refl, refl),
  refl,
  (refl, refl, refl, refl),
  (refl, refl, refl, refl),
  λ u end link lent works there. rw (works, there),
  λ u end link lent works there. rw (works, there),
  λ u works most. rw (works, most),
)

pub wrap_cases : WrapCases
unfolding take_time_code after_code nearest_second
wrap_cases = (
  λ u works last waits et. rw (works, last, waits, et),
  λ u works last waits et. rw (works, last, waits, et),
  λ u works last waits et. rw (works, last, waits, et),
  λ u works last waits et. rw (works, last, waits, et),
  λ u works last waits et. rw (works, last, waits, et),
  λ u works last waits et. rw (works, last, waits, et),
  λ u works last waits et. rw (works, last, waits, et),
  λ u works last waits et. rw (works, last, waits, et),
  λ u works last waits et. rw (works, last, waits, et),
  λ u works last waits et. rw (works, last, waits, et),
  λ u works last waits et. rw (works, last, waits, et),
  λ u works last waits et. rw (works, last, waits, et),
  λ w. (λ u works last waits et. rw (works, last, waits), λ u works last waits et. rw (works, last, waits)),
)

pub zero_cases : ZeroCases
unfolding crc mirrored bits remainder message modulo bare read_command read_protocol read_packet read_time take_packet judged counted_for
zero_cases = (
  λ u end link lent works there. rw (works, there),
  λ u end link lent works there. rw (works, there),
  λ u end link lent works there. rw (works, there),
  λ u end link lent works there. rw (works, there),
  λ u end link lent works there. rw (works, there),
  λ u end link lent works there. rw (works, there),
  λ u end link lent works there. rw (works, there),
  λ u end link lent works there number. rw (works, there, number),
  λ u end link lent works there number. rw (works, there, number),
  λ u end link lent works there number. rw (works, there, number),
  λ u end link lent works there number. rw (works, there, number),
  λ u end link lent works there. rw (works, there),
  λ u end link lent works there number. rw (works, there, number),
  λ u end link lent works there number. rw (works, there, number),
)

pub preamble_cases : PreambleCases
unfolding crc mirrored bits remainder message modulo bare read_protocol read_packet read_time take_packet judged counted_for after_time
preamble_cases = (
  λ u link lent works there number. rw (works, there, number, or-true (eqb 0xFE u.logical)) (refl, refl),
  λ u link lent works there number. rw (works, there, number, or-true (eqb 0xFE u.logical)) (refl, refl),
  λ u link lent works there number. rw (works, there, number, or-true (eqb 0xFE u.logical)) (refl, refl),
  λ u link lent works there number. rw (works, there, number, or-true (eqb 0xFE u.logical)) (refl, refl),
  λ u link lent works there number. rw (works, there, number, or-true (eqb 0xFE u.logical)) (refl, refl),
  λ u link lent works there number. rw (works, there, number, or-true (eqb 0xFE u.logical)) (refl, refl),
  λ u link lent works there number. rw (works, there, number, or-true (eqb 0xFE u.logical)) (refl, refl),
  λ u link lent works there number. rw (works, there, number, or-true (eqb 0xFE u.logical)) (refl, refl),
  λ u link lent works there number. rw (works, there, number, or-true (eqb 0xFE u.logical)) (refl, refl),
  λ u link lent works there number. rw (works, there, number, or-true (eqb 0xFE u.logical)) (refl, refl),
  λ u link lent works there number. rw (works, there, number, or-true (eqb 0xFE u.logical)),
  λ u link lent works there number. rw (works, there, number, or-true (eqb 0xFE u.logical)),
  λ u link lent works there number. rw (works, there, number, or-true (eqb 0xFE u.logical)),
  λ u link lent works there number. rw (works, there, number, or-true (eqb 0xFE u.logical)),
  λ u link lent works there number. rw (works, there, number),
  λ u link lent works there number. rw (works, there, number),
  λ u link lent works there number. rw (works, there, number),
  λ u link lent works there number. rw (works, there, number),
)
