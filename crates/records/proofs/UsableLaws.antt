-- The bench's unit is usable before the first record and after every one, so Time-Codes and ticks print fate 0, status - and reply 0.
use Rattle.std.proofs.Common.{◌≡◌, ℕ, true, List, [], length, refl, ◌∙◌}
use Rattle.octets.specs.Numbers.{Digits}
use Rattle.octets.proofs.NumberLaws.{digits_part}
use Rattle.packets.specs.Path.{path_of, or_one_zero, without_leading_zeros}
use Rattle.unit.specs.Usable.{usable_unit, usable}
use Rattle.unit.specs.Calls.{take_time_code, take_ticks}
use Rattle.unit.specs.declared.fate.Fate.TheVariants.{TimeChanged}
use Rattle.unit.proofs.CallLaws.{packet_length}
use Rattle.unit.proofs.UsableLaws.{alone, packet_with_memory, code_with_memory, ticks_with_memory}
use Rattle.records.specs.Text.{record_line}
use Rattle.records.specs.Log.{number_after, bench_unit, Held, arrived_in, lent_by, outcome_of, line_for, held_after}
use Rattle.records.specs.Record.{size_of}
use Rattle.records.specs.declared.record.Item.{Item}
use Rattle.records.specs.declared.record.Item.TheVariants.{Packet, TimeCode, Ticks}

pub start_usable : usable bench_unit 4096 ≡ true
unfolding usable usable_unit path_of or_one_zero without_leading_zeros
start_usable = refl

-- usable with the memory that is held
abbrev pub Works : Held → Type 0
Works h = usable h.bench.unit (length h.memory) ≡ true

pub stays_usable : (item : Item) (s : List ℕ) (h : Held) → Digits 256 s → Works h → Works (held_after (outcome_of item s h) (size_of item) h)
stays_usable (Packet end link size) s h d e =
    let u = h.bench.unit in
    let p = arrived_in s end link size in
    rw (packet_length u p (lent_by h)).0 (packet_with_memory u (length h.memory) p (lent_by h) (digits_part s 7 size d) ∙ e)
stays_usable (TimeCode byte) s h d e = code_with_memory h.bench.unit (length h.memory) byte ∙ e
stays_usable (Ticks count) s h d e = ticks_with_memory h.bench.unit (length h.memory) count ∙ e

-- the line of a Time-Code, and of ticks: fate 0, no status, no reply
abbrev small_line : Held → List ℕ
small_line h = record_line (number_after h.bench) TimeChanged []

pub small_zero : (s : List ℕ) (h : Held) → Works h
    → ((byte : ℕ) → line_for (outcome_of (TimeCode byte) s h) h ≡ small_line h) × ((count : ℕ) → line_for (outcome_of (Ticks count) s h) h ≡ small_line h)
unfolding take_time_code take_ticks
small_zero s h e =
    let k = alone h.bench.unit (length h.memory) e in
    (λ byte. rw k, λ count. rw k)
