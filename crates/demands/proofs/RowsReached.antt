-- No row of the table is empty: a packet for each number, computed.
use mathlib.Core.Path.{refl}
use mathlib.Core.List.{[], ◌∷◌}
use Rattle.octets.specs.Crc.{crc, mirrored, bits, remainder, message, modulo}
use Rattle.packets.specs.Instruction.{kind_of}
use Rattle.packets.specs.Path.{without_leading_zeros, or_one_zero, path_of}
use Rattle.packets.specs.Reading.{bare, read_command, read_protocol, read_packet}
use Rattle.packets.specs.Reply.{reply_with, reply_length, replied}
use Rattle.packets.specs.Time.{read_time}
use Rattle.unit.specs.Counters.{counted_for}
use Rattle.unit.specs.Clock.{after_time}
use Rattle.unit.specs.Usable.{usable_unit, usable}
use Rattle.unit.specs.Decide.{opening_status, span_size, is_authorised, span_status, header_status, wanted_count, data_status}
use Rattle.unit.specs.Plan.{reply_count, planned_for, decided_by_data, decided_on}
use Rattle.unit.specs.Judge.{judged}
use Rattle.unit.specs.Act.{stored, data_for, replied_to, changed}
use Rattle.unit.specs.Calls.{take_packet}
use Rattle.demands.proofs.Witnesses.{unit, memory, buffer, arrived, lent, write_0, wrong_crc, unused_code, silent_write, time}
use Rattle.demands.specs.Terminal.{ours}
use Rattle.demands.specs.Refusals.{NoRowEmpty}

pub no_row_empty : NoRowEmpty ours
unfolding take_packet bare judged decided_on decided_by_data planned_for header_status opening_status span_status span_size is_authorised wanted_count data_status reply_count stored data_for replied_to changed counted_for usable usable_unit read_packet read_protocol read_command read_time after_time kind_of without_leading_zeros or_one_zero path_of reply_length replied reply_with crc mirrored bits remainder message modulo
no_row_empty = (
  -- 1 no memory; 2 link 0; 3 no room
  (unit 0, arrived write_0 1, lent [] buffer, refl),
  (
    (unit 0, arrived write_0 0, lent memory buffer, refl),
    (
      (unit 0, arrived write_0 1, lent memory [], refl),
      -- 11 to 15
      (
        (unit 0, arrived [] 1, lent memory buffer, refl),
        (
          (unit 0, arrived (0xFE ∷ 0x07 ∷ []) 1, lent memory buffer, refl),
          (
            (unit 0, arrived (0xFE ∷ 0x00 ∷ []) 1, lent memory buffer, refl),
            (
              (unit 0, arrived (0xFE ∷ 0x01 ∷ 0x00 ∷ []) 1, lent memory buffer, refl),
              (
                (unit 0, arrived wrong_crc 1, lent memory buffer, refl),
                -- 16 to 20
                (
                  (unit 0, arrived (0xFE ∷ 0xF0 ∷ []) 1, lent memory buffer, refl),
                  (
                    (unit 0, arrived unused_code 1, lent memory buffer, refl),
                    (
                      (unit 0, arrived silent_write 1, lent memory buffer, refl),
                      (
                        (unit 0, arrived time 1, lent memory buffer, refl),
                        (
                          (unit 0, arrived write_0 1, lent memory buffer, refl),
                          tt,
                        ),
                      ),
                    ),
                  ),
                ),
              ),
            ),
          ),
        ),
      ),
    ),
  ),
)
