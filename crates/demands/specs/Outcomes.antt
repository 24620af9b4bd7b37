-- Outcomes are determined (document 01, 'What a promise has to say'): every public function asks nothing of its caller, and any two outcomes
-- that its promise allows are equal.
use Rattle.std.specs.Prelude.{◌≡◌, List, ℕ}
use Rattle.demands.specs.Rows.{first, second, third, fourth, fifth, sixth}
use Rattle.octets.proofs.crc_of.Reads.{Asked as asked·crc_of, Learnt as promise·crc_of}
use Rattle.octets.proofs.crc_from.Reads.{Asked as asked·crc_from, Learnt as promise·crc_from}
use Rattle.octets.proofs.read_number.Reads.{Asked as asked·read_number, Learnt as promise·read_number}
use Rattle.octets.proofs.write_number.Reads.{Asked as asked·write_number, Learnt as promise·write_number}
use Rattle.octets.proofs.numbers.U16Octets2.from_octets.Reads.{Asked as asked·U16Octets2·from_octets, Learnt as promise·U16Octets2·from_octets}
use Rattle.octets.proofs.numbers.U16Octets2.to_octets.Reads.{Asked as asked·U16Octets2·to_octets, Learnt as promise·U16Octets2·to_octets}
use Rattle.octets.proofs.numbers.U32Octets3.from_octets.Reads.{Asked as asked·U32Octets3·from_octets, Learnt as promise·U32Octets3·from_octets}
use Rattle.octets.proofs.numbers.U32Octets3.to_octets.Reads.{Asked as asked·U32Octets3·to_octets, Learnt as promise·U32Octets3·to_octets}
use Rattle.octets.proofs.numbers.U32Octets4.from_octets.Reads.{Asked as asked·U32Octets4·from_octets, Learnt as promise·U32Octets4·from_octets}
use Rattle.octets.proofs.numbers.U32Octets4.to_octets.Reads.{Asked as asked·U32Octets4·to_octets, Learnt as promise·U32Octets4·to_octets}
use Rattle.octets.proofs.numbers.U64Octets7.from_octets.Reads.{Asked as asked·U64Octets7·from_octets, Learnt as promise·U64Octets7·from_octets}
use Rattle.octets.proofs.numbers.U64Octets7.to_octets.Reads.{Asked as asked·U64Octets7·to_octets, Learnt as promise·U64Octets7·to_octets}
use Rattle.octets.proofs.numbers.U64Octets8.from_octets.Reads.{Asked as asked·U64Octets8·from_octets, Learnt as promise·U64Octets8·from_octets}
use Rattle.octets.proofs.numbers.U64Octets8.to_octets.Reads.{Asked as asked·U64Octets8·to_octets, Learnt as promise·U64Octets8·to_octets}
use Rattle.octets.proofs.copy_part.Reads.{Asked as asked·copy_part, Learnt as promise·copy_part}
use Rattle.octets.proofs.fill.Reads.{Asked as asked·fill, Learnt as promise·fill}
use Rattle.octets.proofs.move_to_start.Reads.{Asked as asked·move_to_start, Learnt as promise·move_to_start}
use Rattle.packets.proofs.instruction.Kind.is_unused.Reads.{Asked as asked·Kind·is_unused, Learnt as promise·Kind·is_unused}
use Rattle.packets.proofs.instruction.Kind.is_read.Reads.{Asked as asked·Kind·is_read, Learnt as promise·Kind·is_read}
use Rattle.packets.proofs.instruction.Kind.is_rmw.Reads.{Asked as asked·Kind·is_rmw, Learnt as promise·Kind·is_rmw}
use Rattle.packets.proofs.instruction.Instruction.packet_type.Reads.{Asked as asked·Instruction·packet_type, Learnt as promise·Instruction·packet_type}
use Rattle.packets.proofs.instruction.Instruction.is_write.Reads.{Asked as asked·Instruction·is_write, Learnt as promise·Instruction·is_write}
use Rattle.packets.proofs.instruction.Instruction.is_verified.Reads.{Asked as asked·Instruction·is_verified, Learnt as promise·Instruction·is_verified}
use Rattle.packets.proofs.instruction.Instruction.wants_reply.Reads.{Asked as asked·Instruction·wants_reply, Learnt as promise·Instruction·wants_reply}
use Rattle.packets.proofs.instruction.Instruction.is_incrementing.Reads.{Asked as asked·Instruction·is_incrementing, Learnt as promise·Instruction·is_incrementing}
use Rattle.packets.proofs.instruction.Instruction.code.Reads.{Asked as asked·Instruction·code, Learnt as promise·Instruction·code}
use Rattle.packets.proofs.instruction.Instruction.kind.Reads.{Asked as asked·Instruction·kind, Learnt as promise·Instruction·kind}
use Rattle.packets.proofs.instruction.Instruction.r.Reads.{Asked as asked·Instruction·r, Learnt as promise·Instruction·r}
use Rattle.packets.proofs.instruction.Instruction.reply_address_size.Reads.{Asked as asked·Instruction·reply_address_size, Learnt as promise·Instruction·reply_address_size}
use Rattle.packets.proofs.instruction.Instruction.header_size.Reads.{Asked as asked·Instruction·header_size, Learnt as promise·Instruction·header_size}
use Rattle.packets.proofs.instruction.Instruction.reply_form.Reads.{Asked as asked·Instruction·reply_form, Learnt as promise·Instruction·reply_form}
use Rattle.packets.proofs.path.Path.none.Reads.{Asked as asked·Path·none, Learnt as promise·Path·none}
use Rattle.packets.proofs.path.Path.size.Reads.{Asked as asked·Path·size, Learnt as promise·Path·size}
use Rattle.packets.proofs.path.Path.same.Reads.{Asked as asked·Path·same, Learnt as promise·Path·same}
use Rattle.packets.proofs.reading.End.is_eop.Reads.{Asked as asked·End·is_eop, Learnt as promise·End·is_eop}
use Rattle.packets.proofs.reading.Refusal.number.Reads.{Asked as asked·Refusal·number, Learnt as promise·Refusal·number}
use Rattle.packets.proofs.bare.Reads.{Asked as asked·bare, Learnt as promise·bare}
use Rattle.packets.proofs.read_packet.Reads.{Asked as asked·read_packet, Learnt as promise·read_packet}
use Rattle.packets.proofs.reply.Reply.write.Reads.{Asked as asked·Reply·write, Learnt as promise·Reply·write}
use Rattle.packets.proofs.path.Path.data_place.Reads.{Asked as asked·Path·data_place, Learnt as promise·Path·data_place}
use Rattle.packets.proofs.reply.Reply.length.Reads.{Asked as asked·Reply·length, Learnt as promise·Reply·length}
use Rattle.packets.proofs.time_number.Reads.{Asked as asked·time_number, Learnt as promise·time_number}
use Rattle.packets.proofs.read_time.Reads.{Asked as asked·read_time, Learnt as promise·read_time}
use Rattle.packets.proofs.ccsds_number.Reads.{Asked as asked·ccsds_number, Learnt as promise·ccsds_number}
use Rattle.packets.proofs.ccsds.Unsent.number.Reads.{Asked as asked·Unsent·number, Learnt as promise·Unsent·number}
use Rattle.packets.proofs.read_ccsds.Reads.{Asked as asked·read_ccsds, Learnt as promise·read_ccsds}
use Rattle.packets.proofs.space_packet.Reads.{Asked as asked·space_packet, Learnt as promise·space_packet}
use Rattle.packets.proofs.write_ccsds.Reads.{Asked as asked·write_ccsds, Learnt as promise·write_ccsds}
use Rattle.unit.proofs.status_byte.Reads.{Asked as asked·status_byte, Learnt as promise·status_byte}
use Rattle.unit.proofs.fate.Fate.number.Reads.{Asked as asked·Fate·number, Learnt as promise·Fate·number}
use Rattle.unit.proofs.fate.Fate.status.Reads.{Asked as asked·Fate·status, Learnt as promise·Fate·status}
use Rattle.unit.proofs.owner.OwnerDefault.default.Reads.{Asked as asked·OwnerDefault·default, Learnt as promise·OwnerDefault·default}
use Rattle.unit.proofs.judge.Reads.{Asked as asked·judge, Learnt as promise·judge}
use Rattle.unit.proofs.take_packet.Reads.{Asked as asked·take_packet, Learnt as promise·take_packet}
use Rattle.unit.proofs.take_time_code.Reads.{Asked as asked·take_time_code, Learnt as promise·take_time_code}
use Rattle.unit.proofs.take_ticks.Reads.{Asked as asked·take_ticks, Learnt as promise·take_ticks}
use Rattle.records.proofs.record.Item.size.Reads.{Asked as asked·Item·size, Learnt as promise·Item·size}
use Rattle.records.proofs.read_record.Reads.{Asked as asked·read_record, Learnt as promise·read_record}
use Rattle.records.proofs.bench.Stage.is_over.Reads.{Asked as asked·Stage·is_over, Learnt as promise·Stage·is_over}
use Rattle.records.proofs.start.Reads.{Asked as asked·start, Learnt as promise·start}
use Rattle.records.proofs.run.Reads.{Asked as asked·run, Learnt as promise·run}
use Rattle.terminal.proofs.terminal_crc.Reads.{Asked as asked·terminal_crc, Learnt as promise·terminal_crc}
use Rattle.script.proofs.line_size.Reads.{Asked as asked·line_size, Learnt as promise·line_size}
use Rattle.script.proofs.runnable.Reads.{Asked as asked·runnable, Learnt as promise·runnable}
use Rattle.script.proofs.field.Reads.{Asked as asked·field, Learnt as promise·field}
use Rattle.script.proofs.rest.Reads.{Asked as asked·rest, Learnt as promise·rest}
use Rattle.script.proofs.number.Reads.{Asked as asked·number, Learnt as promise·number}
use Rattle.script.proofs.byte.Reads.{Asked as asked·byte, Learnt as promise·byte}
use Rattle.script.proofs.bytes.Reads.{Asked as asked·bytes, Learnt as promise·bytes}

-- What a function asks and promises, as the checker makes it of the function's own `requires` and `ensures` (of `Owner::default`, of the trait's, with the ghost member `is_default`): a claim on lifetimes and arguments; and one on
-- lifetimes, arguments, result, and what each argument is at exit. That none is left out here the gate looks up (tools/promises).

-- It asks nothing: it checks for itself.
abbrev pub AsksNothing : {K : Type 0} {A : K → Type 0} → ((k : K) → A k → Type 0) → Type 0
AsksNothing {K = K} {A = A} asked = (k : K) (a : A k) → asked k a

-- Two results that it allows for the same arguments are equal.
abbrev pub OneResult : {K : Type 0} {A Z E : K → Type 0} → ((k : K) → A k → Z k → E k → Type 0) → Type 0
OneResult {K = K} {A = A} {Z = Z} {E = E} promise =
    (k : K) (a : A k) (z z' : Z k) (e e' : E k) → promise k a z e → promise k a z' e' → z ≡ z'

-- Where the result is a part of what was lent, two such parts have the same bytes.
abbrev pub OnePart : {K : Type 0} {A Z E : K → Type 0} → ((k : K) → A k → Z k → E k → Type 0) → ((k : K) → Z k → List ℕ) → Type 0
OnePart {K = K} {A = A} {Z = Z} {E = E} promise bytes =
    (k : K) (a : A k) (z z' : Z k) (e e' : E k) → promise k a z e → promise k a z' e' → bytes k z ≡ bytes k z'

-- And two contents of a lent buffer at exit.
abbrev pub OneExit : {K : Type 0} {A Z E : K → Type 0} → ((k : K) → A k → Z k → E k → Type 0) → ((k : K) → E k → List ℕ) → Type 0
OneExit {K = K} {A = A} {Z = Z} {E = E} promise buffer =
    (k : K) (a : A k) (z z' : Z k) (e e' : E k) → promise k a z e → promise k a z' e' → buffer k e ≡ buffer k e'

abbrev pub OctetsDetermined : Type 0
OctetsDetermined =
    (OneResult promise·crc_of)
    × (OneResult promise·crc_from)
    × (OneResult promise·read_number)
    × (OneResult promise·write_number)
    × (OneExit promise·write_number (λ κs e. (first e).now))  -- the buffer
    × (OneResult promise·U16Octets2·from_octets)
    × (OneResult promise·U16Octets2·to_octets)
    × (OneResult promise·U32Octets3·from_octets)
    × (OneResult promise·U32Octets3·to_octets)
    × (OneResult promise·U32Octets4·from_octets)
    × (OneResult promise·U32Octets4·to_octets)
    × (OneResult promise·U64Octets7·from_octets)
    × (OneResult promise·U64Octets7·to_octets)
    × (OneResult promise·U64Octets8·from_octets)
    × (OneResult promise·U64Octets8·to_octets)
    × (OneResult promise·copy_part)
    × (OneExit promise·copy_part (λ κs e. (fourth e).now))  -- the destination
    × (OneResult promise·fill)
    × (OneExit promise·fill (λ κs e. (first e).now))  -- the buffer
    × (OneResult promise·move_to_start)
    × (OneExit promise·move_to_start (λ κs e. (first e).now))  -- the buffer

abbrev pub PacketsDetermined : Type 0
PacketsDetermined =
    (OneResult promise·Kind·is_unused)
    × (OneResult promise·Kind·is_read)
    × (OneResult promise·Kind·is_rmw)
    × (OneResult promise·Instruction·packet_type)
    × (OneResult promise·Instruction·is_write)
    × (OneResult promise·Instruction·is_verified)
    × (OneResult promise·Instruction·wants_reply)
    × (OneResult promise·Instruction·is_incrementing)
    × (OneResult promise·Instruction·code)
    × (OneResult promise·Instruction·kind)
    × (OneResult promise·Instruction·r)
    × (OneResult promise·Instruction·reply_address_size)
    × (OneResult promise·Instruction·header_size)
    × (OneResult promise·Instruction·reply_form)
    × (OneResult promise·Path·none)
    × (OneResult promise·Path·size)
    × (OneResult promise·Path·same)
    × (OneResult promise·End·is_eop)
    × (OneResult promise·Refusal·number)
    × (OnePart promise·bare (λ κs z. z.now))
    × (OneResult promise·read_packet)
    × (OneResult promise·Reply·write)
    × (OneExit promise·Reply·write (λ κs e. (third e).now))  -- the reply buffer
    × (OneResult promise·Path·data_place)
    × (OneResult promise·Reply·length)
    × (OneResult promise·time_number)
    × (OneResult promise·read_time)
    × (OneResult promise·ccsds_number)
    × (OneResult promise·Unsent·number)
    × (OneResult promise·read_ccsds)
    × (OnePart promise·space_packet (λ κs z. z.now))
    × (OneResult promise·write_ccsds)
    × (OneExit promise·write_ccsds (λ κs e. (fourth e).now))  -- the output

abbrev pub UnitDetermined : Type 0
UnitDetermined =
    (OneResult promise·status_byte)
    × (OneResult promise·Fate·number)
    × (OneResult promise·Fate·status)
    × (OneResult promise·OwnerDefault·default)
    × (OneResult promise·judge)
    × (OneResult promise·take_packet)
    × (OneExit promise·take_packet (λ κs e. (fifth e).now))  -- memory
    × (OneExit promise·take_packet (λ κs e. (sixth e).now))  -- the reply buffer
    × (OneResult promise·take_time_code)
    × (OneResult promise·take_ticks)

abbrev pub RecordsDetermined : Type 0
RecordsDetermined =
    (OneResult promise·Item·size)
    × (OneResult promise·read_record)
    × (OneResult promise·Stage·is_over)
    × (OneResult promise·start)
    × (OneResult promise·run)
    × (OneExit promise·run (λ κs e. (fourth e).now))  -- memory
    × (OneExit promise·run (λ κs e. (fifth e).now))  -- the reply buffer
    × (OneExit promise·run (λ κs e. (sixth e).now))  -- the text buffer

abbrev pub TerminalDetermined : Type 0
TerminalDetermined = (OneResult promise·terminal_crc)

abbrev pub ScriptDetermined : Type 0
ScriptDetermined =
    (OneResult promise·line_size)
    × (OneResult promise·runnable)
    × (OnePart promise·field (λ κs z. z.now))
    × (OnePart promise·rest (λ κs z. z.now))
    × (OneResult promise·number)
    × (OneResult promise·byte)
    × (OneResult promise·bytes)
    × (OneExit promise·bytes (λ κs e. (second e).now))  -- the buffer

abbrev pub OctetsAskNothing : Type 0
OctetsAskNothing =
    AsksNothing asked·crc_of
    × AsksNothing asked·crc_from
    × AsksNothing asked·read_number
    × AsksNothing asked·write_number
    × AsksNothing asked·U16Octets2·from_octets
    × AsksNothing asked·U16Octets2·to_octets
    × AsksNothing asked·U32Octets3·from_octets
    × AsksNothing asked·U32Octets3·to_octets
    × AsksNothing asked·U32Octets4·from_octets
    × AsksNothing asked·U32Octets4·to_octets
    × AsksNothing asked·U64Octets7·from_octets
    × AsksNothing asked·U64Octets7·to_octets
    × AsksNothing asked·U64Octets8·from_octets
    × AsksNothing asked·U64Octets8·to_octets
    × AsksNothing asked·copy_part
    × AsksNothing asked·fill
    × AsksNothing asked·move_to_start

abbrev pub PacketsAskNothing : Type 0
PacketsAskNothing =
    AsksNothing asked·Kind·is_unused
    × AsksNothing asked·Kind·is_read
    × AsksNothing asked·Kind·is_rmw
    × AsksNothing asked·Instruction·packet_type
    × AsksNothing asked·Instruction·is_write
    × AsksNothing asked·Instruction·is_verified
    × AsksNothing asked·Instruction·wants_reply
    × AsksNothing asked·Instruction·is_incrementing
    × AsksNothing asked·Instruction·code
    × AsksNothing asked·Instruction·kind
    × AsksNothing asked·Instruction·r
    × AsksNothing asked·Instruction·reply_address_size
    × AsksNothing asked·Instruction·header_size
    × AsksNothing asked·Instruction·reply_form
    × AsksNothing asked·Path·none
    × AsksNothing asked·Path·size
    × AsksNothing asked·Path·same
    × AsksNothing asked·End·is_eop
    × AsksNothing asked·Refusal·number
    × AsksNothing asked·bare
    × AsksNothing asked·read_packet
    × AsksNothing asked·Reply·write
    × AsksNothing asked·Path·data_place
    × AsksNothing asked·Reply·length
    × AsksNothing asked·time_number
    × AsksNothing asked·read_time
    × AsksNothing asked·ccsds_number
    × AsksNothing asked·Unsent·number
    × AsksNothing asked·read_ccsds
    × AsksNothing asked·space_packet
    × AsksNothing asked·write_ccsds

abbrev pub UnitAsksNothing : Type 0
UnitAsksNothing =
    AsksNothing asked·status_byte
    × AsksNothing asked·Fate·number
    × AsksNothing asked·Fate·status
    × AsksNothing asked·OwnerDefault·default
    × AsksNothing asked·judge
    × AsksNothing asked·take_packet
    × AsksNothing asked·take_time_code
    × AsksNothing asked·take_ticks

abbrev pub RecordsAskNothing : Type 0
RecordsAskNothing =
    AsksNothing asked·Item·size
    × AsksNothing asked·read_record
    × AsksNothing asked·Stage·is_over
    × AsksNothing asked·start
    × AsksNothing asked·run

abbrev pub TerminalAsksNothing : Type 0
TerminalAsksNothing =
    AsksNothing asked·terminal_crc

abbrev pub ScriptAsksNothing : Type 0
ScriptAsksNothing =
    AsksNothing asked·line_size
    × AsksNothing asked·runnable
    × AsksNothing asked·field
    × AsksNothing asked·rest
    × AsksNothing asked·number
    × AsksNothing asked·byte
    × AsksNothing asked·bytes
