-- `packets::reading::read_command` meets its contract: the tests in the order of the definition.
use Rattle.std.proofs.Common.{rules, ◌≡◌, ◌≤◌, ◌<◌, get_or, take, length, sym, ◌∙◌, arith, Err}
use Rattle.octets.specs.Crc.{crc}
use Rattle.packets.specs.Instruction.{header_size}
use Rattle.packets.specs.Header.{instruction_at}
use Rattle.packets.specs.declared.reading.Refusal.TheVariants.{Incomplete}
use Rattle.packets.proofs.ReadingLaws.{read_short, read_reply, read_cut, read_damaged, read_whole}
use Rattle.packets.proofs.reading.read_command.Goals as goal

pub returns-in_err-byte : goal.returns-in_err-byte
returns-in_err-byte c =
    let p = c.args.packet.now in
    let short : length p < 3 = search rules in
    let cut : c.from_residual.result ≡ Err Incomplete = search rules in
    cut ∙ read_short p short

pub returns-then-packet_type-eq0 : goal.returns-then-packet_type-eq0
returns-then-packet_type-eq0 c =
    let p = c.args.packet.now in
    let three : 3 ≤ length p = search rules in
    let byte : c.in_ok-byte.field-0.now ≡ get_or p 2 0 = search rules in
    read_reply p three (rw (← byte) (sym c.packet_type.ensures ∙ c.if-packet_type-eq0.true))

pub returns-in_err-header : goal.returns-in_err-header
returns-in_err-header c =
    let p = c.args.packet.now in
    let three : 3 ≤ length p = search rules in
    let byte : c.in_ok-byte.field-0.now ≡ get_or p 2 0 = search rules in
    let size : c.header_size.result ≡ header_size (instruction_at p) = rw (← byte) c.header_size.ensures in
    let short : length p < c.header_size.result = search rules in
    let cut : c.from_residual-in_err-header.result ≡ Err Incomplete = search rules in
    cut ∙ read_cut p three (λ e. c.if-packet_type-eq0.false (c.packet_type.ensures ∙ rw byte e)) (omega (arith, size, short))

pub returns-then-crc_of-ne0 : goal.returns-then-crc_of-ne0
returns-then-crc_of-ne0 c =
    let p = c.args.packet.now in
    let three : 3 ≤ length p = search rules in
    let byte : c.in_ok-byte.field-0.now ≡ get_or p 2 0 = search rules in
    let size : c.header_size.result ≡ header_size (instruction_at p) = rw (← byte) c.header_size.ensures in
    let whole : c.header_size.result ≤ length p = search rules in
    let header : c.in_ok-header.header.now ≡ take c.header_size.result p = search rules in
    let sum : c.crc_of.result ≡ crc (take (header_size (instruction_at p)) p) = rw (← size, ← header) c.crc_of.ensures in
    read_damaged p three (λ e. c.if-packet_type-eq0.false (c.packet_type.ensures ∙ rw byte e)) (omega (arith, size, whole)) (λ e. c.if-crc_of-ne0.true (sum ∙ e))

pub returns : goal.returns
returns c =
    let p = c.args.packet.now in
    let three : 3 ≤ length p = search rules in
    let byte : c.in_ok-byte.field-0.now ≡ get_or p 2 0 = search rules in
    let size : c.header_size.result ≡ header_size (instruction_at p) = rw (← byte) c.header_size.ensures in
    let whole : c.header_size.result ≤ length p = search rules in
    let header : c.in_ok-header.header.now ≡ take c.header_size.result p = search rules in
    let sum : c.crc_of.result ≡ crc (take (header_size (instruction_at p)) p) = rw (← size, ← header) c.crc_of.ensures in
    rw c.command_of.ensures (read_whole p three (λ e. c.if-packet_type-eq0.false (c.packet_type.ensures ∙ rw byte e)) (omega (arith, size, whole)) (sym sum ∙ c.if-crc_of-ne0.false))
