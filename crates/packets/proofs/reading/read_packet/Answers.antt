-- `packets::reading::read_packet` meets its contract: an arm for each case of the definition.
use Rattle.std.proofs.Common.{rules, ◌≡◌, ◌≤◌, ◌<◌, get_or, length, sym, ◌∙◌, arith, Err}
use Rattle.packets.specs.declared.reading.Refusal.TheVariants.{Incomplete}
use Rattle.packets.proofs.ReadingLaws.{packet_short, packet_protocol, protocol_extended, protocol_command}
use Rattle.packets.proofs.ReadingLaws.{protocol_time, protocol_other_number, protocol_below, protocol_above}
use Rattle.packets.proofs.reading.read_packet.Goals as goal

pub returns-in_err-protocol : goal.returns-in_err-protocol
returns-in_err-protocol c =
    let a = c.args in
    let short : length a.packet.now < 2 = search rules in
    let cut : c.from_residual.result ≡ Err Incomplete = search rules in
    cut ∙ packet_short a.packet.now a.number short

pub returns-in-0 : goal.returns-in-0
returns-in-0 c =
    let a = c.args in
    let p = a.packet.now in
    let long : 2 ≤ length p = search rules in
    let q : get_or p 1 0 ≡ c.in_ok-protocol.field-0.now = search rules in
    protocol_extended (get_or p 1 0) p a.number (q ∙ c.in-0.is) ∙ packet_protocol p a.number long

pub returns-in-1 : goal.returns-in-1
returns-in-1 c =
    let a = c.args in
    let p = a.packet.now in
    let long : 2 ≤ length p = search rules in
    let q : get_or p 1 0 ≡ c.in_ok-protocol.field-0.now = search rules in
    c.read_command.ensures
    ∙ protocol_command (get_or p 1 0) p a.number (rw q c.in-1.is)
    ∙ packet_protocol p a.number long

pub returns-in-240-to-254 : goal.returns-in-240-to-254
returns-in-240-to-254 c =
    let a = c.args in
    let p = a.packet.now in
    let long : 2 ≤ length p = search rules in
    let q : get_or p 1 0 ≡ c.in_ok-protocol.field-0.now = search rules in
    protocol_time (get_or p 1 0) p a.number (omega (arith, q)) (omega (arith, q)) (q ∙ c.if-protocol-number.true)
    ∙ packet_protocol p a.number long

pub returns-in_default : goal.returns-in_default
returns-in_default c =
    let a = c.args in
    let p = a.packet.now in
    let long : 2 ≤ length p = search rules in
    let q : get_or p 1 0 ≡ c.in_ok-protocol.field-0.now = search rules in
    protocol_below (get_or p 1 0) p a.number (λ e. grind (arith, q, e)) (λ e. grind (arith, q, e)) (λ e. grind (arith, q, e)) (omega (arith, q))
    ∙ packet_protocol p a.number long

pub returns-in_default-2 : goal.returns-in_default-2
returns-in_default-2 c =
    let a = c.args in
    let p = a.packet.now in
    let long : 2 ≤ length p = search rules in
    let q : get_or p 1 0 ≡ c.in_ok-protocol.field-0.now = search rules in
    protocol_other_number (get_or p 1 0) p a.number (omega (arith, q)) (omega (arith, q)) (λ e. c.if-protocol-number.false (sym q ∙ e))
    ∙ packet_protocol p a.number long

pub returns-in_default-3 : goal.returns-in_default-3
returns-in_default-3 c =
    let a = c.args in
    let p = a.packet.now in
    let long : 2 ≤ length p = search rules in
    let q : get_or p 1 0 ≡ c.in_ok-protocol.field-0.now = search rules in
    protocol_above (get_or p 1 0) p a.number (λ e. grind (arith, q, e)) (λ e. grind (arith, q, e)) (λ e. grind (arith, q, e)) (omega (arith, q))
    ∙ packet_protocol p a.number long
