-- `packets::ccsds::write_ccsds` meets its contract: 41 goes before 42; else four bytes are put before the space packet, at the start.
use Rattle.std.specs.Prelude.{Ok, Err}
use Rattle.std.proofs.Common.{[], ◌∷◌, ◌+◌, refl, sym, ◌∙◌, length, arith}
use Rattle.packets.specs.declared.ccsds.Unsent.TheVariants.{WrongSpacePacket, OutputTooShort}
use Rattle.packets.proofs.ReplyLaws.{head_placed}
use Rattle.packets.proofs.CcsdsLaws.{sending_wrong, sending_short, sending_all, sent_by}
use Rattle.packets.proofs.ccsds.write_ccsds.Goals as goal

pub returns-then-not-is_space_packet : goal.returns-then-not-is_space_packet
returns-then-not-is_space_packet c =
    let a = c.args in
    let wrong = sym c.is_space_packet.ensures ∙ c.if-not-is_space_packet.true in
    let e = sending_wrong a.space.now (length a.out.now) wrong in
    record { answers = sym e; leaves = sym (sent_by a.address a.application a.space.now a.out.now (Err WrongSpacePacket) e) }

pub returns-then-out-size : goal.returns-then-out-size
returns-then-out-size c =
    let a = c.args in
    let right = sym c.is_space_packet.ensures ∙ c.if-not-is_space_packet.false in
    let e = sending_short a.space.now (length a.out.now) right (omega arith) in
    record { answers = sym e; leaves = sym (sent_by a.address a.application a.space.now a.out.now (Err OutputTooShort) e) }

pub returns : goal.returns
returns c =
    let a = c.args in
    let right = sym c.is_space_packet.ensures ∙ c.if-not-is_space_packet.false in
    let e = sending_all a.space.now (length a.out.now) right (omega arith) in
    let front = a.address ∷ 0x02 ∷ 0x00 ∷ a.application ∷ [] in
    let then = head_placed front a.space.now a.out.now 4 (length a.space.now) refl refl (omega arith) c.put.ensures c.put-2.ensures in
    record { answers = sym e; leaves = then ∙ sym (sent_by a.address a.application a.space.now a.out.now (Ok (4 + length a.space.now)) e) }
