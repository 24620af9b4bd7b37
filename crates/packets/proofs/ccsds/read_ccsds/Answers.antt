-- `packets::ccsds::read_ccsds` meets its contract: the tests of the definition, in its order; what is too short to tell has no right space packet.
use Rattle.std.proofs.Common.{◌≡◌, ℕ, Bool, true, false, ◌&&◌, ◌||◌, List, eqb, get_or, sym, ap, ap₂, ◌∙◌, arith}
use Rattle.std.proofs.lemmas.List.{take_rest}
use Rattle.packets.specs.Ccsds.{is_space_packet, is_ccsds_packet, read_ccsds}
use Rattle.packets.proofs.CcsdsLaws.{ccsds_thrown_away, ccsds_long}
use Rattle.packets.proofs.ccsds.read_ccsds.Goals as goal

-- what the code tests, of the two answers that it got
abbrev tested : List ℕ → ℕ → Bool → Bool → Bool
tested p logical eop right =
    (eqb (get_or p 0 0) logical || eqb (get_or p 0 0) 0xFE) && eqb (get_or p 1 0) 0x02 && eqb (get_or p 2 0) 0x00 && eop && right

pub returns-then-packet-lt4 : goal.returns-then-packet-lt4
returns-then-packet-lt4 c =
    let a = c.args in
    sym (ccsds_thrown_away a.packet.now a.end a.logical (λ passed. absurd (omega (arith, ccsds_long a.packet.now a.end a.logical passed))))

pub returns-then-packet-logical : goal.returns-then-packet-logical
unfolding read_ccsds
returns-then-packet-logical c =
    let a = c.args in
    let right = c.is_space_packet-right.ensures ∙ ap is_space_packet (take_rest a.packet.now 4) in
    let h : is_ccsds_packet a.packet.now a.end a.logical ≡ true =
    ap₂ (tested a.packet.now a.logical) (sym c.is_eop-eop.ensures) (sym right) ∙ c.if-packet-logical.true in
    rw h

pub returns : goal.returns
unfolding read_ccsds
returns c =
    let a = c.args in
    let right = c.is_space_packet-right.ensures ∙ ap is_space_packet (take_rest a.packet.now 4) in
    let h : is_ccsds_packet a.packet.now a.end a.logical ≡ false =
    ap₂ (tested a.packet.now a.logical) (sym c.is_eop-eop.ensures) (sym right) ∙ c.if-packet-logical.false in
    rw h
