-- `packets::ccsds::space_packet` meets its contract: what is behind the first four bytes; of fewer there is none.
use Rattle.std.proofs.Common.{sym, arith}
use Rattle.std.proofs.lemmas.List.{take_rest}
use Rattle.std.proofs.Math.ListN.{drop_of_length-le}
use Rattle.packets.specs.Ccsds.{space_packet_in}
use Rattle.packets.proofs.ccsds.space_packet.Goals as goal

pub returns-then-packet-lt4 : goal.returns-then-packet-lt4
unfolding space_packet_in
returns-then-packet-lt4 c = sym (drop_of_length-le c.args.packet.now {i = 4} (omega arith))

pub returns : goal.returns
unfolding space_packet_in
returns c = take_rest c.args.packet.now 4
