-- `records::text::write_hex` meets its contract: after i turns the first i bytes are there, two digits each.
use Rattle.std.proofs.Common.{◌≡◌, take}
use Rattle.octets.specs.Places.{placed}
use Rattle.records.specs.Text.{hexes}
use Rattle.records.proofs.text.write_hex.Given as goal

abbrev pub invariant-loop-i : goal.invariant-loop-i
invariant-loop-i l = l.out ≡ placed l.at (hexes (take l.i l.bytes)) l.initial.out
