-- `unit::fields::Named::bytes` meets its contract: after i turns the first i fields stand at the start.
use Rattle.std.proofs.Common.{◌≡◌, ◌*◌, take}
use Rattle.unit.specs.Fields.{named, field_bytes}
use Rattle.unit.proofs.fields.Named.bytes.Given as goal

abbrev pub invariant-loop-i : goal.invariant-loop-i
invariant-loop-i l = take (4 * l.i) l.out ≡ field_bytes l.values (take l.i (named l.self.address l.self.count))
