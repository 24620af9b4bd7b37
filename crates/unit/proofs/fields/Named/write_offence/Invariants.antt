-- `unit::fields::Named::write_offence` meets its contract: what is left from i on has the same answer.
use Rattle.unit.specs.Fields.{named, write_offence}
use Rattle.std.proofs.Common.{◌≡◌, drop}
use Rattle.unit.proofs.fields.Named.write_offence.Given as goal

abbrev pub invariant-loop-i : goal.invariant-loop-i
invariant-loop-i l = write_offence (drop l.i (named l.self.address l.self.count)) ≡ write_offence (named l.self.address l.self.count)
