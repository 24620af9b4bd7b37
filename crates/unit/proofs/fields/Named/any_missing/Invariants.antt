-- `unit::fields::Named::any_missing` meets its contract: what is left from i on has the same answer.
use Rattle.unit.specs.Fields.{named, is_missing}
use Rattle.unit.specs.Some.{some}
use Rattle.std.proofs.Common.{◌≡◌, drop}
use Rattle.unit.proofs.fields.Named.any_missing.Given as goal

abbrev pub invariant-loop-i : goal.invariant-loop-i
invariant-loop-i l = some is_missing (drop l.i (named l.self.address l.self.count)) ≡ some is_missing (named l.self.address l.self.count)
