-- `console::fields::Fields::next` meets its contract: script::field tells what the first field is, and so how long.
use native.Mathlib.Omega.{arith}
use Rattle.std.proofs.lemmas.Grind.{common_steps}
use Rattle.console.proofs.fields.Fields.next.Goals as goal

pub returns-clause-leaves : goal.returns-clause-leaves
returns-clause-leaves c = grind (arith, common_steps)
