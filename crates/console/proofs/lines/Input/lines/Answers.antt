-- `console::lines::Input::lines` meets its contract: what goes past the buffer's end is not there.
use native.Mathlib.Omega.{arith}
use Rattle.std.proofs.lemmas.Grind.{common_steps}
use Rattle.console.proofs.lines.Input.lines.Goals as goal

pub returns : goal.returns
returns c = grind (arith, common_steps)
