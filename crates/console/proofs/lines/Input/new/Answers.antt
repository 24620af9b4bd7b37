-- `console::lines::Input::new` meets its contract: nothing is read.
use Rattle.std.proofs.Common.{refl}
use Rattle.console.proofs.lines.Input.new.Goals as goal

pub returns : goal.returns
returns c = refl
