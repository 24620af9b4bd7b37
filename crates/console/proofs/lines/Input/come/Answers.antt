-- `console::lines::Input::come` meets its contract: no count goes past the buffer's end.
use Rattle.std.proofs.Common.{rules}
use Rattle.console.proofs.lines.Input.come.Goals as goal

pub returns : goal.returns
returns c = search rules
