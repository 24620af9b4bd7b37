-- `console::show::TextFromRefSliceU8::from` meets its contract: nothing is held before the name.
use Rattle.std.proofs.Common.{rules}
use Rattle.console.proofs.show.TextFromRefSliceU8.from.Goals as goal

pub returns : goal.returns
returns c = search rules
