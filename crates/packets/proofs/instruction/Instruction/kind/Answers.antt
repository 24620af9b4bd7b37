-- `packets::instruction::Instruction::kind` meets its contract: the table of the sixteen kinds, compared as a whole.
use native.Mathlib.Omega.{arith}
use mathlib.Core.Path.{◌∙◌, ap}
use Rattle.packets.specs.Instruction.{kind_of}
use Rattle.packets.specs.declared.instruction.Kind.TheVariants.{Unused}
use Rattle.octets.proofs.Tabulate.{at}
use Rattle.packets.proofs.instruction.Instruction.kind.Goals as goal

pub returns : goal.returns
unfolding kind_of
returns c =
    let code = c.code-code in
    at Unused kind_of 16 code.result (omega arith) ∙ ap kind_of code.ensures
