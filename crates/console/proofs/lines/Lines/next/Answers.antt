-- `console::lines::Lines::next` meets its contract: a line is what stands before the first line end.
use native.Mathlib.Omega.{arith}
use Rattle.std.proofs.lemmas.Grind.{common_steps}
use Rattle.console.proofs.LineLaws.{first_line, line_alone}
use Rattle.console.proofs.lines.Lines.next.Goals as goal

pub returns-clause-answers : goal.returns-clause-answers
returns-clause-answers c = first_line c.args.self.now.left.now c.line_size-end.result c.line_size-end.ensures.answers

pub returns-clause-alone : goal.returns-clause-alone
returns-clause-alone c = line_alone c.args.self.now.left.now c.line_size-end.result c.line_size-end.ensures.answers

pub returns-clause-leaves : goal.returns-clause-leaves
returns-clause-leaves c = grind (arith, common_steps)
