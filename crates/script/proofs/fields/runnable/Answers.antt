-- `script::fields::runnable` meets its contract: what comes behind the last line end stands, from the back, before the first.
use mathlib.Core.Bool.{false}
use borrow.Author.Rules.{rules}
use mathlib.Core.Path.{◌≡◌, refl, ◌∙◌}
use Rattle.script.specs.Fields.{line_end}
use Rattle.script.proofs.FieldLaws.{size_from_back}
use Rattle.script.proofs.fields.runnable.Goals as goal

pub returns-clause-answers : goal.returns-clause-answers
returns-clause-answers c =
    let some : c.args.last ≡ false = search rules in
    rw (some, c.unwrap_or.ensures ∙ size_from_back line_end c.args.s.now _ c.place_from_back.ensures) refl
