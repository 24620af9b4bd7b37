-- `script::digits::number` meets its contract: each digit of the first field is put behind those before it.
use mathlib.Core.Path.{◌≡◌, ap, ◌∙◌}
use borrow.Author.Rules.{rules}
use Rattle.std.proofs.Common.{fold}
use Rattle.script.specs.Digits.{number_in}
use Rattle.script.proofs.DigitLaws.{onto, number_fold}
use Rattle.script.proofs.digits.number.Goals as goal

pub returns : goal.returns
returns c =
    let folded : c.fold.result ≡ fold onto 0 c.field.result.now = search rules in
    folded ∙ number_fold c.field.result.now ∙ ap number_in c.field.ensures
