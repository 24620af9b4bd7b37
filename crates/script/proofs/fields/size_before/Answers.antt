-- `script::fields::size_before` meets its contract: what stands before `stop` is as long as its first place says.
use mathlib.Core.Path.{◌∙◌}
use Rattle.script.proofs.FieldLaws.{size_from_place}
use Rattle.script.proofs.fields.size_before.Goals as goal

pub returns-clause-answers : goal.returns-clause-answers
returns-clause-answers c = c.unwrap_or.ensures ∙ size_from_place c.args.stop c.args.s.now _ c.place.ensures
