-- `script::fields::field` meets its contract: what stands before the bar is a first part.
use mathlib.Core.Path.{ap, ◌∙◌}
use Rattle.std.proofs.Common.{ℕ, take}
use Rattle.script.specs.Fields.{bar}
use Rattle.script.proofs.FieldLaws.{up_to_take}
use Rattle.script.proofs.fields.field.Goals as goal

pub returns : goal.returns
returns c =
    let s = c.args.s.now in
    ap (λ (n : ℕ). take n s) c.size_before.ensures.answers ∙ up_to_take bar s
