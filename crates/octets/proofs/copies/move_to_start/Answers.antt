-- `octets::copies::move_to_start` meets its contract: the definition asks the same test.
use borrow.Author.Rules.{rules}
use borrow.Author.Tests.{leb-true}
use native.Mathlib.Omega.{arith}
use mathlib.Core.Path.{sym, ◌∙◌}
use Rattle.octets.proofs.PlaceLaws.{copied_not, copied_done, move_placed}
use Rattle.octets.proofs.copies.move_to_start.Goals as goal

pub returns-then-not-within-clause-leaves : goal.returns-then-not-within-clause-leaves
returns-then-not-within-clause-leaves c =
    let a = c.args in
    copied_not a.s.now a.from a.count a.s.now 0 (search rules)

pub returns-clause-leaves : goal.returns-clause-leaves
returns-clause-leaves c =
    let a = c.args in
    let there = leb-true _ _ (sym c.within.ensures ∙ c.if-not-within.false) in
    c.copy_within.ensures.after ∙ move_placed a.from a.count a.s.now there ∙ sym (copied_done a.s.now a.from a.count a.s.now 0 there (omega arith))
