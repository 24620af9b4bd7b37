-- `octets::copies::fill` meets its contract: the definition asks the same test.
use borrow.Author.Rules.{rules}
use borrow.Author.Tests.{leb-true}
use Prim.Native.Nat.{ℕ}
use lib.ListN.{replicate, length-replicate}
use mathlib.Core.Path.{sym, ap, ◌∙◌}
use Rattle.octets.proofs.PlaceLaws.{filled_not, filled_done, put_placed, length_middle}
use Rattle.octets.proofs.copies.fill.Goals as goal

pub returns-then-not-within-clause-leaves : goal.returns-then-not-within-clause-leaves
returns-then-not-within-clause-leaves c =
    let a = c.args in
    filled_not a.dst.now a.at a.count a.byte (search rules)

pub returns-clause-leaves : goal.returns-clause-leaves
returns-clause-leaves c =
    let a = c.args in
    let there = leb-true _ _ (sym c.within.ensures ∙ c.if-not-within.false) in
    let put = c.fill.ensures.after (λ y same. same) ∙ ap (λ (n : ℕ). replicate n a.byte) (length_middle a.at a.count a.dst.now there) in
    rw put (put_placed a.at a.count (replicate a.count a.byte) a.dst.now (length-replicate a.count a.byte) ∙ sym (filled_done a.dst.now a.at a.count a.byte there))
