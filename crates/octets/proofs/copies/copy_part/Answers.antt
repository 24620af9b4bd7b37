-- `octets::copies::copy_part` meets its contract: the definition asks the same two tests.
use borrow.Author.Rules.{rules}
use borrow.Author.Tests.{leb-true}
use Prim.Native.Nat.{ℕ}
use native.Mathlib.Omega.{arith}
use lib.ListN.{take, drop}
use mathlib.Core.Path.{sym, ap, ◌∙◌}
use Rattle.octets.specs.Places.{part}
use Rattle.octets.proofs.PlaceLaws.{copied_not, copied_done, put_placed, length_part}
use Rattle.octets.proofs.copies.copy_part.Goals as goal

pub returns-then-not-within-clause-leaves : goal.returns-then-not-within-clause-leaves
returns-then-not-within-clause-leaves c =
    let a = c.args in
    copied_not a.src.now a.from a.count a.dst.now a.at (search rules)

pub returns-clause-leaves : goal.returns-clause-leaves
returns-clause-leaves c =
    let a = c.args in
    let from = leb-true _ _ (sym c.within.ensures ∙ c.if-not-within.false) in
    let to = leb-true _ _ (sym c.within-else-not-within.ensures ∙ c.if-not-within-2.false) in
    let put = c.copy_from_slice.ensures.after ∙ ap (λ (n : ℕ). take n (drop a.from a.src.now)) (omega arith) in
    rw put (put_placed a.at a.count (part a.from a.count a.src.now) a.dst.now (length_part a.from a.count a.src.now from) ∙ sym (copied_done a.src.now a.from a.count a.dst.now a.at from to))
