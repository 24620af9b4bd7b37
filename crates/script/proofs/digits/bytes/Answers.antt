-- `script::digits::bytes` meets its contract: the first n bytes that s says are pasted, and what is left of s says what is left of them.
use native.Mathlib.Omega.{arith}
use mathlib.Core.Path.{◌∙◌}
use borrow.Author.Rules.{rules}
use lib.ListN.{length-set}
use Rattle.script.specs.Digits.{bytes_in}
use Rattle.script.proofs.DigitLaws.{bytes_end, bytes_space, bytes_pair, next_there, next_put, next_rest, put_all, put_placed}
use Rattle.script.proofs.digits.bytes.Goals as goal

pub loop-left-preserved-then-a-eq32 : goal.loop-left-preserved-then-a-eq32
loop-left-preserved-then-a-eq32 c =
    let at = c.loop-left in
    let on = bytes_space at.left.now c.in-len2-up.len_at_least c.if-a-eq32.true in
    (at.invariant.0, at.invariant.1, at.invariant.2, at.invariant.3 ∙ on)

pub loop-left-preserved : goal.loop-left-preserved
loop-left-preserved c =
    let at = c.loop-left in
    let b = bytes_in c.args.s.now in
    let e = at.invariant.3 ∙ bytes_pair at.left.now c.in-len2-up.len_at_least c.if-a-eq32.false in (
      simp length-set (omega arith),
      omega (arith, next_there b at.n _ _ e),
      rw (at.invariant.2, c.pair.ensures) (next_put b at.n _ _ e c.args.out.now (search rules)),
      next_rest b at.n _ _ e,
    )

pub returns : goal.returns
returns c =
    let a = c.args in
    let at = c.loop-left in
    let none = at.invariant.3 ∙ bytes_end at.left.now c.in_default.len_below in
    let all = put_all a.out.now (bytes_in a.s.now) at.n (search rules) at.invariant.1 none in
    record { answers = all; inside = search rules; leaves = at.invariant.2 ∙ put_placed a.out.now (bytes_in a.s.now) at.n all }
