-- `octets::numbers::read_number` meets its contract: the bytes are copied to the end of eight zeros, and those are worth
-- what the bytes are worth.
use native.Mathlib.Omega.{arith}
use borrow.Author.Rules.{rules}
use borrow.Author.Tests.{lt-leb}
use Rattle.std.specs.Prelude.{is_some}
use Rattle.std.proofs.Common.{ap, sym, ◌∙◌}
use Rattle.octets.specs.Numbers.{read_number}
use Rattle.octets.proofs.NumberLaws.{read_refused, read_copied}
use Rattle.octets.proofs.numbers.read_number.Goals as goal

pub returns-then-width-gt8 : goal.returns-then-width-gt8
unfolding read_number
returns-then-width-gt8 c = rw (lt-leb _ _ c.if-width-gt8.true)

pub returns-in_err-ok : goal.returns-in_err-ok
returns-in_err-ok c =
    let a = c.args in
    c.from_residual.ensures ∙ read_refused a.s.now a.at a.width (omega arith) c.copy_part.ensures.answers (search rules)

pub returns : goal.returns
returns c =
    let a = c.args in
    let copy = c.copy_part.ensures in
    rw (c.from_octets.ensures, copy.leaves)
    (read_copied a.s.now a.at a.width (omega arith) copy.answers (sym c.ok.ensures.variant ∙ ap is_some c.in_ok-ok.was))
