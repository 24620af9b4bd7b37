-- `script::digits::digit` meets its contract: the definition asks the same test.
use borrow.Author.Tests.{lt-ltb, le-ltb}
use Rattle.script.specs.Digits.{digit_of}
use Rattle.script.proofs.digits.digit.Goals as goal

pub returns-then-c-lt97-clause-answers : goal.returns-then-c-lt97-clause-answers
unfolding digit_of
returns-then-c-lt97-clause-answers c = rw (lt-ltb _ _ c.if-c-lt97.true)

pub returns-else-c-lt97-clause-answers : goal.returns-else-c-lt97-clause-answers
unfolding digit_of
returns-else-c-lt97-clause-answers c = rw (le-ltb _ _ c.if-c-lt97.false)
