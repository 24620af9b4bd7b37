-- `octets::words::reduced` meets its contract: what its shifts make of each power of two is what as many turns do, and so of every number.
use borrow.Author.Rules.{rules}
use Rattle.octets.proofs.WordLaws.{down_two}
use Rattle.octets.proofs.words.reduced.Goals as goal

pub returns : goal.returns
returns c = down_two c.args.upper c.args.lower (search rules) (search rules)
