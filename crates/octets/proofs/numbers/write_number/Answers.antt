-- `octets::numbers::write_number` meets its contract: the lowest of the number's eight bytes are copied out.
use borrow.Author.Rules.{rules}
use Rattle.octets.proofs.NumberLaws.{written_not, write_copied}
use Rattle.octets.proofs.numbers.write_number.Goals as goal

pub returns-then-width-gt8-clause-leaves : goal.returns-then-width-gt8-clause-leaves
returns-then-width-gt8-clause-leaves c =
    let a = c.args in
    written_not a.dst.now a.at a.width a.n (search rules)

pub returns-clause-leaves : goal.returns-clause-leaves
returns-clause-leaves c =
    let a = c.args in
    write_copied a.dst.now a.at a.width a.n (search rules) (search rules) c.to_octets-bytes.ensures c.copy_part.ensures.leaves
