-- `unit::fields::values` meets its contract: row by row.
use Rattle.unit.specs.Fields.{values_of}
use Rattle.unit.proofs.fields.values.Goals as goal

pub returns : goal.returns
unfolding values_of
returns c = rw (c.link_information.ensures, c.path_words-w.ensures)
