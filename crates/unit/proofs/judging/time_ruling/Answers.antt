-- `unit::judging::time_ruling` meets its contract: thrown away, or taken.
use Rattle.std.proofs.Common.{sym, ◌∙◌}
use Rattle.unit.proofs.judging.time_ruling.Goals as goal

pub returns-in-None : goal.returns-in-None
returns-in-None c = rw (sym c.read_time.ensures ∙ c.in-None.is)

pub returns-in-Some : goal.returns-in-Some
returns-in-Some c = rw (sym c.read_time.ensures ∙ c.in-Some.is)
