-- `unit::act::respond` meets its contract: the reply is written exactly where the fate is 20.
use Rattle.unit.specs.Act.{replied_to}
use Rattle.unit.proofs.ActLaws.{not_replied}
use Rattle.unit.proofs.act.respond.Goals as goal

pub returns-in-Replied : goal.returns-in-Replied
unfolding replied_to
returns-in-Replied c = rw (c.in-Replied.is, ← c.status_byte.ensures) c.answer.ensures

pub returns-in_default : goal.returns-in_default
unfolding replied_to
returns-in_default c = rw (not_replied c.args.plan.fate c.in_default.not-Replied)
