-- `unit::judging::judge` meets its contract: the packet as it is read, judged.
use Rattle.unit.proofs.judging.judge.Goals as goal

pub returns : goal.returns
returns c = rw (← c.of.ensures) c.judge_read.ensures
