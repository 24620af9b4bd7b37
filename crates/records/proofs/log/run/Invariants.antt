-- `records::log::run` meets its contract: each turn is a step of the run that is promised (LoopLaws).
use Rattle.std.proofs.Common.{◌+◌, ◌-◌, length}
use Rattle.records.specs.Between.{held_in}
use Rattle.records.specs.Run.{steps, begun}
use Rattle.records.proofs.LoopLaws.{Got}
use Rattle.records.proofs.log.run.Given as goal

abbrev pub invariant-loop-rest : goal.invariant-loop-rest
invariant-loop-rest l = Got l.log l.last l.initial.held l.initial.page (begun (held_in l.initial.held)) l.held l.used l.page

abbrev pub decreases-loop-rest : goal.decreases-loop-rest
decreases-loop-rest l = length l.log - l.used + steps l.held.bench.stage
