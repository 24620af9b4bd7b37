-- `records::record::read_record` meets its contract: what it hands on is the first seven bytes, and what is behind them.
use Rattle.std.proofs.Common.{arith, lt-ltb, ◌∙◌}
use Rattle.records.specs.Record.{read_record}
use Rattle.records.proofs.RecordLaws.{parted}
use Rattle.records.proofs.record.read_record.Goals as goal

pub returns-in-None : goal.returns-in-None
unfolding read_record
returns-in-None c = rw (lt-ltb _ _ (rw c.in-None.is at c.split_first_chunk.ensures.cases))

pub returns-in-Some : goal.returns-in-Some
returns-in-Some c =
    let s = c.args.log.now in
    let first = rw c.in-Some.is at c.split_first_chunk.ensures.cases in
    c.read_behind.ensures ∙ rw (first.0, first.1) (parted s (omega arith))
