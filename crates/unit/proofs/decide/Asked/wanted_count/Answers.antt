-- `unit::decide::Asked::wanted_count` meets its contract: the same test.
use Rattle.packets.specs.Instruction.{is_read}
use Rattle.unit.specs.Decide.{wanted_count}
use Rattle.std.proofs.Common.{sym, ap, ◌∙◌}
use Rattle.unit.proofs.decide.Asked.wanted_count.Goals as goal

pub returns-then-is_read : goal.returns-then-is_read
unfolding wanted_count
returns-then-is_read c =
    rw (ap is_read (sym c.args.self.kind_is) ∙ sym c.is_read.ensures ∙ c.if-is_read.true)

pub returns : goal.returns
unfolding wanted_count
returns c =
    rw (ap is_read (sym c.args.self.kind_is) ∙ sym c.is_read.ensures ∙ c.if-is_read.false)
