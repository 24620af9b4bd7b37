-- `unit::decide::data_crc` meets its contract: it is the CRC, or it does not bear on the status.
use Rattle.unit.specs.Decide.{data_status}
use Rattle.unit.proofs.DecideLaws.{data_elsewhere}
use Rattle.std.proofs.Common.{sym, ◌∙◌}
use Rattle.unit.proofs.decide.data_crc.Goals as goal

pub returns-then-not-is_eop : goal.returns-then-not-is_eop
unfolding data_status
returns-then-not-is_eop c =
    rw (sym c.is_eop.ensures ∙ c.if-not-is_eop.true)

pub returns-then-bytes-wanted : goal.returns-then-bytes-wanted
returns-then-bytes-wanted c = data_elsewhere _ _ _ _ _ c.if-bytes-wanted.true

pub returns : goal.returns
returns c = rw c.crc_of.ensures
