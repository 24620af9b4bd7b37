-- `unit::act::answer` meets its contract: the data of each action, action by action, gathered, or handed to the writer of replies.
use Rattle.std.proofs.Common.{arith}
use Rattle.std.proofs.lemmas.Grind.{common_steps}
use Rattle.unit.specs.Act.{data_for}
use Rattle.unit.proofs.act.answer.Goals as goal

pub answer_memory-requires : goal.answer_memory-requires
answer_memory-requires c = grind (arith, common_steps)

pub byte_at-byte-requires : goal.byte_at-byte-requires
byte_at-byte-requires c =
    let w = rw c.in-RepeatByte.is at c.requires in
    w.0

pub shown-bytes-requires : goal.shown-bytes-requires
shown-bytes-requires c =
    let w = rw c.in-ReadFields.is at c.requires in
    w.0

pub returns-in-Nothing : goal.returns-in-Nothing
unfolding data_for
returns-in-Nothing c = grind (arith, common_steps)

pub returns-in-ReadMemory : goal.returns-in-ReadMemory
unfolding data_for
returns-in-ReadMemory c = grind (arith, common_steps)

pub returns-in-RepeatByte : goal.returns-in-RepeatByte
unfolding data_for
returns-in-RepeatByte c =
    rw (c.in-RepeatByte.is, ← c.byte_at-byte.ensures) c.write-in-RepeatByte.ensures

pub returns-in-ReadFields : goal.returns-in-ReadFields
unfolding data_for
returns-in-ReadFields c = rw (c.in-ReadFields.is, ← c.shown-bytes.ensures) c.write-in-ReadFields.ensures

pub returns-in-Swap : goal.returns-in-Swap
unfolding data_for
returns-in-Swap c =
    rw (c.in-Swap.is, ← c.to_octets-device.ensures) c.write-in-Swap.ensures
