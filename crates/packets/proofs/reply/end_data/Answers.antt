-- `packets::reply::end_data` meets its contract: the CRC of the part is put behind it.
use Rattle.std.proofs.Common.{◌≡◌, ◌+◌, ◌-◌, ◌∙◌, arith}
use Rattle.packets.proofs.reply.end_data.Goals as goal

pub returns : goal.returns
returns c =
    let a = c.args in
    let e : a.at + a.count - a.at ≡ a.count = omega arith in
    let k = rw e at c.crc_of-k.ensures in
    c.put.ensures ∙ rw k
