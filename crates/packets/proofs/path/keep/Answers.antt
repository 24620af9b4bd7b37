-- `packets::path::keep` meets its contract: the address copied to the end of twelve zeros, and the count of its path.
use native.Mathlib.Omega.{arith}
use Rattle.packets.proofs.PathLaws.{kept_placed}
use Rattle.packets.proofs.path.keep.Goals as goal

pub returns : goal.returns
returns c =
    let address = c.args.address.now in
    rw (c.path_count-count.ensures, c.put.ensures, kept_placed address (omega arith))
