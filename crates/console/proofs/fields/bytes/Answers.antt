-- `console::fields::bytes` meets its contract: script::bytes tells how many bytes there are, and that they stand at the buffer's start.
use mathlib.Core.Path.{ap₂, ◌∙◌}
use Prim.Native.Nat.{◌+◌}
use lib.ListN.{length, take, drop}
use lib.Seq.{take-append_seam}
use Rattle.script.specs.Digits.{bytes_in}
use Rattle.console.proofs.fields.bytes.Goals as goal

pub returns : goal.returns
returns c =
    let out = c.args.space.now in
    let read = take (length out) (bytes_in c.args.s.now) in
    record { answers = ap₂ take c.bytes-n.ensures.answers c.bytes-n.ensures.leaves ∙ take-append_seam read (drop (0 + length read) out) }
