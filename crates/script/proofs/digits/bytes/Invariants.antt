-- `script::digits::bytes` meets its contract: the first n bytes that s says are pasted, and what is left of s says what is left of them.
use mathlib.Core.Path.{◌≡◌}
use Prim.Native.Nat.{◌≤◌}
use lib.ListN.{length, drop}
use lib.Seq.{paste}
use Rattle.script.specs.Digits.{bytes_in}
use Rattle.script.proofs.digits.bytes.Given as goal

abbrev pub invariant-loop-left : goal.invariant-loop-left
invariant-loop-left l =
    (l.n ≤ length l.out) × (l.n ≤ length (bytes_in l.s)) × (l.out ≡ paste l.initial.out 0 (bytes_in l.s) l.n)
    × (drop l.n (bytes_in l.s) ≡ bytes_in l.left)

abbrev pub decreases-loop-left : goal.decreases-loop-left
decreases-loop-left l = length l.left
