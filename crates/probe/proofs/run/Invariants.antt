-- What is read and what is told stay within their buffers, whose lengths are kept. The measure is the turns that are left.
use Prim.Native.Nat.{◌≤◌}
use mathlib.Core.Path.{◌≡◌}
use borrow.Author.Rules.{rules}
use lib.ListN.{length}
use Rattle.probe.proofs.run.Given as goal

abbrev pub invariant-loop-turns : goal.invariant-loop-turns
invariant-loop-turns l = (l.stream.at ≤ l.stream.have) × (l.stream.have ≤ length l.input) × (l.stream.told ≤ length l.output) × (length l.input ≡ length l.initial.input) × (length l.output ≡ length l.initial.output)

abbrev pub decreases-loop-turns : goal.decreases-loop-turns
decreases-loop-turns l = l.turns
