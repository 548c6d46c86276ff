-- `index::question::Question::feed` meets its contract. What is left to do comes to the whole. The measure is what is left of the bytes. Assumes nothing.
use Prim.Native.Nat.{◌-◌, ◌≤◌}
use mathlib.Core.Path.{◌≡◌}
use lib.ListN.{length, drop}
use Rattle.index.specs.Asking.{fed_of}
use Rattle.index.proofs.question.Question.feed.Given as goal

abbrev pub invariant-loop-at : goal.invariant-loop-at
invariant-loop-at l = (l.at ≤ length l.bytes) × (fed_of l.initial.question l.bytes ≡ fed_of l.question (drop l.at l.bytes))

abbrev pub decreases-loop-at : goal.decreases-loop-at
decreases-loop-at l = length l.bytes - l.at
