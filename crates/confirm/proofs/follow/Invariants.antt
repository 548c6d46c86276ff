-- `confirm::follow` is safe and ends: its turns count down, and the bytes read lie within the buffer. Assumes nothing.
use Rattle.std.proofs.Common.{length}
use Rattle.confirm.specs.Turn.{IsWithin}
use Rattle.confirm.proofs.follow.Given as goal

abbrev pub invariant-loop-turns : goal.invariant-loop-turns
invariant-loop-turns l = IsWithin l.ready (length l.buffer)

abbrev pub decreases-loop-turns : goal.decreases-loop-turns
decreases-loop-turns l = l.turns
