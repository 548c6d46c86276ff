-- `retention::carrying::Carried::run` is safe and ends: its turns count down, and the bytes read lie within the buffer. Assumes nothing.
use Rattle.retention.specs.Turn.{Ready}
use Rattle.retention.proofs.carrying.Carried.run.Given as goal

abbrev pub invariant-loop-turns : goal.invariant-loop-turns
invariant-loop-turns l = Ready l.self l.buffer

abbrev pub decreases-loop-turns : goal.decreases-loop-turns
decreases-loop-turns l = l.turns
