-- `timing::correct_pattern` meets its contract: the patterns from fvh on are further than one bit away, so those below it decide. Assumes nothing.
use Rattle.std.proofs.Common.{◌≡◌}
use Rattle.timing.specs.Code.{correction_below}
use Rattle.timing.proofs.correct_pattern.Given as goal

abbrev pub invariant-loop-fvh : goal.invariant-loop-fvh
invariant-loop-fvh l = correction_below l.fvh l.pattern ≡ correction_below 8 l.pattern
