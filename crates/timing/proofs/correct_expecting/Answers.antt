-- `timing::correct_expecting` meets its contract: what the pattern expected says is right. Assumes nothing.
use native.Mathlib.Omega.{arith}
use Rattle.timing.proofs.Laws.{said_right}
use Rattle.timing.proofs.correct_expecting.Goals as goal

pub returns-in-Some : goal.returns-in-Some
returns-in-Some c = said_right _ _ _ _ (omega arith) c.in-Ok.ensures.0 c.in-Ok.ensures.1 c.in-Some.ensures
