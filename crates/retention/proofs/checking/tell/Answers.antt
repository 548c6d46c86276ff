-- `retention::checking::tell` meets its contract: test by test. Assumes nothing.
use Rattle.std.proofs.Common.{true, false, refl}
use Rattle.retention.specs.Turn.{found_status}
use Rattle.retention.proofs.checking.tell.Goals as goal

pub returns-then-not-print_finding : goal.returns-then-not-print_finding
unfolding found_status
returns-then-not-print_finding c = (false, refl)

pub returns-then-is_theirs : goal.returns-then-is_theirs
unfolding found_status
returns-then-is_theirs c = (true, simp (← c.is_theirs.ensures, c.if-is_theirs.true))

pub returns-else-is_theirs : goal.returns-else-is_theirs
unfolding found_status
returns-else-is_theirs c = (true, simp (← c.is_theirs.ensures, c.if-is_theirs.false))
