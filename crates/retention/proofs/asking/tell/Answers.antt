-- `retention::asking::tell` meets its contract: test by test. Assumes nothing.
use Rattle.std.proofs.Common.{true, false, ne_eqb}
use Rattle.refusal.specs.Reasons.{number_of}
use Rattle.refusal.proofs.Results.{reason_counts}
use Rattle.retention.specs.Turn.{asked_status}
use Rattle.retention.proofs.asking.tell.Goals as goal

pub returns-in-Err : goal.returns-in-Err
unfolding asked_status
returns-in-Err c =
    let reason = c.in-Err.refused.reason in (true, simp (c.in-Err.is, ne_eqb (number_of reason) 0 (reason_counts reason)))

pub returns-then-not-print_answer : goal.returns-then-not-print_answer
unfolding asked_status
returns-then-not-print_answer c = (false, simp c.in-Ok.is)

pub returns-then-clean : goal.returns-then-clean
unfolding asked_status
returns-then-clean c = (true, simp (c.in-Ok.is, c.if-clean.true))

pub returns-else-clean : goal.returns-else-clean
unfolding asked_status
returns-else-clean c = (true, simp (c.in-Ok.is, c.if-clean.false))
