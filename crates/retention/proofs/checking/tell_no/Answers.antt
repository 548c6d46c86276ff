-- `retention::checking::tell_no` meets its contract: whether the index is one. Assumes nothing.
use Rattle.std.proofs.Common.{true, ne_eqb, ◌∙◌}
use Rattle.refusal.specs.Reasons.{number_of}
use Rattle.refusal.proofs.Results.{reason_counts}
use Rattle.retention.specs.Turn.{no_status}
use Rattle.retention.proofs.checking.tell_no.Goals as goal

pub returns-in-Err : goal.returns-in-Err
unfolding no_status
returns-in-Err c =
    let reason = c.in-Err.refused.reason in
    (true, c.refuse.ensures ∙ (simp (← c.in-Err.ensures, ne_eqb (number_of reason) 0 (reason_counts reason))))

pub returns-in-Ok : goal.returns-in-Ok
unfolding no_status
returns-in-Ok c = (c.tell.ensures.0, c.tell.ensures.1 ∙ (simp (← c.in-Ok.ensures)))
