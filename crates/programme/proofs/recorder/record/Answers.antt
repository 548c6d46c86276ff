-- `programme::recorder::record` meets its contract: the judgement of a line that is refused, or of one that is written. Assumes nothing.
use mathlib.Core.Path.{sym, ap, ◌∙◌}
use lib.ListN.{length}
use Rattle.refusal.specs.Reasons.{numbered}
use Rattle.refusal.proofs.Results.{reason_counts}
use Rattle.timing.specs.Report.{clean_report}
use Rattle.system.specs.declared.due.Due.{Due}
use Rattle.system.specs.Judgement.{refused_at, moved_at}
use Rattle.line.specs.Samples.{Packets}
use Rattle.programme.specs.Record.{ready_counts}
use Rattle.programme.proofs.Records.{recorded_moved, recorded_as}
use Rattle.programme.proofs.recorder.record.Goals as goal

pub returns-in-Ok-clause-answer : goal.returns-in-Ok-clause-answer
returns-in-Ok-clause-answer c =
    let a = c.args in
    let k : Packets = record { between = a.between.now; active = a.active.now } in
    c.accepted.ensures ∙ ap (λ (d : Due). moved_at a.walk d clean_report (ready_counts k)) c.due_at.ensures
    ∙ recorded_moved a.fall a.walk a.row.now k (length a.line.now) c.in-Ok.ensures.answer

pub returns-in-Err-clause-answer : goal.returns-in-Err-clause-answer
returns-in-Err-clause-answer c =
    let a = c.args in
    let k : Packets = record { between = a.between.now; active = a.active.now } in
    let r = c.in-Err.refused in
    c.refused.ensures ∙ ap (refused_at a.walk) c.from.ensures
    ∙ sym (recorded_as a.fall a.walk a.row.now k (length a.line.now) (numbered r) (sym c.in-Err.ensures.answer) (reason_counts r.reason))
