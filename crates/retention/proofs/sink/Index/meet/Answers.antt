-- `retention::sink::Index::meet` meets its contract: as many bytes of the index are read as are due, and met where they could be. Assumes nothing.
use Rattle.std.proofs.Common.{◌≡◌, Err, Ok, sym, ap, ◌∙◌, rules}
use Rattle.finished.specs.declared.meeting.Meeting.{Meeting}
use Rattle.retention.specs.declared.sink.Index.{Index}
use Rattle.retention.specs.Turn.{behind_of}
use Rattle.retention.proofs.Turns.{met_nothing, met_index}
use Rattle.retention.proofs.sink.Index.meet.Goals as goal

pub returns-in_err-filled_status : goal.returns-in_err-filled_status
returns-in_err-filled_status c =
    let a = c.args in
    let e : c.from_residual.result ≡ Err c.in_err-filled_status.field-0.0 = search rules in
    met_nothing a.self a.entries.now a.most _ _ c.fill_at-filled.result c.min.ensures c.least-due.ensures.is _ _ (sym c.filled_status.ensures ∙ c.in_err-filled_status.was) e

pub returns : goal.returns
returns c =
    let a = c.args in
    let met = ap (λ (m : Meeting). behind_of a.self c.least-due.result m) c.meet.ensures in
    met_index a.self a.entries.now a.most _ _ c.fill_at-filled.result c.min.ensures c.least-due.ensures.is _ _ (sym c.filled_status.ensures ∙ c.in_ok-filled_status.was)
    (ap (λ (i : Index). Ok i) (c.behind.ensures ∙ met))
