-- `retention::checking::end` meets its contract: whether the rest of the index could be read, and what was found. Assumes nothing.
use Rattle.std.proofs.Common.{◌≡◌, ℕ, Result, Ok, Err, ap, rules}
use Rattle.console.specs.declared.Status.{Status}
use Rattle.retention.specs.Turn.{exit_of}
use Rattle.retention.proofs.Turns.{check_unread, check_theirs, check_other}
use Rattle.retention.proofs.checking.end.Goals as goal

pub returns-in_err-meeting : goal.returns-in_err-meeting
returns-in_err-meeting c =
    let e : c.from_residual.result ≡ Err c.in_err-meeting.field-0.0 = search rules in
    check_unread c.args.carried (Ok c.args.parts) _ c.end.ensures.0 c.end.ensures.1 _ _ c.in_err-meeting.was (ap (λ (x : Result ℕ Status). exit_of x) e)

pub returns-then-is_theirs : goal.returns-then-is_theirs
returns-then-is_theirs c =
    let t = c.tell.ensures in
    check_theirs c.args.carried (Ok c.args.parts) _ c.end.ensures.0 c.end.ensures.1 _ _ c.in_ok-meeting.was _ c.is_theirs.ensures c.if-is_theirs.true t.0 t.1

pub returns : goal.returns
returns c =
    let t = c.tell_no.ensures in
    check_other c.args.carried (Ok c.in_ok-whole.whole) _ c.end.ensures.0 c.end.ensures.1 _ _ c.in_ok-meeting.was _ c.is_theirs.ensures c.if-is_theirs.false t.0 t.1
