-- `retention::sink::Sink::take` meets its contract: lines that are finished are written with their entries, or could not be. Assumes nothing.
use Rattle.std.proofs.Common.{◌≡◌, Result, Err, sym, ap, ◌∙◌, rules}
use Rattle.console.specs.declared.Status.{Status}
use Rattle.retention.specs.declared.sink.Sink.TheVariants.{Finishing}
use Rattle.retention.specs.Turn.{put_as}
use Rattle.retention.proofs.Turns.{put_in_file}
use Rattle.retention.proofs.sink.Sink.take.Goals as goal

pub returns-in_err-written_status-in-Finishing : goal.returns-in_err-written_status-in-Finishing
returns-in_err-written_status-in-Finishing c =
    let e : c.from_residual.result ≡ Err c.in_err-written_status-in-Finishing.field-0.0 = search rules in
    let put = λ (x : Result (Unit {0}) Status). put_as (Finishing c.in-Finishing.file c.in-Finishing.beside) x in
    put_in_file c.args.self _ _ c.args.entries.now c.in-Finishing.is _ _ c.written_status.ensures _ (e ∙ sym (ap put c.in_err-written_status-in-Finishing.was))

pub returns-in_ok-written_status-in-Finishing : goal.returns-in_ok-written_status-in-Finishing
returns-in_ok-written_status-in-Finishing c =
    let put = λ (x : Result (Unit {0}) Status). put_as (Finishing c.in-Finishing.file c.in-Finishing.beside) x in
    put_in_file c.args.self _ _ c.args.entries.now c.in-Finishing.is _ _ c.written_status.ensures _ (sym (ap put c.in_ok-written_status-in-Finishing.was))
