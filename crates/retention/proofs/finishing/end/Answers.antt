-- `retention::finishing::end` meets its contract: a failed read, a refused line, or how the file was ended. Assumes nothing.
use Rattle.std.proofs.Common.{Result, Ok, sym, ap, ◌∙◌, ne_eqb}
use Rattle.console.specs.declared.Status.{Status}
use Rattle.retention.specs.declared.carrying.Carried.{Carried}
use Rattle.retention.specs.Turn.{finished_status}
use Rattle.retention.proofs.finishing.end.Goals as goal

pub returns-in-Err : goal.returns-in-Err
returns-in-Err c =
    (Ok tt, c.failed.ensures ∙ ap (λ (r : Result Carried Status). finished_status r (Ok tt)) (sym c.in-Err.is))

pub returns-then-run-ne0 : goal.returns-then-run-ne0
returns-then-run-ne0 c = (Ok tt, rw c.in-Ok.is (simp (ne_eqb c.in-Ok.carried.finishing.run.number 0 c.if-run-ne0.true)))
