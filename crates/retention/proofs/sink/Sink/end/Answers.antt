-- `retention::sink::Sink::end` meets its contract: lines that are finished meet nothing. Assumes nothing.
use Rattle.std.proofs.Common.{true, sym, ap}
use Rattle.retention.specs.declared.sink.Sink.{Sink}
use Rattle.retention.specs.Turn.{end_by}
use Rattle.retention.proofs.Turns.{wrote_as}
use Rattle.retention.proofs.sink.Sink.end.Goals as goal

pub returns-in-Finishing : goal.returns-in-Finishing
returns-in-Finishing c = (wrote_as true, ap (λ (s : Sink). end_by s (wrote_as true)) (sym c.in-Finishing.is))
