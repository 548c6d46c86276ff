-- `programme::recorder::take_row` meets its contract: a row that is unpacked is the active part. Assumes nothing.
use mathlib.Core.Path.{sym, ◌∙◌}
use Rattle.refusal.proofs.Firsts.{same_number}
use Rattle.v210.proofs.Theorems.{unpack_accepted_fills}
use Rattle.programme.proofs.Records.{ok_number}
use Rattle.programme.proofs.recorder.take_row.Goals as goal

pub returns-clause-part : goal.returns-clause-part
returns-clause-part c = λ ok takes.
    let unpacked = c.unpack.ensures in
    unpacked.samples ∙ unpack_accepted_fills _ _ (sym (same_number unpacked.answer) ∙ ok_number c.unpack.result ok)
