-- `programme::recorder::write_words` meets its contract: fill where V is 1, and otherwise the row's own active part. Assumes nothing.
use mathlib.Core.Path.{◌≡◌, refl}
use native.Mathlib.Omega.{arith}
use lib.ListN.{length}
use Rattle.line.specs.Samples.{active_length}
use Rattle.programme.specs.Passes.{packets_in}
use Rattle.programme.proofs.Records.{part_written, ok_number}
use Rattle.programme.proofs.recorder.write_words.Goals as goal

pub returns-clause-answer : goal.returns-clause-answer
returns-clause-answer c =
    let a = c.args in
    let taken = c.in_ok-take_row.ensures in
    let wrote = c.write_part.ensures in
    let long : length c.take_row.new.part ≡ active_length = omega arith in
    (part_written a.fall a.walk a.given.now.row.now (packets_in a.given.now) _ c.due_at.ensures _ a.words.now long c.requires _ wrote.answer _ wrote.words
    taken.answer (taken.part refl)).0

pub returns-clause-words : goal.returns-clause-words
returns-clause-words c = λ ok.
    let a = c.args in
    let taken = c.in_ok-take_row.ensures in
    let wrote = c.write_part.ensures in
    let long : length c.take_row.new.part ≡ active_length = omega arith in
    (part_written a.fall a.walk a.given.now.row.now (packets_in a.given.now) _ c.due_at.ensures _ a.words.now long c.requires _ wrote.answer _ wrote.words
    taken.answer (taken.part refl)).1 (ok_number c.write_part.result ok)
