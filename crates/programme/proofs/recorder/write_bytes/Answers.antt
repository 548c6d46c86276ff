-- `programme::recorder::write_bytes` meets its contract: the words of a line that nothing refuses are its bytes. Assumes nothing.
use mathlib.Core.Path.{refl}
use Rattle.programme.specs.Passes.{packets_in}
use Rattle.programme.proofs.Records.{bytes_written}
use Rattle.programme.proofs.recorder.write_bytes.Goals as goal

pub returns-clause-answer : goal.returns-clause-answer
returns-clause-answer c =
    let a = c.args in
    let wrote = c.in_ok-write_words.ensures in
    (bytes_written a.fall a.walk a.given.now.row.now (packets_in a.given.now) a.line.now _ c.in_ok-standing.ensures wrote.answer (wrote.words refl)
    _ c.to_bytes.ensures.answer _ c.to_bytes.ensures.bytes).0

pub returns-clause-line : goal.returns-clause-line
returns-clause-line c =
    let a = c.args in
    let wrote = c.in_ok-write_words.ensures in
    (bytes_written a.fall a.walk a.given.now.row.now (packets_in a.given.now) a.line.now _ c.in_ok-standing.ensures wrote.answer (wrote.words refl)
    _ c.to_bytes.ensures.answer _ c.to_bytes.ensures.bytes).1
