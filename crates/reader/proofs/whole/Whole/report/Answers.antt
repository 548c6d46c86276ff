-- `reader::whole::Whole::report` meets its contract: each fourth word is told. Assumes nothing.
use Rattle.reader.specs.Judge.{report_of}
use Rattle.reader.proofs.whole.Whole.report.Goals as goal

pub returns : goal.returns
unfolding report_of
returns c = rw (c.code_told-2.ensures, c.code_told.ensures, c.sav_offset-fourth.ensures)
