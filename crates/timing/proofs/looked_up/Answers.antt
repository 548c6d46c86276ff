-- `timing::looked_up` meets its contract: the table's entry says what the seven bits do. Assumes nothing.
use native.Mathlib.Omega.{arith}
use borrow.Author.Tests.{lt-ltb, le-ltb}
use Rattle.timing.specs.Code.{seven_of}
use Rattle.timing.proofs.Table.{entry_of, entry_says, read_right}
use Rattle.timing.proofs.looked_up.Goals as goal

pub returns-then-answer-gt15 : goal.returns-then-answer-gt15
unfolding entry_of entry_says
returns-then-answer-gt15 c = simp (lt-ltb _ _ c.if-answer-gt15.true) at (read_right _ (seven_of c.args.word) (omega arith) c.answers.ensures)

pub returns-then-answer-gt7 : goal.returns-then-answer-gt7
unfolding entry_of entry_says
returns-then-answer-gt7 c =
    simp (le-ltb _ _ c.if-answer-gt15.false, lt-ltb _ _ c.if-answer-gt7.true) at (read_right _ (seven_of c.args.word) (omega arith) c.answers.ensures)

pub returns : goal.returns
unfolding entry_of entry_says
returns c =
    simp (le-ltb _ _ c.if-answer-gt15.false, le-ltb _ _ c.if-answer-gt7.false) at (read_right _ (seven_of c.args.word) (omega arith) c.answers.ensures)
