-- `index::question::Question::run` meets its contract. After k entries the same is left to do. Assumes nothing.
use native.Mathlib.Omega.{arith}
use Rattle.index.proofs.Questions.{ran_next}
use Rattle.index.proofs.question.Question.run.Goals as goal

pub loop-k-preserved : goal.loop-k-preserved
loop-k-preserved c =
    let loop = c.loop-k in
    let x = c.args in
    rw (c.from-least.ensures, c.within-unclean.ensures, c.well.ensures)
    (ran_next x.self x.bytes.now x.at loop.k loop.least loop.unclean loop.wrong loop.invariant (omega arith) (omega arith) c.of-entry.ensures)
