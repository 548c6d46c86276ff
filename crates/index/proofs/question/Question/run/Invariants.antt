-- `index::question::Question::run` meets its contract. After k entries the same is left to do. Assumes nothing.
use Rattle.index.proofs.Questions.{Ran}
use Rattle.index.proofs.question.Question.run.Given as goal

abbrev pub invariant-loop-k : goal.invariant-loop-k
invariant-loop-k l = Ran l.self l.bytes l.at l.k l.least l.unclean l.wrong
