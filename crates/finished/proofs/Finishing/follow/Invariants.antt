-- `finished::Finishing::follow` meets its contract. The loop keeps that the entries put, with what it still has to do behind them, come to the
-- whole, and each of its turns is one of the definition's. The measure is the turns left. Assumes nothing.
use Rattle.finished.proofs.Filling.{Filling}
use Rattle.finished.proofs.Finishing.follow.Given as goal

abbrev pub invariant-loop-turns : goal.invariant-loop-turns
invariant-loop-turns l = Filling l.bytes l.initial.room l.size l.initial.finishing l.room l.finishing l.at l.put l.turns

abbrev pub decreases-loop-turns : goal.decreases-loop-turns
decreases-loop-turns l = l.turns
