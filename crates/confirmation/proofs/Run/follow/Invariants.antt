-- `confirmation::Run::follow` meets its contract. The loop keeps that what it still has to do comes to the whole, and each of its turns is
-- one of the definition's. The measure is what is left of the bytes. Assumes nothing.
use Rattle.std.proofs.Common.{◌-◌, length}
use Rattle.confirmation.proofs.Reached.{Reached}
use Rattle.confirmation.proofs.Run.follow.Given as goal

abbrev pub invariant-loop-run : goal.invariant-loop-run
invariant-loop-run l = Reached l.bytes l.size l.initial.run l.run l.at

abbrev pub decreases-loop-run : goal.decreases-loop-run
decreases-loop-run l = length l.bytes - l.at
