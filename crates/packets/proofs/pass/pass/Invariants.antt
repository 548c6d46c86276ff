-- `packets::pass::pass` meets its contract: nothing before p is wrong, and the rest is judged as a space of its own. Assumes nothing.
use Rattle.std.proofs.Common.{length, ◌-◌}
use Rattle.packets.specs.Fault.{word_at}
use Rattle.packets.proofs.Passes.{Passing}
use Rattle.packets.proofs.pass.pass.Given as goal

abbrev pub invariant-loop-fill : goal.invariant-loop-fill
invariant-loop-fill l = Passing (word_at l.words) l.start (length l.words) l.fill.even l.fill.odd l.p

abbrev pub decreases-loop-fill : goal.decreases-loop-fill
decreases-loop-fill l = length l.words - l.p
