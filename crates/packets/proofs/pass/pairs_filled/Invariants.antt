-- `packets::pass::pairs_filled` meets its contract: while all is well, each pair passed is these two words. Assumes nothing.
use Rattle.std.proofs.Common.{◌≡◌, true, get_or}
use Rattle.words.specs.Passes.{Filled}
use Rattle.packets.proofs.pass.pairs_filled.Given as goal

abbrev pub invariant-loop-k : goal.invariant-loop-k
invariant-loop-k l = l.well ≡ true → Filled l.first l.second (λ j. get_or l.words j 0) l.k
