-- `packets::scan::scan` meets its contract: nothing passed is wrong, and what holds the offset is known. Assumes nothing.
use Rattle.std.proofs.Common.{length}
use Rattle.packets.proofs.Walks.{Walked}
use Rattle.packets.proofs.scan.scan.Given as goal

abbrev pub invariant-loop-i : goal.invariant-loop-i
invariant-loop-i l = Walked l.words l.start (length l.words) l.fill.even l.fill.odd l.holder l.i
