-- `writer::planes::put` meets its contract, group by group. Assumes nothing.
use Rattle.std.proofs.Common.{◌+◌, ◌*◌}
use Rattle.writer.specs.Passes.{Put, active_word}
use Rattle.writer.proofs.planes.PlanesPicture.put.Given as goal

abbrev pub invariant-loop-group : goal.invariant-loop-group
invariant-loop-group l =
    Put (active_word (record { y = l.self.y.now; cb = l.self.cb.now; cr = l.self.cr.now }) l.at) l.at (l.at + 4 * l.group) l.initial.words l.words
