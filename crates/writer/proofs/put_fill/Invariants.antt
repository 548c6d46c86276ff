-- `writer::put_fill` meets its contract, pair by pair: the first of a pair stands at an even offset. Assumes nothing.
use Rattle.std.proofs.Common.{◌+◌, ◌*◌}
use Rattle.writer.specs.Passes.{Put, fill_word}
use Rattle.writer.proofs.put_fill.Given as goal

abbrev pub invariant-loop-pair : goal.invariant-loop-pair
invariant-loop-pair l = Put (fill_word l.due) l.from (l.from + 2 * l.pair) l.initial.words l.words
