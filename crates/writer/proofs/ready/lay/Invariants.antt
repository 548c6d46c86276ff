-- `writer::ready::lay` meets its contract, word by word: each store keeps all other words. Assumes nothing.
use Prim.Native.Nat.{◌+◌, ◌-◌, ◌≤◌}
use mathlib.Core.Path.{◌≡◌}
use lib.ListN.{length}
use Rattle.writer.specs.Passes.{Put, part_word}
use Rattle.writer.proofs.Puts.{Behind}
use Rattle.writer.proofs.ready.lay.Given as goal

abbrev pub invariant-loop-k : goal.invariant-loop-k
invariant-loop-k l =
    (l.k ≤ l.k-end) × (l.k-end ≡ length l.ready) × Put (part_word l.ready l.from) l.from (l.from + l.k) l.initial.words l.words × Behind (l.from + l.k) l.initial.words l.words

abbrev pub decreases-loop-k : goal.decreases-loop-k
decreases-loop-k l = l.k-end - l.k
