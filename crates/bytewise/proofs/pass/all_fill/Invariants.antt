-- `bytewise::pass::all_fill` meets its contract. The loop's invariant: where all was good so far, each pair passed is the two words. Two
-- words of 16 bits are told apart in the one number. Assumes nothing.
use Rattle.std.proofs.Common.{◌≡◌, ◌+◌, ◌-◌, ◌*◌, ◌≤◌, true}
use Rattle.words.specs.Bytes.{word_of_bytes}
use Rattle.words.specs.Passes.{Filled}
use Rattle.bytewise.proofs.pass.all_fill.Given as goal

abbrev pub invariant-loop-k : goal.invariant-loop-k
invariant-loop-k l = (l.k ≤ l.pairs) × (l.good ≡ true → Filled l.fn.fill.even l.fn.fill.odd (λ j. word_of_bytes l.bytes (l.from + 2 * j)) l.k)

abbrev pub decreases-loop-k : goal.decreases-loop-k
decreases-loop-k l = l.pairs - l.k
