-- `bytewise::pass::all_samples` meets its contract. The loop's invariant: where the highest key so far is a sample's, each word
-- passed is a sample. Assumes nothing.
use Rattle.std.proofs.Common.{◌+◌, ◌-◌, ◌*◌, ◌≤◌}
use Rattle.line.specs.Samples.{active_length}
use Rattle.words.specs.Bytes.{word_of_bytes}
use Rattle.words.specs.Passes.{Sampled}
use Rattle.bytewise.specs.Passes.{SampleKey}
use Rattle.bytewise.proofs.pass.all_samples.Given as goal

abbrev pub invariant-loop-k : goal.invariant-loop-k
invariant-loop-k l = (l.k ≤ active_length) × (SampleKey l.highest → Sampled (λ j. word_of_bytes l.bytes (l.from + 2 * j)) l.k)

abbrev pub decreases-loop-k : goal.decreases-loop-k
decreases-loop-k l = active_length - l.k
