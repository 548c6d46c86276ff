-- `words::all_samples` meets its contract: all is well so far exactly where each word passed is a sample. Assumes nothing.
use Rattle.std.proofs.Common.{◌≡◌, true, get_or}
use Rattle.std.specs.Prelude.{◌↔◌}
use Rattle.words.specs.Passes.{Sampled}
use Rattle.words.proofs.all_samples.Given as goal

abbrev pub invariant-loop-word : goal.invariant-loop-word
invariant-loop-word l = (l.well ≡ true) ↔ Sampled (λ k. get_or l.words k 0) l.word-index
