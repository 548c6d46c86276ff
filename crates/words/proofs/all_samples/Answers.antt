-- `words::all_samples` meets its contract: all is well so far exactly where each word passed is a sample. Assumes nothing.
use Rattle.std.proofs.Common.{refl, get_or}
use native.Mathlib.Omega.{arith}
use Rattle.words.proofs.Passes.{still_exactly, sample_test}
use Rattle.words.proofs.all_samples.Goals as goal

pub loop-word-init : goal.loop-word-init
loop-word-init c = (λ e j l. absurd (omega arith), λ all. refl)

pub loop-word-preserved : goal.loop-word-preserved
loop-word-preserved c =
    still_exactly _ c.loop-word.well _ c.loop-word.word-index c.loop-word.invariant
    (sample_test (get_or c.args.words.now c.loop-word.word-index 0) c.reserved.result c.reserved.ensures)
