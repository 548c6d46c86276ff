-- `words::to_words` meets its contract: a refusal comes before the first store. Assumes nothing.
use Rattle.std.proofs.Common.{ℕ, ◌*◌, ◌/◌, ◌≡◌, length, ap, sym, ◌∙◌}
use native.Mathlib.Omega.{arith}
use Rattle.refusal.proofs.Firsts.{same_number}
use Rattle.refusal.proofs.Results.{err_stays, ok_written}
use Rattle.words.specs.Words.{tab}
use Rattle.words.specs.Bytes.{word_of_bytes, words_of}
use Rattle.words.proofs.Bytes.{pairs_fit}
use Rattle.words.proofs.to_words.Goals as goal

pub returns-in_err-pairs_refusal-clause-words : goal.returns-in_err-pairs_refusal-clause-words
returns-in_err-pairs_refusal-clause-words c = err_stays c.from_residual.result c.from_residual.ensures.0 _ _

pub returns-clause-words : goal.returns-clause-words
unfolding words_of
returns-clause-words c =
    let bytes = c.args.bytes.now in
    let twice = pairs_fit (length bytes) (length c.args.words.now) (sym (same_number c.in_ok-pairs_refusal.ensures)) in
    let half : length c.args.words.now ≡ length bytes / 2 = omega (arith, twice) in
    c.copy_words.ensures ∙ ap (λ (n : ℕ). tab n (λ k. word_of_bytes bytes (2 * k))) half ∙ ok_written _ _
