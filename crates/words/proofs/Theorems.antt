-- The promises on words and their bytes, of the definitions that the calls' contracts cite. Assumes nothing.
use Prim.Native.Nat.{ℕ, ◌*◌}
use mathlib.Core.Path.{◌≡◌, sym, ap, ◌∙◌}
use mathlib.Core.List.{List}
use lib.ListN.{length, get_or}
use Rattle.refusal.specs.declared.Refusal.{Refusal}
use Rattle.refusal.specs.Numbers.{wrong_length}
use Rattle.refusal.specs.Answer.{written_by}
use Rattle.refusal.specs.Table.{Decides, Keeps}
use Rattle.refusal.proofs.Tables.{keeps_unequal, decides_when}
use Rattle.words.specs.Words.{most_word, over_refusal, over_refusals}
use Rattle.words.specs.Bytes.{words_of, bytes_of, pairs_refusal, pairs_refusals}
use Rattle.words.proofs.Over.{most_exact, most_decides}
-- Words that are given as bytes are taken as the same words, and bytes that are taken as words are given as the same bytes.
pub use Rattle.words.proofs.Bytes.{words_back, bytes_back}
-- A refused call leaves the buffer as it was.
pub use Rattle.refusal.proofs.Firsts.{written_accepted, written_refused}

-- ---- 5 at the first word over 1023, and none where there is none.
module _ (words : List ℕ) where
  pub over_exact : Keeps (over_refusals words) (over_refusal words)
  over_exact = most_exact most_word (λ i. get_or words i 0) (length words)

  pub over_decides : Decides (over_refusals words)
  over_decides = most_decides most_word (λ i. get_or words i 0) (length words)

  pub over_one_result : (r s : Refusal) → r ≡ over_refusal words → s ≡ over_refusal words → r ≡ s
  over_one_result r s e f = e ∙ sym f

-- ---- Words as bytes: 3 exactly where the bytes are not twice the words, which leaves one answer.
module _ (bytes words : ℕ) where
  pub pairs_exact : Keeps (pairs_refusals bytes words) (pairs_refusal bytes words)
  pairs_exact = keeps_unequal bytes (2 * words) 0

  pub pairs_decide : Decides (pairs_refusals bytes words)
  pairs_decide = decides_when (bytes ≡ 2 * words → ⊥) wrong_length 0

-- Two results allowed for one input are the same: the answer and every word or byte.
module _ (given held : List ℕ) (r s : Refusal) (after other : List ℕ) where
  pub to_words_one_result : r ≡ pairs_refusal (length given) (length held) → after ≡ written_by r (words_of given) held
      → s ≡ pairs_refusal (length given) (length held) → other ≡ written_by s (words_of given) held → (r ≡ s) × (after ≡ other)
  to_words_one_result a b c d =
      (a ∙ sym c, b ∙ ap (λ (x : Refusal). written_by x (words_of given) held) (a ∙ sym c) ∙ sym d)

  pub to_bytes_one_result : r ≡ pairs_refusal (length held) (length given) → after ≡ written_by r (bytes_of given) held
      → s ≡ pairs_refusal (length held) (length given) → other ≡ written_by s (bytes_of given) held → (r ≡ s) × (after ≡ other)
  to_bytes_one_result a b c d =
      (a ∙ sym c, b ∙ ap (λ (x : Refusal). written_by x (bytes_of given) held) (a ∙ sym c) ∙ sym d)
