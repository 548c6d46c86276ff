-- The promises on a line lent as bytes, of the definitions that the call's contract cites. Assumes nothing.
use Rattle.std.proofs.Common.{◌≡◌, ℕ, ◌*◌, eqb, List, length, sym, refl, ◌∙◌, arith, eq-eqb, ne_eqb, eqb-true}
use borrow.Author.Tests.{eqb-false}
use Rattle.refusal.specs.Table.{Decides, Keeps}
use Rattle.refusal.proofs.Cases.{by_test}
use Rattle.words.specs.Bytes.{words_of}
use Rattle.words.proofs.Bytes.{words_length}
use Rattle.system.specs.declared.walk.Walk.{Walk}
use Rattle.system.specs.declared.walk.Judgement.{Judgement}
use Rattle.system.specs.Walk.{line_bytes, due_in}
use Rattle.system.specs.Judgement.{refused_at, accepted_at}
use Rattle.line.specs.Fault.{counts_of}
use Rattle.reader.specs.Judge.{line_refusal, report_of, line_judged, judge_refusal, judged_of}
use Rattle.reader.proofs.Judged.{line_exact, line_decides, judged_as_refused, judged_refused, judged_accepted}
use Rattle.bytewise.specs.Bytes.{bytes_refusal, judged_bytes}
use Rattle.bytewise.specs.Refusals.{bytes_refusals}

-- the same test of lengths, of bytes and of words
same_test : (m n : ℕ) → eqb (2 * m) (2 * n) ≡ eqb m n
same_test m n =
    by_test (eqb m n)
    (λ t. let e = eqb-true m n t in eq-eqb (2 * m) (2 * n) (omega arith) ∙ sym t)
    (λ f. ne_eqb (2 * m) (2 * n) (λ e. eqb-false m n f (omega arith)) ∙ sym f)

module _ (w : Walk) (bytes : List ℕ) where
  -- ---- Two bytes for each word: the line is refused as its words are, and judged as they are.
  pub bytes_refused_as_words : (n : ℕ) → length bytes ≡ 2 * n → bytes_refusal w bytes ≡ judge_refusal w (words_of bytes)
  unfolding line_refusal
  bytes_refused_as_words n even = rw (even, words_length bytes n even, same_test n)

  pub bytes_as_words : (n : ℕ) → length bytes ≡ 2 * n → judged_bytes w bytes ≡ judged_of w (words_of bytes)
  unfolding line_judged
  bytes_as_words n even = rw (bytes_refused_as_words n even)

  -- ---- Each refusal comes exactly when its condition holds and none earlier does.
  pub bytes_exact : Keeps (bytes_refusals w bytes) (bytes_refusal w bytes)
  bytes_exact = line_exact (length bytes) (line_bytes w) w (words_of bytes)

  -- The answer's number and place are that refusal's.
  pub bytes_number : record { number = (judged_bytes w bytes).number; place = (judged_bytes w bytes).place } ≡ bytes_refusal w bytes
  bytes_number = judged_as_refused (length bytes) (line_bytes w) w (words_of bytes)

  pub bytes_decide : Decides (bytes_refusals w bytes)
  bytes_decide = line_decides (length bytes) (line_bytes w) w (words_of bytes)

  -- ---- A refused line leaves the walk standing and is told as clean and without packets; an accepted one advances it by its report, and the
  -- words of each space that are packets are told.
  pub bytes_refused_stands : ((bytes_refusal w bytes).number ≡ 0 → ⊥) → judged_bytes w bytes ≡ refused_at w (bytes_refusal w bytes)
  bytes_refused_stands n = judged_refused (length bytes) (line_bytes w) w (words_of bytes) _ refl n

  pub bytes_accepted_advances : (bytes_refusal w bytes).number ≡ 0
      → judged_bytes w bytes
      ≡ accepted_at w (due_in w (words_of bytes)) (report_of (due_in w (words_of bytes)) (words_of bytes)) (counts_of (due_in w (words_of bytes)) (words_of bytes))
  bytes_accepted_advances e = judged_accepted (length bytes) (line_bytes w) w (words_of bytes) e

  -- ---- Two results allowed for one input are the same.
  pub bytes_one_result : (r s : Judgement) → r ≡ judged_bytes w bytes → s ≡ judged_bytes w bytes → r ≡ s
  bytes_one_result r s e f = e ∙ sym f
