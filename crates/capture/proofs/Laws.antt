-- What is inOneNumber for each kind of correction, and within which bounds. Assumes nothing.
use Prim.Native.Nat.{ℕ, ◌+◌, ◌*◌, ◌<◌}
use mathlib.Core.Path.{◌≡◌, ap, subst, ◌∙◌}
use native.Mathlib.Omega.{arith}
use lib.Dec.{eqb}
use borrow.Author.Tests.{eqb-true}
use Rattle.refusal.specs.Numbers.{number_bound}
use Rattle.refusal.proofs.Cases.{by_test}
use Rattle.timing.specs.declared.Correction.{Correction}
use Rattle.timing.specs.declared.Correction.TheVariants.{Clean, Repaired, Refused}
use Rattle.timing.specs.Code.{fourth_of, correction_of}
use Rattle.timing.specs.Refusals.{refusal_of}
use Rattle.timing.proofs.Laws.{Bounded, bounded}
use Rattle.capture.specs.Answer.{in_one_number, corrected_of, correct_answer}

-- the answer to a correction
abbrev pub answer_to : Correction → ℕ
answer_to c = in_one_number (refusal_of c) (corrected_of c)

module _ (word : ℕ) where
  pub clean_answer : (fvh : ℕ) → correction_of word ≡ Clean fvh → correct_answer word ≡ fourth_of fvh
  unfolding correct_answer
  clean_answer fvh e = ap answer_to e

  pub repaired_answer : (fvh bit : ℕ) → correction_of word ≡ Repaired fvh bit → correct_answer word ≡ fourth_of fvh + 4096 * bit
  unfolding correct_answer
  repaired_answer fvh bit e = ap answer_to e

  pub refused_answer : (number : ℕ) → correction_of word ≡ (Refused number) → correct_answer word ≡ 65536 * number
  unfolding correct_answer
  refused_answer number e = ap answer_to e ∙ times number
    where
      times : (n : ℕ) → answer_to (Refused n) ≡ 65536 * n
      times n =
          by_test (eqb n 0)
          (λ t. simp t (let z : n ≡ 0 = eqb-true _ _ t in omega arith)) (λ t. simp t (omega arith))

  pub bit_low : (fvh bit : ℕ) → correction_of word ≡ Repaired fvh bit → bit < 9
  bit_low fvh bit e = (subst Bounded e (bounded word)).1

  pub number_low : (number : ℕ) → correction_of word ≡ (Refused number) → number < number_bound
  number_low number e = subst Bounded e (bounded word)
