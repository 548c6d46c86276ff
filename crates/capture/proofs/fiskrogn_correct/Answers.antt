-- `capture::fiskrogn_correct` meets its contract: each arm is told the case, and so its bounds and its answer. Assumes nothing.
use Prim.Native.Nat.{ℕ, ◌<◌}
use mathlib.Core.Path.{sym, subst, ◌∙◌}
use native.Mathlib.Omega.{arith}
use Rattle.timing.proofs.Laws.{over_is_5, fourth_below}
use Rattle.capture.proofs.Laws.{clean_answer, repaired_answer, refused_answer, bit_low, number_low}
use Rattle.capture.proofs.fiskrogn_correct.Goals as goal

pub returns-then-from-word : goal.returns-then-from-word
returns-then-from-word c = rw c.number.ensures (sym (refused_answer _ 5 (over_is_5 _ (omega (arith, c.from.ensures, c.if-from-word.true)))))

pub overflow_mul-result-in-Repaired : goal.overflow_mul-result-in-Repaired
overflow_mul-result-in-Repaired c =
    omega (arith, bit_low _ _ _ (sym c.correct.ensures ∙ c.in-Repaired.is))

pub overflow_add-result : goal.overflow_add-result
overflow_add-result c =
    let low = subst (λ (n : ℕ). n < 1024) (sym (c.from-in-Repaired.ensures ∙ c.fourth-in-Repaired.ensures)) (fourth_below _) in
    omega (arith, bit_low _ _ _ (sym c.correct.ensures ∙ c.in-Repaired.is), low)

pub overflow_mul-result-in-Refused : goal.overflow_mul-result-in-Refused
overflow_mul-result-in-Refused c =
    omega (arith, number_low _ _ (sym c.correct.ensures ∙ c.in-Refused.is))

pub returns-in-Clean : goal.returns-in-Clean
returns-in-Clean c =
    c.from-in-Clean.ensures ∙ c.fourth.ensures ∙ sym (clean_answer _ _ (sym c.correct.ensures ∙ c.in-Clean.is))

pub returns-in-Repaired : goal.returns-in-Repaired
returns-in-Repaired c =
    rw (c.from-in-Repaired.ensures ∙ c.fourth-in-Repaired.ensures) (sym (repaired_answer _ _ _ (sym c.correct.ensures ∙ c.in-Repaired.is)))

pub returns-in-Refused : goal.returns-in-Refused
returns-in-Refused c =
    sym (refused_answer _ _ (sym c.correct.ensures ∙ c.in-Refused.is))
