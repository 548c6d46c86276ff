-- `capture::fiskrogn_judge` meets its contract: a refusal's number and place are small enough for one answer. Assumes nothing.
use Prim.Native.Nat.{ℕ, ◌+◌, ◌*◌}
use mathlib.Core.Path.{◌≡◌, sym, ap, subst, ◌∙◌}
use mathlib.Core.List.{List}
use native.Mathlib.Omega.{arith}
use borrow.Author.Tests.{eq-eqb, ne_eqb}
use Rattle.timing.specs.Report.{repairs_of}
use Rattle.system.specs.declared.walk.Walk.{Walk}
use Rattle.system.specs.declared.walk.Judgement.{Judgement}
use Rattle.bytewise.specs.Bytes.{judged_bytes}
use Rattle.bytewise.proofs.Theorems.{bytes_number}
use Rattle.capture.specs.Answer.{in_one_number, judge_answer}
use Rattle.capture.proofs.Bounds.{Small, small_bytes}
use Rattle.capture.proofs.fiskrogn_judge.Goals as goal

-- what a judgement is in one number
abbrev answer_to : Judgement → ℕ
answer_to j = in_one_number (record { number = j.number; place = j.place }) (repairs_of j.report)

-- the judgement j of the walk that was made of the numbers given
module _ (w made : Walk) (bytes : List ℕ) (j : Judgement) (holds : made ≡ w) (told : j ≡ judged_bytes made bytes) where
  is : j ≡ judged_bytes w bytes
  is = told ∙ ap (λ (x : Walk). judged_bytes x bytes) holds

  small : Small (record { number = j.number; place = j.place })
  small =
      subst (λ (x : Judgement). Small (record { number = x.number; place = x.place })) (sym is)
      (subst Small (sym (bytes_number w bytes)) (small_bytes w bytes))

  refused_answer : (j.number ≡ 0 → ⊥) → 65536 * j.number + j.place ≡ judge_answer w bytes
  unfolding judge_answer
  refused_answer n = sym (sym (ap answer_to is) ∙ simp (ne_eqb _ _ n) (omega arith))

  accepted_answer : j.number ≡ 0 → repairs_of j.report ≡ judge_answer w bytes
  unfolding judge_answer
  accepted_answer e = sym (sym (ap answer_to is) ∙ simp (eq-eqb _ _ e))

pub overflow_mul-result : goal.overflow_mul-result
overflow_mul-result c = omega (arith, (small _ _ _ _ c.of-walk.ensures c.judge-judgement.ensures).number)

pub overflow_cast-result : goal.overflow_cast-result
overflow_cast-result c = omega (arith, (small _ _ _ _ c.of-walk.ensures c.judge-judgement.ensures).place)

pub overflow_add-result : goal.overflow_add-result
overflow_add-result c =
    let s = small _ _ _ _ c.of-walk.ensures c.judge-judgement.ensures in
    omega (arith, s.number, s.place)

pub returns-then-judgement-ne0 : goal.returns-then-judgement-ne0
returns-then-judgement-ne0 c =
    refused_answer _ _ _ _ c.of-walk.ensures c.judge-judgement.ensures c.if-judgement-ne0.true

pub returns : goal.returns
returns c =
    c.repairs.ensures ∙ accepted_answer _ _ _ _ c.of-walk.ensures c.judge-judgement.ensures c.if-judgement-ne0.false
