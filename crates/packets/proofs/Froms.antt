-- Laws of the lowest place with a fault among k places from i. Assumes nothing.
use mathlib.Core.Path.{◌≡◌, refl, sym, ap, ◌∙◌}
use Prim.Native.Nat.{ℕ, zero, suc, ◌+◌, ◌-◌, ◌<◌, ◌≤◌}
use native.Mathlib.Omega.{arith}
use lib.Dec.{eqb}
use borrow.Author.Tests.{eq-eqb, ne_eqb, eqb-true, eqb-false}
use Rattle.refusal.specs.Answer.{none, first_from}
use Rattle.refusal.proofs.Cases.{by_test, by_cond}

above : (i p : ℕ) → i ≤ p → (i ≡ p → ⊥) → i < p
above i p l ne = omega arith

module _ (f : ℕ → ℕ) where
  -- no place from i to n has a fault
  abbrev pub Clear : ℕ → ℕ → Type 0
  Clear i n = (j : ℕ) → i ≤ j → j < n → f j ≡ 0

  pub from_none : (k i : ℕ) → Clear i (i + k) → first_from f i k ≡ none
  unfolding first_from
  from_none zero i h = refl
  from_none (suc k) i h =
      simp (eq-eqb _ _ (h i (omega arith) (omega arith))) (from_none k (suc i) (λ j l m. h j (omega arith) (omega arith)))

  pub from_at : (k i p : ℕ) → i ≤ p → p < i + k → Clear i p → (f p ≡ 0 → ⊥) → first_from f i k ≡ record { number = f p; place = p }
  unfolding first_from
  from_at zero i p l m h b = absurd (omega arith)
  from_at (suc k) i p l m h b =
      by_test (eqb i p) (λ t. rw (eqb-true i p t) (simp (ne_eqb _ _ b)))
      (λ t. let up = above i p l (eqb-false i p t) in
      simp (eq-eqb _ _ (h i (omega arith) up)) (from_at k (suc i) p up (omega arith) (λ j q r. h j (omega arith) r) b))

  -- where the first fault has the number 0, no place has a fault
  pub from_back : (k i : ℕ) → (first_from f i k).number ≡ 0 → Clear i (i + k)
  unfolding first_from
  from_back zero i e j l m = absurd (omega arith)
  from_back (suc k) i e j l m =
      by_test (eqb (f i) 0)
      (λ t. by_test (eqb i j)
      (λ u. ap f (sym (eqb-true i j u)) ∙ eqb-true _ _ t)
      (λ u. let ne = eqb-false i j u in from_back k (suc i) (rw t at e) j (above i j l ne) (omega arith)))
      (λ t. absurd (eqb-false _ _ t (rw t at e)))

  -- places without a fault before the others may be left out
  pub from_later : (m i k : ℕ) → Clear i (i + m) → first_from f i (m + k) ≡ first_from f (i + m) k
  unfolding first_from
  from_later zero i k h =
      let n : 0 + k ≡ k = omega arith in
      let e : i ≡ i + 0 = omega arith in
      ap (first_from f i) n ∙ ap (λ (p : ℕ). first_from f p k) e
  from_later (suc m) i k h =
      let e : suc i + m ≡ i + suc m = omega arith in
      let n : suc m + k ≡ suc (m + k) = omega arith in
      ap (first_from f i) n
      ∙ simp (eq-eqb _ _ (h i (omega arith) (omega arith)))
      (from_later m (suc i) k (λ j l q. h j (omega arith) (omega arith)) ∙ ap (λ (p : ℕ). first_from f p k) e)

  -- what holds of 0 and of each fault's number holds of the first's
  pub from_number : (P : ℕ → Type 0) → P 0 → ((j : ℕ) → P (f j)) → (k i : ℕ) → P (first_from f i k).number
  unfolding first_from
  from_number P z h zero i = z
  from_number P z h (suc k) i =
      by_cond (λ r. P r.number) (eqb (f i) 0) (first_from f (suc i) k) (record { number = f i; place = i })
      (λ t. from_number P z h k (suc i)) (λ t. h i)

-- the same faults have the same first
pub from_same : (f g : ℕ → ℕ) (k i : ℕ) → ((j : ℕ) → i ≤ j → j < i + k → f j ≡ g j) → first_from f i k ≡ first_from g i k
unfolding first_from
from_same f g zero i h = refl
from_same f g (suc k) i h =
    rw (h i (omega arith) (omega arith), from_same f g k (suc i) (λ j l m. h j (omega arith) (omega arith))) refl

-- the same faults s places on have the same first, s places on
pub from_moved : (f : ℕ → ℕ) (s k i : ℕ) → ((first_from f i k).number ≡ 0 → ⊥)
    → first_from (λ j. f (j - s)) (s + i) k ≡ record { number = (first_from f i k).number; place = s + (first_from f i k).place }
unfolding first_from
from_moved f s zero i b = absurd (b refl)
from_moved f s (suc k) i b =
    let e : s + i - s ≡ i = omega arith in
    let n : suc (s + i) ≡ s + suc i = omega arith in
    by_test (eqb (f i) 0)
    (λ t. rw (e, n) (simp t (from_moved f s k (suc i) (rw t at b))))
    (λ t. rw (e, n) (simp t))
