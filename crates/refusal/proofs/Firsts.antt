-- Laws of the first refusal and of the lowest place with a fault. Assumes nothing.
use mathlib.Core.Path.{◌≡◌, refl, sym, ap, ◌∙◌}
use Prim.Native.Nat.{ℕ, zero, suc, ◌+◌, ◌<◌}
use native.Mathlib.Omega.{arith}
use mathlib.Core.Bool.{Bool, true, false, not}
use mathlib.Core.List.{List}
use lib.Dec.{eqb}
use borrow.Author.Tests.{eq-eqb, ne_eqb, eqb-true, eqb-false}
use Rattle.refusal.specs.declared.Refusal.{Refusal}
use Rattle.refusal.specs.Numbers.{wrong_length}
use Rattle.refusal.specs.Answer.{none, refuse, written_by, or_else, first_from}
use Rattle.refusal.proofs.Cases.{by_test, not_false}

pub or_else_accepted : (a b : Refusal) → a.number ≡ 0 → or_else a b ≡ b
unfolding or_else
or_else_accepted a b e = simp (eq-eqb _ _ e)

pub or_else_refused : (a b : Refusal) → (a.number ≡ 0 → ⊥) → or_else a b ≡ a
unfolding or_else
or_else_refused a b n = simp (ne_eqb _ _ n)

-- the first of three is the same, however they are grouped
pub or_else_grouped : (a b c : Refusal) → or_else a (or_else b c) ≡ or_else (or_else a b) c
or_else_grouped a b c =
    by_test (eqb a.number 0)
    (λ t. let z = eqb-true _ _ t in or_else_accepted a (or_else b c) z ∙ ap (λ (r : Refusal). or_else r c) (sym (or_else_accepted a b z)))
    (λ f. let n = eqb-false _ _ f in
    or_else_refused a (or_else b c) n ∙ sym (ap (λ (r : Refusal). or_else r c) (or_else_refused a b n) ∙ or_else_refused a c n))

-- where the first of two refusals is none, neither refuses
pub or_else_none : (a b : Refusal) → (or_else a b).number ≡ 0 → (a.number ≡ 0) × (b.number ≡ 0)
or_else_none a b e =
    by_test (eqb a.number 0)
    (λ t. (eqb-true _ _ t, sym (ap (λ (r : Refusal). r.number) (or_else_accepted a b (eqb-true _ _ t))) ∙ e))
    (λ f. absurd (eqb-false _ _ f (sym (ap (λ (r : Refusal). r.number) (or_else_refused a b (eqb-false _ _ f))) ∙ e)))

-- equal answers have one number
pub same_number : {a b : Refusal} → a ≡ b → a.number ≡ b.number
same_number e = ap (λ (r : Refusal). r.number) e

-- a refusal with the number 0 was not made
pub not_made : (t : Bool) (n p : ℕ) → (n ≡ 0 → ⊥) → (refuse t n p).number ≡ 0 → t ≡ false
not_made true n p positive e = absurd (positive e)
not_made false n p positive e = refl

-- so a length that is not refused is the one that is due
pub length_due : (m n p : ℕ) → (refuse (not (eqb m n)) wrong_length p).number ≡ 0 → m ≡ n
length_due m n p e = eqb-true m n (not_false _ (not_made (not (eqb m n)) wrong_length p (λ z. omega arith) e))

-- ---- a buffer after its call
module _ (r : Refusal) (after before : List ℕ) where
  pub written_accepted : r.number ≡ 0 → written_by r after before ≡ after
  unfolding written_by
  written_accepted e = simp (eq-eqb _ _ e)

  pub written_refused : (r.number ≡ 0 → ⊥) → written_by r after before ≡ before
  unfolding written_by
  written_refused n = simp (ne_eqb _ _ n)

-- ---- the lowest place with a fault
module _ (f : ℕ → ℕ) where
  none_from : (k i : ℕ) → ((j : ℕ) → j < i + k → f j ≡ 0) → first_from f i k ≡ none
  unfolding first_from
  none_from zero i h = refl
  none_from (suc k) i h = simp (eq-eqb _ _ (h i (omega arith))) (none_from k (suc i) (λ j l. h j (omega arith)))

  at_from : (k i m p : ℕ) → p ≡ i + m → m < k → ((j : ℕ) → j < p → f j ≡ 0) → (f p ≡ 0 → ⊥)
      → first_from f i k ≡ record { number = f p; place = p }
  unfolding first_from
  at_from zero i m p e l h b = absurd (omega arith)
  at_from (suc k) i zero p e l h b =
      let q : i ≡ p = omega arith in
      rw q (simp (ne_eqb _ _ b))
  at_from (suc k) i (suc m) p e l h b =
      simp (eq-eqb _ _ (h i (omega arith))) (at_from k (suc i) m p (omega arith) (omega arith) h b)

  -- no place has a fault
  pub first_none : (n : ℕ) → ((j : ℕ) → j < n → f j ≡ 0) → first_from f 0 n ≡ none
  first_none n h = none_from n 0 (λ j l. h j (omega arith))

  -- the place p is the lowest with a fault
  pub first_at : (n p : ℕ) → p < n → ((j : ℕ) → j < p → f j ≡ 0) → (f p ≡ 0 → ⊥) → first_from f 0 n ≡ record { number = f p; place = p }
  first_at n p l h b = at_from n 0 p p (omega arith) l h b

  -- one of the two is the case
  pub data Found (n : ℕ) : Type 0 where
    nowhere : ((j : ℕ) → j < n → f j ≡ 0) → Found n
    at : (p : ℕ) → p < n → ((j : ℕ) → j < p → f j ≡ 0) → (f p ≡ 0 → ⊥) → Found n

  pub found : (n : ℕ) → Found n
  found zero = nowhere (λ j l. absurd (omega arith))
  found (suc n) = go (found n)
    where
      up_to : ((j : ℕ) → j < n → f j ≡ 0) → f n ≡ 0 → (j : ℕ) → j < suc n → f j ≡ 0
      up_to h e j l = by_test (eqb j n) (λ t. ap f (eqb-true _ _ t) ∙ e) (λ g. let ne = eqb-false _ _ g in h j (below ne))
        where
          below : (j ≡ n → ⊥) → j < n
          below ne = omega arith

      go : Found n → Found (suc n)
      go (nowhere h) =
          by_test (eqb (f n) 0) (λ t. nowhere (up_to h (eqb-true _ _ t))) (λ g. at n (omega arith) h (eqb-false _ _ g))
      go (at p l h b) = at p (omega arith) h b

  -- where the first fault has the number 0, no place has a fault
  pub first_none_back : (n : ℕ) → (first_from f 0 n).number ≡ 0 → (j : ℕ) → j < n → f j ≡ 0
  first_none_back n e j l = go (found n)
    where
      go : Found n → f j ≡ 0
      go (nowhere h) = h j l
      go (at p q h b) = absurd (b (sym (ap (λ (r : Refusal). r.number) (first_at n p q h b)) ∙ e))
