-- When a word has no fault where something is due, and what then is known of it. Assumes nothing.
use Prim.Native.Nat.{ℕ, ◌≤◌}
use mathlib.Core.Path.{◌≡◌, refl, sym, ap}
use mathlib.Core.Bool.{Bool, true, false, cond, ◌||◌}
use native.Mathlib.Omega.{arith}
use lib.Dec.{ltb, eqb}
use borrow.Author.Tests.{le-ltb, ltb-true, ltb-false, eq-eqb, eqb-true}
use Rattle.refusal.proofs.Cases.{by_test}
use Rattle.words.proofs.Passes.{not_reserved}
use Rattle.timing.specs.Code.{correction_of}
use Rattle.timing.specs.Report.{number_where}
use Rattle.timing.proofs.Laws.{over_is_5}
use Rattle.words.specs.Words.{least_sample, most_sample}
use Rattle.line.specs.declared.What.{What}
use Rattle.line.specs.declared.What.TheVariants.{Ones, Zeros, Fourth, Fill, Sample}
use Rattle.line.specs.Fault.{wrong_where, fault_where}

-- ---- no fault
pub ones_well : (w : ℕ) → 1020 ≤ w → w ≤ 1023 → fault_where Ones w ≡ 0
unfolding fault_where
ones_well w l h = simp (le-ltb _ _ h, le-ltb _ _ l)

pub zeros_well : (w : ℕ) → w ≤ 3 → fault_where Zeros w ≡ 0
unfolding fault_where
zeros_well w h =
    let ten : w ≤ 1023 = omega arith in
    simp (le-ltb _ _ ten, le-ltb _ _ h)

-- 5 is correction's own first refusal, so a fourth word's fault is its correction's number
pub fourth_fault : (fvh w : ℕ) → fault_where (Fourth fvh) w ≡ number_where fvh (correction_of w)
unfolding fault_where
fourth_fault fvh w =
    by_test (ltb 1023 w) (λ e. simp e (sym (ap (number_where fvh) (over_is_5 w (ltb-true _ _ e))))) (λ e. simp e)

pub fill_well : (word : ℕ) → word ≤ 1023 → fault_where (Fill word) word ≡ 0
unfolding fault_where
fill_well word h = simp (le-ltb _ _ h, eq-eqb word word refl)

pub sample_well : (w : ℕ) → least_sample ≤ w → w ≤ most_sample → fault_where Sample w ≡ 0
unfolding fault_where
sample_well w l h =
    let ten : w ≤ 1023 = omega arith in
    simp (le-ltb _ _ ten, le-ltb _ _ l, le-ltb _ _ h)

-- ---- what no fault tells
at_most_ten : (due : What) (w : ℕ) → fault_where due w ≡ 0 → (w ≤ 1023) × (wrong_where due w ≡ 0)
unfolding fault_where
at_most_ten due w e =
    by_test (ltb 1023 w) (λ t. absurd (never (rw t at e))) (λ t. (ltb-false _ _ t, rw t at e))
  where
    never : ◌≡◌ {A = ℕ} 5 0 → ⊥
    never q = omega arith

-- the number that a test brings is not there, so the test fails
silent : (t : Bool) (n : ℕ) → (n ≡ 0 → ⊥) → cond t n 0 ≡ 0 → t ≡ false
silent true n positive e = absurd (positive e)
silent false n positive e = refl

pub ones_told : (w : ℕ) → fault_where Ones w ≡ 0 → (1020 ≤ w) × (w ≤ 1023)
ones_told w e =
    let k = at_most_ten Ones w e in
    (ltb-false _ _ (silent (ltb w 1020) 6 (λ z. omega arith) k.1), k.0)

pub zeros_told : (w : ℕ) → fault_where Zeros w ≡ 0 → w ≤ 3
zeros_told w e = ltb-false _ _ (silent (ltb 3 w) 6 (λ z. omega arith) (at_most_ten Zeros w e).1)

pub fill_told : (word w : ℕ) → fault_where (Fill word) w ≡ 0 → w ≡ word
fill_told word w e =
    by_test (eqb w word) (λ t. eqb-true _ _ t) (λ t. absurd (never (rw t at (at_most_ten (Fill word) w e).1)))
  where
    never : ◌≡◌ {A = ℕ} 10 0 → ⊥
    never q = omega arith

pub sample_told : (w : ℕ) → fault_where Sample w ≡ 0 → (least_sample ≤ w) × (w ≤ most_sample)
sample_told w e =
    let t = silent (ltb w least_sample || ltb most_sample w) 11 (λ z. omega arith) (at_most_ten Sample w e).1 in
    not_reserved w t
