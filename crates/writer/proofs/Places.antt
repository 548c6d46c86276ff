-- The sample at a place of the active part, and what refuses a line's samples. Assumes nothing.
use Prim.Native.Nat.{ℕ, ◌+◌, ◌*◌, ◌/◌, ◌%◌, ◌<◌, ◌≤◌}
use mathlib.Core.Path.{◌≡◌, refl, sym, ap, ◌∙◌}
use mathlib.Core.Bool.{Bool, true, false, cond, ◌||◌}
use native.Mathlib.Omega.{arith}
use lib.Dec.{ltb, eqb}
use lib.ListN.{get_or}
use borrow.Author.Tests.{le-ltb}
use Rattle.refusal.specs.Numbers.{outside}
use Rattle.refusal.specs.Answer.{none, first_from}
use Rattle.refusal.proofs.Cases.{by_cond, by_test}
use Rattle.refusal.proofs.Firsts.{first_none, first_none_back}
use Rattle.system.specs.declared.due.Due.{Due}
use Rattle.words.specs.Words.{least_sample, most_sample}
use Rattle.line.specs.Samples.{Samples, active_length, y_length, c_length, sample_at}
use Rattle.line.specs.Fit.{Inside}
use Rattle.words.proofs.Passes.{not_reserved}
use Rattle.line.proofs.Places.{sample_y, sample_cb, sample_cr}
use Rattle.writer.specs.Write.{outside_at, sample_refusal}

-- ---- "CB, Y, CR, Y repeated": what stands in the buffers at k
module _ (p : Samples) (k place : ℕ) where
  pub cb_at : place ≡ 4 * k → get_or p.cb k 0 ≡ sample_at p place
  cb_at e = sym (sample_cb p k) ∙ ap (sample_at p) (sym e)

  pub cr_at : place ≡ 4 * k + 2 → get_or p.cr k 0 ≡ sample_at p place
  cr_at e = sym (sample_cr p k) ∙ ap (sample_at p) (sym e)

  pub y_at : place ≡ 2 * k + 1 → get_or p.y k 0 ≡ sample_at p place
  y_at e = sym (sample_y p k) ∙ ap (sample_at p) (sym e)

-- ---- what refuses the samples
module _ (p : Samples) where
  -- a sample is outside, or from 4 to 1019
  not_outside : (place : ℕ) → (least_sample ≤ sample_at p place) × (sample_at p place ≤ most_sample) → outside_at p place ≡ 0
  not_outside place (low, high) = simp (le-ltb _ _ low, le-ltb _ _ high)

  not_outside_told : (place : ℕ) → outside_at p place ≡ 0 → (least_sample ≤ sample_at p place) × (sample_at p place ≤ most_sample)
  not_outside_told place e = not_reserved (sample_at p place) (not_counted (ltb (sample_at p place) least_sample || ltb most_sample (sample_at p place)) e)
    where
      not_counted : (t : Bool) → cond t outside 0 ≡ 0 → t ≡ false
      not_counted true q = absurd (omega (arith, q))
      not_counted false q = refl

  -- what holds of each buffer's words holds of the sample at each place
  pub each_place : (P : ℕ → Type 0) → ((k : ℕ) → k < y_length → P (get_or p.y k 0))
      → ((k : ℕ) → k < c_length → P (get_or p.cb k 0)) → ((k : ℕ) → k < c_length → P (get_or p.cr k 0))
      → (place : ℕ) → place < active_length → P (sample_at p place)
  unfolding sample_at
  each_place P y cb cr place l =
      by_cond P (eqb (place % 2) 1) _ _ (λ e. y (place / 2) (omega arith))
      (λ e. by_cond P (eqb (place % 4) 0) _ _ (λ f. cb (place / 4) (omega arith)) (λ f. cr (place / 4) (omega arith)))

  module _ (d : Due) where
    pub samples_blank : d.v ≡ true → sample_refusal d p ≡ none
    unfolding sample_refusal
    samples_blank v = simp v

    pub samples_picture : d.v ≡ false → sample_refusal d p ≡ first_from (outside_at p) 0 active_length
    unfolding sample_refusal
    samples_picture v = simp v

    -- a line's samples are refused by nothing exactly when, where V is 0, each is from 4 to 1019
    pub inside_accepted : (d.v ≡ false → Inside p) → sample_refusal d p ≡ none
    inside_accepted range =
        by_test d.v samples_blank
        (λ v. samples_picture v ∙ first_none (outside_at p) active_length (λ place l. not_outside place (range v place l)))

    pub accepted_inside : (sample_refusal d p).number ≡ 0 → d.v ≡ false → Inside p
    accepted_inside e v place l =
        not_outside_told place (first_none_back (outside_at p) active_length (rw (samples_picture v) at e) place l)
