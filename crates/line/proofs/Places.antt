-- The samples of a line and the places of its active part. Assumes nothing.
use Prim.Native.Nat.{ℕ, ◌+◌, ◌*◌, ◌/◌, ◌%◌, ◌<◌}
use mathlib.Core.Path.{◌≡◌, sym, ap, ◌∙◌}
use mathlib.Core.List.{List}
use native.Mathlib.Omega.{arith}
use lib.Dec.{eqb}
use lib.ListN.{get_or}
use borrow.Author.Tests.{eq-eqb, ne_eqb, eqb-true, eqb-false}
use Rattle.refusal.proofs.Cases.{by_test}
use Rattle.system.specs.Figures.{active_offset}
use Rattle.system.specs.declared.due.Due.{Due}
use Rattle.line.specs.Samples.{Samples, active_length, y_length, c_length, sample_at, samples_from, samples_of, part_samples}
use Rattle.line.specs.Fit.{Measured}
use Rattle.words.proofs.Tabs.{length_tab, get_d_tab, is_tab}

-- where each kind of sample stands
pub sample_y : (p : Samples) (k : ℕ) → sample_at p (2 * k + 1) ≡ get_or p.y k 0
unfolding sample_at
sample_y p k =
    let odd : (2 * k + 1) % 2 ≡ 1 = omega arith in
    let half : (2 * k + 1) / 2 ≡ k = omega arith in
    simp (eq-eqb _ _ odd, half)

pub sample_cb : (p : Samples) (k : ℕ) → sample_at p (4 * k) ≡ get_or p.cb k 0
unfolding sample_at
sample_cb p k =
    let even : ((4 * k) % 2 ≡ 1 → ⊥) = λ q. omega arith in
    let first : (4 * k) % 4 ≡ 0 = omega arith in
    let quarter : (4 * k) / 4 ≡ k = omega arith in
    simp (ne_eqb _ _ even, eq-eqb _ _ first, quarter)

pub sample_cr : (p : Samples) (k : ℕ) → sample_at p (4 * k + 2) ≡ get_or p.cr k 0
unfolding sample_at
sample_cr p k =
    let even : ((4 * k + 2) % 2 ≡ 1 → ⊥) = λ q. omega arith in
    let third : ((4 * k + 2) % 4 ≡ 0 → ⊥) = λ q. omega arith in
    let quarter : (4 * k + 2) / 4 ≡ k = omega arith in
    simp (ne_eqb _ _ even, ne_eqb _ _ third, quarter)

-- Samples of the right counts are those of every line that has them in its active part.
pub samples_back : (d : Due) (p : Samples) (words : List ℕ) → Measured p
    → ((j : ℕ) → j < active_length → get_or words (active_offset d.system + j) 0 ≡ sample_at p j) → samples_of d words ≡ p
unfolding samples_of
samples_back d p words m at =
    let a = active_offset d.system in
    let ys = is_tab (λ k. get_or words (a + (2 * k + 1)) 0) y_length p.y m.y (λ k l. sym (at (2 * k + 1) (omega arith) ∙ sample_y p k)) in
    let cbs = is_tab (λ k. get_or words (a + 4 * k) 0) c_length p.cb m.cb (λ k l. sym (at (4 * k) (omega arith) ∙ sample_cb p k)) in
    let crs = is_tab (λ k. get_or words (a + (4 * k + 2)) 0) c_length p.cr m.cr (λ k l. sym (at (4 * k + 2) (omega arith) ∙ sample_cr p k)) in
    sym (λ i. record { y = ys i; cb = cbs i; cr = crs i })

-- The samples taken from a line have the right counts, and stand in their places.
module _ (active : ℕ) (words : List ℕ) where
  pub from_measured : Measured (samples_from active words)
  from_measured = record { y = length_tab _ y_length; cb = length_tab _ c_length; cr = length_tab _ c_length }

  pub from_in_place : (j : ℕ) → j < active_length → sample_at (samples_from active words) j ≡ get_or words (active + j) 0
  unfolding sample_at
  from_in_place j l =
      by_test (eqb (j % 2) 1)
      (λ t.
      let q = eqb-true (j % 2) 1 t in
      let back : 2 * (j / 2) + 1 ≡ j = omega arith in
      simp t (get_d_tab (λ k. get_or words (active + (2 * k + 1)) 0) y_length (j / 2) (omega arith) ∙ ap (λ (n : ℕ). get_or words (active + n) 0) back))
      (λ f.
      let q = eqb-false (j % 2) 1 f in
      by_test (eqb (j % 4) 0)
      (λ t.
      let r = eqb-true (j % 4) 0 t in
      let back : 4 * (j / 4) ≡ j = omega arith in
      simp (f, t) (get_d_tab (λ k. get_or words (active + 4 * k) 0) c_length (j / 4) (omega arith) ∙ ap (λ (n : ℕ). get_or words (active + n) 0) back))
      (λ g.
      let r = eqb-false (j % 4) 0 g in
      let back : 4 * (j / 4) + 2 ≡ j = third q r in
      simp (f, g) (get_d_tab (λ k. get_or words (active + (4 * k + 2)) 0) c_length (j / 4) (omega arith) ∙ ap (λ (n : ℕ). get_or words (active + n) 0) back)))
    where
      third : (j % 2 ≡ 1 → ⊥) → (j % 4 ≡ 0 → ⊥) → 4 * (j / 4) + 2 ≡ j
      third odd zero = omega arith

module _ (d : Due) (words : List ℕ) where
  pub taken_measured : Measured (samples_of d words)
  unfolding samples_of
  taken_measured = from_measured (active_offset d.system) words

  pub taken_in_place : (j : ℕ) → j < active_length → sample_at (samples_of d words) j ≡ get_or words (active_offset d.system + j) 0
  unfolding samples_of
  taken_in_place j l = from_in_place (active_offset d.system) words j l

-- an active part that a caller holds has its samples in place
module _ (part : List ℕ) where
  pub part_measured : Measured (part_samples part)
  part_measured = from_measured 0 part

  pub part_in_place : (j : ℕ) → j < active_length → sample_at (part_samples part) j ≡ get_or part j 0
  part_in_place j l = from_in_place 0 part j l ∙ ap (λ (n : ℕ). get_or part n 0) (omega arith)
