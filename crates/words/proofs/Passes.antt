-- What the loops of a quick pass keep: all is well so far, and two words that are compared as one number. Assumes nothing.
use mathlib.Core.Path.{◌≡◌, refl, sym, ap, ◌∙◌}
use Prim.Native.Nat.{ℕ, ◌+◌, ◌*◌, ◌<◌, ◌≤◌}
use native.Mathlib.Omega.{arith}
use mathlib.Core.Bool.{Bool, true, false, not, ◌&&◌, ◌||◌}
use Rattle.std.specs.Prelude.{◌↔◌}
use mathlib.Core.Logic.{◌⊎◌, inl, inr, ⊎_elim}
use lib.Dec.{ltb}
use borrow.Author.Tests.{lt-ltb, le-ltb, ltb-true, ltb-false}
use borrow.Author.Count.{below_more}
use Rattle.refusal.proofs.Cases.{not_true, and_true, or_neither, or_either, or_left, or_right}
use Rattle.words.specs.Words.{least_sample, most_sample}

-- A pass that is well so far, and one test more: what the tests so far tell of each place below k, and this one of k.
pub still_well : (P : ℕ → Type 0) (well test : Bool) (k : ℕ) → (well ≡ true → (j : ℕ) → j < k → P j) → (test ≡ true → P k)
    → (well && test) ≡ true → (j : ℕ) → j < k + 1 → P j
still_well P well test k so_far here e =
    let both = and_true well test e in
    below_more P k (so_far both.0) (here both.1)

-- And the tests so far tell all of it: they are true exactly where each place below k is well.
pub still_exactly : (P : ℕ → Type 0) (well test : Bool) (k : ℕ) → ((well ≡ true) ↔ ((j : ℕ) → j < k → P j)) → ((test ≡ true) ↔ P k)
    → (((well && test) ≡ true) ↔ ((j : ℕ) → j < k + 1 → P j))
still_exactly P well test k so_far here = (
  still_well P well test k so_far.0 here.0,
  λ all. both well test (so_far.1 (λ j l. all j (omega arith))) (here.1 (all k (omega arith))),
)
  where
    both : (a b : Bool) → a ≡ true → b ≡ true → (a && b) ≡ true
    both a b e f = rw (e, f) refl

-- the two words of a number
pub halves : (a b c d : ℕ) → a < 65536 → c < 65536 → a + 65536 * b ≡ c + 65536 * d → (a ≡ c) × (b ≡ d)
halves a b c d la lc e = (omega arith, omega arith)

-- a word that is not reserved is a sample
pub not_reserved : (w : ℕ) → (ltb w least_sample || ltb most_sample w) ≡ false → (least_sample ≤ w) × (w ≤ most_sample)
not_reserved w e =
    let both = or_neither (ltb w least_sample) (ltb most_sample w) e in
    (ltb-false _ _ both.0, ltb-false _ _ both.1)

-- and the test for it
pub sample_test : (w : ℕ) (t : Bool) → t ≡ (ltb w least_sample || ltb most_sample w) → (not t ≡ true) ↔ ((least_sample ≤ w) × (w ≤ most_sample))
sample_test w t e = (
  λ n. not_reserved w (sym e ∙ not_true t n),
  λ s. ap not (e ∙ neither (ltb w least_sample) (ltb most_sample w) (le-ltb _ _ s.0) (le-ltb _ _ s.1)),
)
  where
    neither : (a b : Bool) → a ≡ false → b ≡ false → (a || b) ≡ false
    neither a b e f = rw (e, f) refl

-- and a word is reserved exactly where the test says so
reserved : (w : ℕ) → (ltb w least_sample || ltb most_sample w) ≡ true → (w < least_sample) ⊎ (most_sample < w)
reserved w e = ⊎_elim (λ a. inl (ltb-true _ _ a)) (λ b. inr (ltb-true _ _ b)) (or_either (ltb w least_sample) _ e)

reserved_back : (w : ℕ) → (w < least_sample) ⊎ (most_sample < w) → (ltb w least_sample || ltb most_sample w) ≡ true
reserved_back w (inl a) = or_left _ _ (lt-ltb _ _ a)
reserved_back w (inr b) = or_right (ltb w least_sample) _ (lt-ltb _ _ b)

pub reserved_test : (w : ℕ) → ((ltb w least_sample || ltb most_sample w) ≡ true → (w < least_sample) ⊎ (most_sample < w))
    × ((w < least_sample) ⊎ (most_sample < w) → (ltb w least_sample || ltb most_sample w) ≡ true)
reserved_test w = (reserved w, reserved_back w)
