-- The lines of each system on which F differs from that of the line before, by their numbers. Assumes nothing.
use Rattle.std.proofs.Common.{◌≡◌, ℕ, ◌-◌, ◌<◌, ◌≤◌, Bool, true, false, ◌||◌, eqb, leb, sym, refl, ap, ◌∙◌, subst, arith, ne_eqb, eqb-true, le-leb, leb-false, leb-true}
use mathlib.Core.Bool.{xor}
use borrow.Author.Tests.{lt-leb, eqb-false}
use Rattle.refusal.proofs.Cases.{by_test}
use Rattle.system.specs.declared.System.{System}
use Rattle.system.specs.declared.System.TheVariants.{Lines525, Lines625}
use Rattle.system.specs.Figures.{line_count, f_of, line_before, turns_field}

-- F of a line and of the one before, as the walk compares them
abbrev differs : System → ℕ → Bool
differs s line = xor (f_of s line) (f_of s (line_before s line))

behind_first : (s : System) (line : ℕ) → 1 < line → line_before s line ≡ line - 1
behind_first s line l = simp (ne_eqb line 1 (λ e. omega arith))

-- where F of both is the same it does not
alike : (s : System) (line : ℕ) (f : Bool) → 1 < line → f_of s line ≡ f → f_of s (line - 1) ≡ f → differs s line ≡ false
unfolding xor
alike s line true l here before = rw (here, ap (f_of s) (behind_first s line l) ∙ before)
alike s line false l here before = rw (here, ap (f_of s) (behind_first s line l) ∙ before)

-- a line with such a number
there : (s : System) (a b line n : ℕ) → eqb line n ≡ true → differs s n ≡ (eqb n a || eqb n b) → differs s line ≡ (eqb line a || eqb line b)
there s a b line n is holds = subst (λ (k : ℕ). differs s k ≡ (eqb k a || eqb k b)) (sym (eqb-true line n is)) holds

-- ---- 525
low_525 : (n : ℕ) → 1 ≤ n → n ≤ 3 → f_of Lines525 n ≡ true
unfolding f_of
low_525 n l h = simp (lt-leb 266 n (omega arith), le-leb 1 n l, le-leb n 3 h)

mid_525 : (n : ℕ) → 4 ≤ n → n ≤ 265 → f_of Lines525 n ≡ false
unfolding f_of
mid_525 n l h = simp (lt-leb 266 n (omega arith), le-leb 1 n (omega arith), lt-leb n 3 (omega arith))

high_525 : (n : ℕ) → 266 ≤ n → n ≤ 525 → f_of Lines525 n ≡ true
unfolding f_of
high_525 n l h = simp (le-leb 266 n l, le-leb n 525 h)

module _ (line : ℕ) (low : 1 ≤ line) (high : line ≤ 525) where
  in_525 : differs Lines525 line ≡ (eqb line 4 || eqb line 266)
  unfolding f_of xor
  in_525 =
      by_test (eqb line 1) (λ one. there Lines525 4 266 line 1 one refl) (λ not-one.
      let past = eqb-false line 1 not-one in
      by_test (leb line 3)
      (λ t. let l = leb-true line 3 t in
      alike Lines525 line true (omega arith) (low_525 line low l) (low_525 (line - 1) (omega arith) (omega arith)) ∙ neither (λ e. omega arith) (λ e. omega arith))
      (λ f. let l = leb-false line 3 f in
      by_test (eqb line 4) (λ four. there Lines525 4 266 line 4 four refl) (λ not-four.
      by_test (leb line 265)
      (λ t. let h = leb-true line 265 t in let n = eqb-false line 4 not-four in
      alike Lines525 line false (omega arith) (mid_525 line (omega arith) h) (mid_525 (line - 1) (omega arith) (omega arith)) ∙ neither (λ e. omega arith) (λ e. omega arith))
      (λ g. let h = leb-false line 265 g in
      by_test (eqb line 266) (λ is. there Lines525 4 266 line 266 is refl)
      (λ other. let n = eqb-false line 266 other in
      alike Lines525 line true (omega arith) (high_525 line (omega arith) high) (high_525 (line - 1) (omega arith) (omega arith)) ∙ neither (λ e. omega arith) (λ e. omega arith))))))
    where
      neither : (line ≡ 4 → ⊥) → (line ≡ 266 → ⊥) → false ≡ (eqb line 4 || eqb line 266)
      neither a b = simp (ne_eqb line 4 a, ne_eqb line 266 b)

-- ---- 625
low_625 : (n : ℕ) → n ≤ 312 → f_of Lines625 n ≡ false
unfolding f_of
low_625 n h = simp (lt-leb 313 n (omega arith))

high_625 : (n : ℕ) → 313 ≤ n → n ≤ 625 → f_of Lines625 n ≡ true
unfolding f_of
high_625 n l h = simp (le-leb 313 n l, le-leb n 625 h)

module _ (line : ℕ) (low : 1 ≤ line) (high : line ≤ 625) where
  in_625 : differs Lines625 line ≡ (eqb line 1 || eqb line 313)
  unfolding f_of xor
  in_625 =
      by_test (eqb line 1) (λ one. there Lines625 1 313 line 1 one refl) (λ not-one.
      let past = eqb-false line 1 not-one in
      by_test (leb line 312)
      (λ t. let h = leb-true line 312 t in
      alike Lines625 line false (omega arith) (low_625 line h) (low_625 (line - 1) (omega arith)) ∙ neither past (λ e. omega arith))
      (λ f. let l = leb-false line 312 f in
      by_test (eqb line 313) (λ is. there Lines625 1 313 line 313 is refl)
      (λ other. let n = eqb-false line 313 other in
      alike Lines625 line true (omega arith) (high_625 line (omega arith) high) (high_625 (line - 1) (omega arith) (omega arith)) ∙ neither past n)))
    where
      neither : (line ≡ 1 → ⊥) → (line ≡ 313 → ⊥) → false ≡ (eqb line 1 || eqb line 313)
      neither a b = simp (ne_eqb line 1 a, ne_eqb line 313 b)

-- ---- for whatever number: one that is no line's is none of them
apart : (s : System) (a b line : ℕ) → (1 ≤ line → line ≤ line_count s → differs s line ≡ (eqb line a || eqb line b))
    → (1 ≤ a) × (a ≤ line_count s) → (1 ≤ b) × (b ≤ line_count s) → turns_field s line ≡ (eqb line a || eqb line b)
unfolding turns_field
apart s a b line within (low-a, high-a) (low-b, high-b) =
    by_test (leb 1 line)
    (λ l. by_test (leb line (line_count s))
    (λ h. simp (l, h) (within (leb-true 1 line l) (leb-true line (line_count s) h)))
    (λ h. let past = leb-false line (line_count s) h in simp (l, h, ne_eqb line a (λ e. omega arith), ne_eqb line b (λ e. omega arith))))
    (λ l. let none = leb-false 1 line l in simp (l, ne_eqb line a (λ e. omega arith), ne_eqb line b (λ e. omega arith)))

pub turns_525 : (line : ℕ) → turns_field Lines525 line ≡ (eqb line 4 || eqb line 266)
turns_525 line = apart Lines525 4 266 line (in_525 line) (omega arith, omega arith) (omega arith, omega arith)

pub turns_625 : (line : ℕ) → turns_field Lines625 line ≡ (eqb line 1 || eqb line 313)
turns_625 line = apart Lines625 1 313 line (in_625 line) (omega arith, omega arith) (omega arith, omega arith)
