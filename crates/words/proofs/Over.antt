-- Numbers over their most: what the fault says both ways, the lowest place as a loop finds it, and that the search keeps to its table.
-- Assumes nothing.
use Prim.Native.Nat.{ℕ, ◌<◌, ◌≤◌}
use Rattle.std.specs.Prelude.{Bool, false, None, List, length, get_or}
use Rattle.std.specs.List.{position, position_or_len}
use Rattle.std.proofs.lemmas.List.Sums.{fails_before_first}
use Rattle.std.proofs.lemmas.Grind.{common_steps}
use mathlib.Core.Path.{◌≡◌, sym, ap, ◌∙◌}
use native.Mathlib.Omega.{arith}
use lib.Dec.{ltb}
use borrow.Author.Tests.{lt-ltb, le-ltb, ltb-true, ltb-false}
use Rattle.refusal.specs.Answer.{none, first_from}
use Rattle.refusal.specs.Numbers.{over_ten}
use Rattle.refusal.specs.Table.{Decides, Keeps}
use Rattle.refusal.proofs.Cases.{by_test}
use Rattle.refusal.proofs.Firsts.{first_none, first_at, first_none_back}
use Rattle.refusal.proofs.Tables.{numbers_when, keeps_lowest, decides_when, decides_lowest}
use Rattle.words.specs.Words.{fault_over, most_refusals}

-- what no word of a list passes
pub nowhere : (p : ℕ → Bool) (words : List ℕ) → position p words ≡ None → (k : ℕ) → k < length words → p (get_or words k 0) ≡ false
nowhere p words e k l =
    let all : length words ≤ position_or_len p words = grind (arith, common_steps) in
    fails_before_first p words k 0 (omega arith)

module _ (most n : ℕ) where
  pub within_no_fault : n ≤ most → fault_over most n ≡ 0
  within_no_fault h = simp (le-ltb _ _ h)

  pub over_fault : most < n → fault_over most n ≡ over_ten
  over_fault h = simp (lt-ltb _ _ h)

  pub no_fault_within : fault_over most n ≡ 0 → n ≤ most
  no_fault_within e =
      by_test (ltb most n) (λ t. absurd (let z : 5 ≡ 0 = sym (simp t) ∙ e in omega arith)) (λ t. ltb-false _ _ t)

module _ (most : ℕ) (number : ℕ → ℕ) (n : ℕ) where
  -- the lowest place at which a number is over its most, as a loop finds it
  pub lowest_over : (p : ℕ) → p < n → ((j : ℕ) → j < p → number j ≤ most) → most < number p
      → record { number = over_ten; place = p } ≡ first_from (λ place. fault_over most (number place)) 0 n
  lowest_over p l before over =
      let five = over_fault most (number p) over in
      sym (first_at (λ place. fault_over most (number place)) n p l (λ j q. within_no_fault most (number j) (before j q))
      (λ z. not_zero (fault_over most (number p)) five z)
      ∙ ap (λ (m : ℕ). record { number = m; place = p }) five)
    where
      not_zero : (m : ℕ) → m ≡ over_ten → m ≡ 0 → ⊥
      not_zero m e f = omega arith

  pub none_over : ((j : ℕ) → j < n → number j ≤ most) → none ≡ first_from (λ place. fault_over most (number place)) 0 n
  none_over within = sym (first_none (λ place. fault_over most (number place)) n (λ j l. within_no_fault most (number j) (within j l)))

  -- and where nothing was found
  pub all_within : (first_from (λ place. fault_over most (number place)) 0 n).number ≡ 0 → (j : ℕ) → j < n → number j ≤ most
  all_within e j l = no_fault_within most (number j) (first_none_back (λ place. fault_over most (number place)) n e j l)

  -- 5 at the lowest place whose number is over its most, and that leaves one answer.
  pub most_exact : Keeps (most_refusals most number n) (first_from (λ place. fault_over most (number place)) 0 n)
  most_exact =
      keeps_lowest _ (λ place. fault_over most (number place)) n
      (λ place l. numbers_when (ltb most (number place)) (most < number place) over_ten place (ltb-true _ _) (lt-ltb _ _) (λ z. omega arith))

  pub most_decides : Decides (most_refusals most number n)
  most_decides = decides_lowest n _ (λ place. decides_when (most < number place) over_ten place)
