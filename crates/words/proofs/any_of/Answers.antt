-- `any_of` meets its contract: no word passed is larger than all of them or'ed. Assumes nothing.
use Rattle.std.proofs.Common.{ℕ, ◌≤◌, get_or}
use mathlib.Core.Path.{subst}
use borrow.Author.Count.{below_more}
use native.Mathlib.Nat.{le_trans}
use native.Mathlib.Omega.{arith}
use lib.Bits.{bit_or, or_add_and, and_le_r, or_comm}
use Rattle.words.proofs.any_of.Goals as goal

-- `|` is no less than either side
le_or_left : (a b : ℕ) → a ≤ bit_or a b
le_or_left a b = omega (arith, or_add_and a b, and_le_r a b)

le_or_right : (a b : ℕ) → b ≤ bit_or a b
le_or_right a b = subst (λ (x : ℕ). b ≤ x) (or_comm b a) (le_or_left b a)

pub loop-word-preserved : goal.loop-word-preserved
loop-word-preserved c =
    let w = get_or c.args.words.now c.loop-word.word-index 0 in
    below_more _ _ (λ k h. le_trans (c.loop-word.invariant k h) (le_or_right w c.loop-word.all)) (le_or_left w c.loop-word.all)
