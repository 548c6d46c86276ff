-- One store more into a list that a loop fills from the front. Assumes nothing.
use Prim.Native.Nat.{ℕ, ◌+◌, ◌<◌}
use mathlib.Core.Path.{◌≡◌, ◌∙◌}
use mathlib.Core.List.{List}
use native.Mathlib.Omega.{arith}
use lib.ListN.{length, get_or, set}
use lib.Seq.{get_or-set_same, get_or-set_other}
use borrow.Author.Count.{below_more}

-- what stands below i is what f gives, and after the store what stands below i + 1
pub store_more : (f : ℕ → ℕ) (l : List ℕ) (i v : ℕ) → i < length l → ((j : ℕ) → j < i → get_or l j 0 ≡ f j) → v ≡ f i
    → (j : ℕ) → j < i + 1 → get_or (set l i v) j 0 ≡ f j
store_more f l i v h below e =
    below_more _ i (λ j lt. get_or-set_other l i j v 0 (λ q. omega arith) ∙ below j lt) (get_or-set_same l i v 0 h ∙ e)
