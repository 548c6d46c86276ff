-- `reader::samples::copy_samples` meets its contract. The loop's invariant: each group passed has its samples in their places. Assumes nothing.
use Prim.Native.Nat.{ℕ, ◌+◌, ◌-◌, ◌*◌, ◌<◌, ◌≤◌}
use mathlib.Core.Path.{◌≡◌}
use mathlib.Core.List.{List}
use lib.ListN.{length, get_or}
use Rattle.line.specs.Samples.{y_length, c_length}
use Rattle.reader.proofs.samples.copy_samples.Given as goal

-- the samples of k groups are taken
pub record Taken (words : List ℕ) (active : ℕ) (y cb cr : List ℕ) (k : ℕ) : Type 0 where
  pub within : k ≤ c_length
  pub y_length_is : length y ≡ y_length
  pub cb_length_is : length cb ≡ c_length
  pub cr_length_is : length cr ≡ c_length
  pub ys : (j : ℕ) → j < 2 * k → get_or y j 0 ≡ get_or words (active + (2 * j + 1)) 0
  pub cbs : (j : ℕ) → j < k → get_or cb j 0 ≡ get_or words (active + 4 * j) 0
  pub crs : (j : ℕ) → j < k → get_or cr j 0 ≡ get_or words (active + (4 * j + 2)) 0

abbrev pub invariant-loop-k : goal.invariant-loop-k
invariant-loop-k l = Taken l.words l.active l.y l.cb l.cr l.k

abbrev pub decreases-loop-k : goal.decreases-loop-k
decreases-loop-k l = c_length - l.k
