-- `v210::take_apart` meets its contract. The loop's invariant: the samples of each word passed are in their places. Assumes nothing.
use Prim.Native.Nat.{ℕ, ◌*◌, ◌<◌, ◌≤◌}
use mathlib.Core.Path.{◌≡◌}
use mathlib.Core.List.{List}
use lib.ListN.{length, get_or}
use Rattle.line.specs.Samples.{active_length}
use Rattle.v210.specs.Row.{row_words, row_sample}
use Rattle.v210.proofs.take_apart.Given as goal

-- the samples of k words are taken
pub record Taken (row samples : List ℕ) (k : ℕ) : Type 0 where
  pub within : k ≤ row_words
  pub long : length samples ≡ active_length
  pub taken : (j : ℕ) → j < 3 * k → get_or samples j 0 ≡ row_sample row j

abbrev pub invariant-loop-k : goal.invariant-loop-k
invariant-loop-k l = Taken l.row l.samples l.k
