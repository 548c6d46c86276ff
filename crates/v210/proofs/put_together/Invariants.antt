-- `v210::put_together` meets its contract. The loop's invariant: the bytes of each word passed are in their places. Assumes nothing.
use Prim.Native.Nat.{ℕ, ◌*◌, ◌<◌, ◌≤◌}
use mathlib.Core.Path.{◌≡◌}
use mathlib.Core.List.{List}
use lib.ListN.{length, get_or}
use Rattle.v210.specs.Row.{row_length, row_words, row_byte}
use Rattle.v210.proofs.put_together.Given as goal

-- the bytes of k words are put
pub record Put (samples row : List ℕ) (k : ℕ) : Type 0 where
  pub within : k ≤ row_words
  pub long : length row ≡ row_length
  pub bytes : (j : ℕ) → j < 4 * k → get_or row j 0 ≡ row_byte samples j

abbrev pub invariant-loop-k : goal.invariant-loop-k
invariant-loop-k l = Put l.samples l.row l.k
