-- `v210::spare_refusal` meets its contract: no word passed had a spare bit set. Assumes nothing.
use Prim.Native.Nat.{ℕ, ◌<◌, ◌≤◌}
use Rattle.v210.specs.Row.{row_word, most_row_word}
use Rattle.v210.proofs.spare_refusal.Given as goal

abbrev pub invariant-loop-k : goal.invariant-loop-k
invariant-loop-k l = (j : ℕ) → j < l.k → row_word l.row j ≤ most_row_word
