-- A part of a list, as a slice has it: its length and its elements. Assumes nothing.
use Rattle.std.proofs.Common.{ℕ, ◌+◌, ◌-◌, ◌<◌, ◌≤◌, ◌≡◌, ◌∙◌, List, length, get_or}
use Rattle.std.specs.List.{slice_range}
use native.Mathlib.Omega.{arith}
use Rattle.std.proofs.lemmas.List.{get_or-drop, get_or-take, length-drop, length-take-le}
use Rattle.words.specs.Passes.{Sampled}

module _ (l : List ℕ) (from to : ℕ) where
  pub part_length : to ≤ length l → length (slice_range l from to) ≡ to - from
  part_length within = length-take-le (to - from) _ (rw (length-drop from l) (omega arith))

  pub part_at : (k : ℕ) → from + k < to → get_or (slice_range l from to) k 0 ≡ get_or l (from + k) 0
  part_at k h = get_or-take (to - from) _ k 0 (omega arith) ∙ get_or-drop from l k 0

  -- its samples are those of the list
  pub part_sampled : to ≤ length l → Sampled (λ k. get_or (slice_range l from to) k 0) (length (slice_range l from to))
      → Sampled (λ k. get_or l (from + k) 0) (to - from)
  part_sampled within all k h = rw (← part_at k (omega arith)) (all k (rw (part_length within) h))
