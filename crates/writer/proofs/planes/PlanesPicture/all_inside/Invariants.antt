-- `writer::planes::all_inside` meets its contract: every word passed lies between the lowest and the highest so far. Assumes nothing.
use Prim.Native.Nat.{ℕ, ◌+◌, ◌<◌, ◌≤◌}
use lib.ListN.{get_or}
use Rattle.line.specs.Samples.{Samples}
use Rattle.writer.proofs.planes.PlanesPicture.all_inside.Given as goal

-- a word lies between two others
abbrev pub Within : ℕ → ℕ → ℕ → Type 0
Within lowest highest w = (lowest ≤ w) × (w ≤ highest)

-- the four words of one turn lie between the lowest and the highest
pub record Turn (p : Samples) (half lowest highest k : ℕ) : Type 0 where
  pub left : Within lowest highest (get_or p.y k 0)
  pub right : Within lowest highest (get_or p.y (half + k) 0)
  pub blue : Within lowest highest (get_or p.cb k 0)
  pub red : Within lowest highest (get_or p.cr k 0)

abbrev pub invariant-loop-k : goal.invariant-loop-k
invariant-loop-k l = (j : ℕ) → j < l.k → Turn (record { y = l.self.y.now; cb = l.self.cb.now; cr = l.self.cr.now }) l.half l.lowest l.highest j
