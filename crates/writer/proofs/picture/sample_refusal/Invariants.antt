-- `writer::picture::sample_refusal` meets its contract: no place below was outside. Assumes nothing.
use Rattle.std.proofs.Common.{◌≡◌, ℕ, ◌<◌}
use Rattle.writer.specs.Write.{outside_at}
use Rattle.writer.proofs.picture.sample_refusal.Given as goal

abbrev pub invariant-loop-place : goal.invariant-loop-place
invariant-loop-place g l = (j : ℕ) → j < l.place → outside_at (g.P.Picture.samples l.picture) j ≡ 0
