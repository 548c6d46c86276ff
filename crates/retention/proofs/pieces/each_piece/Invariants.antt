-- `retention::pieces::each_piece` ends: each turn takes some of what is left of the part. Assumes nothing.
use Rattle.retention.proofs.pieces.each_piece.Given as goal

abbrev pub decreases-loop-left : goal.decreases-loop-left
decreases-loop-left g l = l.left
