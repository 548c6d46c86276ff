use Rattle.std.proofs.Common.{length}
use Rattle.host.proofs.Host.write_all.Given as goal

abbrev pub decreases-loop-rest : goal.decreases-loop-rest
decreases-loop-rest l = length l.rest
