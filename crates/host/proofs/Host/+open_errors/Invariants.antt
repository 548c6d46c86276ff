use Rattle.host.proofs.Host.+open_errors.Given as goal

abbrev pub decreases-open_errors : goal.decreases-open_errors
decreases-open_errors l = l.lower
