-- `station::listing::list_space` ends: each packet leaves fewer bytes. Assumes nothing.
use Rattle.std.proofs.Common.{length}
use Rattle.station.proofs.listing.list_space.Given as goal

abbrev pub decreases-loop-size : goal.decreases-loop-size
decreases-loop-size l = length l.rest
