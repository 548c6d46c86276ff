-- `station::recorder::end_packets` meets its contract: where nothing is left, the first turn says so. Assumes nothing.
use Rattle.std.proofs.Common.{◌≡◌}
use Rattle.station.specs.declared.entries.Next.TheVariants.{Nothing}
use Rattle.station.proofs.recorder.end_packets.Given as goal

abbrev pub invariant-loop : goal.invariant-loop
invariant-loop l = l.initial.at.entries.next ≡ Nothing → (l.at ≡ l.initial.at) × (l.counter ≡ 0)
