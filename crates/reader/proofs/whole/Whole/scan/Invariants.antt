-- `reader::whole::Whole::scan` meets its contract: no offset passed has a fault, so the one at which the scan leaves, of a space or of a word,
-- is the lowest. Assumes nothing.
use Rattle.std.proofs.Common.{ℕ, ◌<◌, ◌≤◌, ◌≡◌, length}
use Rattle.line.specs.Fault.{fault_at}
use Rattle.reader.specs.Passes.{part_start}
use Rattle.reader.proofs.whole.Whole.scan.Given as goal

abbrev pub invariant-loop-offset : goal.invariant-loop-offset
invariant-loop-offset l =
    (l.from ≤ l.offset) × (l.to ≤ length l.self.words.now) × ((k : ℕ) → k < l.offset → fault_at l.self.due l.self.words.now k ≡ 0)

abbrev pub invariant-loop-part : goal.invariant-loop-part
invariant-loop-part l = (k : ℕ) → k < part_start l.self.due.system l.part → fault_at l.self.due l.self.words.now k ≡ 0

abbrev pub invariant-scan : goal.invariant-scan
invariant-scan l = Unit

abbrev pub decreases-scan : goal.decreases-scan
decreases-scan l = 0
