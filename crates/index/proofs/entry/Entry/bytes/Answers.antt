-- `index::entry::Entry::bytes` meets its contract: each byte by one quotient. Assumes nothing.
use mathlib.Core.Path.{ap, ap₂, ◌∙◌}
use mathlib.Core.List.{◌++◌}
use lib.ListN.{take}
use Rattle.index.specs.Entries.{entry_bytes}
use Rattle.index.proofs.Numbers.{two_bytes, four_bytes}
use Rattle.index.proofs.entry.Entry.bytes.Goals as goal

pub returns : goal.returns
unfolding entry_bytes
returns c =
    let ordinal = c.copy_from_slice.ensures.after ∙ c.to_le_bytes.ensures in
    let repairs = c.copy_from_slice-2.ensures.after ∙ ap (take 2) c.to_le_bytes-2.ensures in
    rw (ordinal, repairs) (ap₂ ◌++◌ (four_bytes c.args.self.ordinal) (two_bytes c.args.self.repairs))
