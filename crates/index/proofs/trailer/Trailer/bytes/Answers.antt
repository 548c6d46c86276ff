-- `index::trailer::Trailer::bytes` meets its contract: each byte by one quotient. Assumes nothing.
use mathlib.Core.Path.{ap₂, ◌∙◌}
use mathlib.Core.List.{◌++◌}
use Rattle.index.specs.Parts.{trailer_bytes}
use Rattle.index.proofs.Numbers.{four_bytes, eight_bytes}
use Rattle.index.proofs.trailer.Trailer.bytes.Goals as goal

pub returns : goal.returns
unfolding trailer_bytes
returns c =
    let t = c.args.self in
    let offset = c.copy_from_slice.ensures.after ∙ c.to_le_bytes.ensures in
    let entries = c.copy_from_slice-2.ensures.after ∙ c.to_le_bytes-2.ensures in
    let lines = c.copy_from_slice-3.ensures.after ∙ c.to_le_bytes-3.ensures in
    rw (offset, entries, lines) (ap₂ ◌++◌ (eight_bytes t.offset) (ap₂ ◌++◌ (four_bytes t.entries) (four_bytes t.lines)))
