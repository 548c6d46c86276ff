-- When a run is refused, in order: the table that the whole answer keeps to.
use Rattle.std.specs.Prelude.{ℕ, List, [], ◌∷◌, drop}
use Rattle.refusal.specs.Table.{Row, no_rows, ◌before◌}
use Rattle.intake.specs.Arrival.{all_pieces}
use Rattle.system.specs.Refusals.{named_refusals}
use Rattle.bytewise.specs.Refusals.{bytes_refusals}
use Rattle.confirmation.specs.declared.Run.{Run}
use Rattle.confirmation.specs.Run.{header_length, header_system, header_start, begun_of, judged_next}
use Rattle.system.specs.Walk.{line_bytes}

-- "It stops at the first refusal": each piece's own table, at the walk that the pieces before it leave
abbrev pub run_refusals : Run → List (List ℕ) → Row
run_refusals r [] = no_rows
run_refusals r (piece ∷ rest) = bytes_refusals r.walk piece before run_refusals (judged_next r piece) rest

-- 1 and 2 of the header, and then those of the lines behind it, of which the last may be short
abbrev pub confirm_refusals : List ℕ → Row
confirm_refusals bytes =
    named_refusals (header_system bytes) (header_start bytes)
    before run_refusals (begun_of bytes) (all_pieces (line_bytes (begun_of bytes).walk) (drop header_length bytes))
