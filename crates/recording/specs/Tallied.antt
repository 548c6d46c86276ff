-- Document 02, L9: whatever is read from a fresh walk on, the walk's tally is what its sentence says of the lines that were accepted.
use Rattle.std.specs.Prelude.{ℕ, ◌≡◌, List, [], ◌∷◌, cond, eqb, drop}
use Rattle.intake.specs.Arrival.{all_pieces}
use Rattle.timing.specs.Report.{repairs_of}
use Rattle.system.specs.declared.walk.Walk.{Walk}
use Rattle.system.specs.declared.walk.Judgement.{Judgement}
use Rattle.system.specs.Walk.{fresh_of, line_bytes}
use Rattle.system.specs.Tally.{Passed, Tallied}
use Rattle.line.specs.Samples.{Samples}
use Rattle.line.specs.Fit.{Measured}
use Rattle.reader.specs.Judge.{judged_of}
use Rattle.bytewise.specs.Bytes.{judged_bytes}
use Rattle.confirmation.specs.Run.{header_length, header_system, header_start, confirmed_of}
use Rattle.recording.specs.Play.{play}

-- the lines that are accepted in turn up to the first refusal: their numbers, and what their reports tell
unfoldable pub history : (Walk → List ℕ → Judgement) → Walk → List (List ℕ) → List Passed
history judge w [] = []
history judge w (line ∷ rest) =
    cond (eqb (judge w line).number 0)
    (record { line = w.line; repairs = repairs_of (judge w line).report } ∷ history judge (judge w line).walk rest) []

-- Lines as words, read to their end or up to a refusal (`reading-tallied`).
abbrev pub ReadingTallied : Type 0
ReadingTallied =
    (system start : ℕ) (reads : List (List ℕ)) (buffers : Samples) → (fresh_of system start).number ≡ 0 → Measured buffers
    → Tallied system (history judged_of (fresh_of system start).walk reads) (play (fresh_of system start).walk buffers reads).walk

-- The confirming program, of whatever bytes (`run-tallied`).
abbrev pub RunTallied : Type 0
RunTallied =
    (bytes : List ℕ) → (fresh_of (header_system bytes) (header_start bytes)).number ≡ 0
    → Tallied (header_system bytes)
    (history judged_bytes (fresh_of (header_system bytes) (header_start bytes)).walk
    (all_pieces (line_bytes (fresh_of (header_system bytes) (header_start bytes)).walk) (drop header_length bytes)))
    (confirmed_of bytes).walk
