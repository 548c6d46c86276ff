-- Extracting a programme, whole: the confirming program's run over a recording's bytes, and the row of each V = 0 line that it accepts. The
-- call `extract_next` is its step.
use Rattle.std.specs.Prelude.{ℕ, List, [], ◌∷◌, false, cond, ◌&&◌, drop, eqb}
use Rattle.intake.specs.Arrival.{all_pieces}
use Rattle.confirmation.specs.declared.Run.{Run}
use Rattle.confirmation.specs.Run.{header_length, begun_of}
use Rattle.system.specs.Walk.{line_bytes}
use Rattle.system.specs.Judgement.{no_packets}
use Rattle.v210.specs.Row.{row_length}
use Rattle.programme.specs.declared.extractor.Extraction.{Extraction}
use Rattle.programme.specs.Extract.{gives_row, extracted_of, row_of_line, row_after_line}

-- ---- the step

-- the run after these bytes as its next line, with a row of so many bytes
abbrev pub extracted_run : Run → List ℕ → ℕ → Run
extracted_run r bytes room =
    record {
      system = r.system;
      start = r.start;
      walk = (extracted_of r.walk bytes room).walk;
      number = (extracted_of r.walk bytes room).number;
      place = (extracted_of r.walk bytes room).place;
    }

-- that run, whether a row was given, and how many words are packets; a run that has ended stays as it is and gives none
unfoldable pub extraction_of : Run → List ℕ → ℕ → Extraction
extraction_of r bytes room =
    cond (eqb r.number 0)
    (record {
      run = extracted_run r bytes room;
      gives = eqb (extracted_of r.walk bytes room).number 0 && gives_row r.walk bytes;
      packets = (extracted_of r.walk bytes room).packets;
    })
    (record { run = r; gives = false; packets = no_packets })

-- the row afterwards
unfoldable pub row_after_next : Run → List ℕ → List ℕ → List ℕ
row_after_next r bytes before = cond (eqb r.number 0) (row_after_line r.walk bytes before) before

-- ---- the whole

abbrev pub stepped : Run → List ℕ → Extraction
stepped r piece = extraction_of r piece row_length

-- the run over pieces, each a line, of which the last may be short
unfoldable pub run_after : Run → List (List ℕ) → Run
run_after r [] = r
run_after r (piece ∷ rest) = run_after (stepped r piece).run rest

-- and the rows that they give
unfoldable pub rows_given : Run → List (List ℕ) → List (List ℕ)
rows_given r [] = []
rows_given r (piece ∷ rest) =
    cond (stepped r piece).gives (row_of_line r.walk piece ∷ rows_given (stepped r piece).run rest) (rows_given (stepped r piece).run rest)

-- the lines of a recording
abbrev pub lines_in : List ℕ → List (List ℕ)
lines_in bytes = all_pieces (line_bytes (begun_of bytes).walk) (drop header_length bytes)

-- the rows of a recording, up to its first refusal
unfoldable pub extracted_programme : List ℕ → List (List ℕ)
extracted_programme bytes = rows_given (begun_of bytes) (lines_in bytes)
