-- The statements of specs/Programme hold: what is recorded of rows and packets is a recording of them, extracting it gives them, and so the rows
-- and packets that went in come out. Assumes nothing.
use mathlib.Core.Path.{◌≡◌, sym, ap, ap₂, subst, ◌∙◌}
use mathlib.Core.List.{List, map}
use native.Mathlib.Omega.{arith}
use Prim.Native.Nat.{ℕ}
use Rattle.system.specs.declared.walk.Walk.{Walk}
use Rattle.system.specs.Walk.{fresh_of}
use Rattle.words.specs.Bytes.{words_of}
use Rattle.line.specs.Samples.{Packets}
use Rattle.recording.specs.Play.{play}
use Rattle.recording.specs.Recording.{lines_of}
use Rattle.recording.specs.Programme.{Recorded, extract_all, row_of, RowsRecorded, RecordingExtracted, RowsBack}
use Rattle.recording.specs.Promise.{walk_behind}
use Rattle.recording.proofs.Lines.{at}
use Rattle.recording.proofs.Theorems.{fresh, blank, blank_measured, recording_reads_back}
use Rattle.recording.proofs.RecordedLines.{Told, recorded_told}
use Rattle.recording.proofs.ExtractedLines.{extracted_as, extracts_as_plays}

-- what is told of lines that were recorded from a fresh walk on
fresh_told : (system fall start : ℕ) (rows lines : List (List ℕ)) (ks : List Packets) → (fresh_of system start).number ≡ 0
    → Recorded fall (fresh_of system start).walk rows ks lines → Told fall (at system start 0 0 0 0) rows ks lines
fresh_told system fall start rows lines ks hf made =
    recorded_told (subst (λ (w : Walk). Recorded fall w rows ks lines) (fresh system start hf).walk made) (omega arith)

pub rows_recorded : RowsRecorded
rows_recorded system fall start rows lines ks hf made =
    let told = fresh_told system fall start rows lines ks hf made in
    (told.contents, told.recording, told.taken, told.carried, omega (arith, told.few), told.whole)

pub recording_extracted : RecordingExtracted
recording_extracted system fall start altered cs lines hf rec few whole =
    ap (λ (w : Walk). extract_all w lines) (fresh system start hf).walk
    ∙ extracts_as_plays lines (at system start 0 0 0 0) blank blank_measured whole
    ∙ ap (λ (w : Walk). extracted_as (play w blank (map words_of lines))) (sym (fresh system start hf).walk)
    ∙ ap extracted_as (recording_reads_back hf rec few blank blank_measured)

pub rows_back : RowsBack
rows_back system fall start rows lines ks hf made =
    let told = fresh_told system fall start rows lines ks hf made in (
      told.contents,
      told.recording,
      told.whole,
      λ altered copy rec whole.
          recording_extracted system fall start altered told.contents copy hf rec (omega (arith, told.few)) whole
          ∙ ap₂ (λ (back : List (List ℕ)) (carried : List Packets).
          record { rows = back; packets = carried; number = 0; place = 0; walk = walk_behind system start (lines_of system fall start told.contents) altered })
          (ap (map row_of) told.taken ∙ told.back) told.carried,
    )
