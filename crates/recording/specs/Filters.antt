-- Programmes through the filters: what recording writes of a programme's bytes, what extracting gives of files, and that the programme comes
-- back.
use Rattle.std.specs.Prelude.{ℕ, ◌<◌, ◌≤◌, ◌≡◌, length, get_or}
use mathlib.Core.List.{List, [], ◌∷◌, ◌++◌, map, flatten, Memᴰ}
use Rattle.intake.specs.Arrival.{all_pieces}
use Rattle.system.specs.Walk.{most_lines, written_refusal, fresh_of}
use Rattle.system.specs.declared.due.Due.{Due}
use Rattle.words.specs.Words.{least_sample, most_sample}
use Rattle.line.specs.Samples.{Packets, Content, active_length}
use Rattle.words.specs.Bytes.{words_of, bytes_of}
use Rattle.writer.specs.Write.{sample_refusal}
use Rattle.v210.specs.Row.{row_length, packed_of, spare_refusal}
use Rattle.confirmation.specs.Run.{begun_of, confirmed_of}
use Rattle.programme.specs.Record.{row_samples}
use Rattle.programme.specs.Tape.{recorded_programme}
use Rattle.programme.specs.Extraction.{lines_in, run_after, extracted_programme}
use Rattle.recording.specs.Recording.{Recording, unaltered}
use Rattle.recording.specs.Confirmed.{Holds}
use Rattle.recording.specs.Programme.{Recorded}

-- Recordings one behind the other, each its start line and its lines, and the rows that they took in turn, with whatever packets.
pub data Recordings (system fall : ℕ) : List (ℕ × List (List ℕ)) → List (List ℕ) → Type 0 where
  none : Recordings system fall [] []
  one : {more : List (ℕ × List (List ℕ))} {rest : List (List ℕ)} (start : ℕ) (rows lines : List (List ℕ)) (ks : List Packets)
      → (fresh_of system start).number ≡ 0
      → Recorded fall (fresh_of system start).walk rows ks lines
      → Recordings system fall more rest
      → Recordings system fall ((start, lines) ∷ more) (rows ++ rest)

-- every number of a list is a byte
abbrev pub AllBytes : List ℕ → Type 0
AllBytes bytes = (i : ℕ) → i < length bytes → get_or bytes i 0 < 256

-- what recording writes of a programme: the recording that begins with the start line, and those behind it
abbrev pub written : ℕ → ℕ → ℕ → ℕ → List ℕ → List (ℕ × List (List ℕ))
written system start most fall programme =
    (start, (recorded_programme system start most fall programme).lines) ∷ (recorded_programme system start most fall programme).more

-- a row that can be recorded: of the right length, spare bits 0, and no sample that the writer refuses
pub record GoodRow (row : List ℕ) : Type 0 where
  pub long : length row ≡ row_length
  pub spare : (spare_refusal row).number ≡ 0
  pub samples : (d : Due) → (sample_refusal d (row_samples row)).number ≡ 0

-- The row of every active part whose samples are 4 to 1019 is one (`good-row-met`).
abbrev pub GoodRowMet : Type 0
GoodRowMet =
    (part : List ℕ) → length part ≡ active_length
    → ((place : ℕ) → place < active_length → (least_sample ≤ get_or part place 0) × (get_or part place 0 ≤ most_sample))
    → GoodRow (packed_of part)

-- Of good rows nothing is refused: of up to 15,998, since at most 625 lines are written for each (`programme-taken`).
abbrev pub ProgrammeTaken : Type 0
ProgrammeTaken =
    (system start most fall : ℕ) (programme : List ℕ) → (written_refusal system start fall).number ≡ 0
    → ((row : List ℕ) → Memᴰ row (all_pieces row_length programme) → GoodRow row) → length (all_pieces row_length programme) < 15999
    → (recorded_programme system start most fall programme).tape.number ≡ 0

-- Where nothing was refused, what is written are recordings of exactly the programme's rows (`programme-recorded`).
abbrev pub ProgrammeRecorded : Type 0
ProgrammeRecorded =
    (system start most fall : ℕ) (programme : List ℕ) → (written_refusal system start fall).number ≡ 0 → AllBytes programme
    → (recorded_programme system start most fall programme).tape.number ≡ 0
    → Recordings system fall (written system start most fall programme) (all_pieces row_length programme)

-- Extracting goes as confirming does: the run is the confirming program's, whatever the bytes (`extracting-confirms`).
abbrev pub ExtractingConfirms : Type 0
ExtractingConfirms = (bytes : List ℕ) → run_after (begun_of bytes) (lines_in bytes) ≡ confirmed_of bytes

-- Files that are, in turn, copies of recordings: each of the same samples, damaged in at most one bit of each code.
pub data Copies (system fall : ℕ) : List (ℕ × List (List ℕ)) → List (List ℕ) → Type 0 where
  none : Copies system fall [] []
  one : {start : ℕ} {altered : List ℕ} {lines copy : List (List ℕ)} {more : List (ℕ × List (List ℕ))} {files : List (List ℕ)} (cs : List Content) (file : List ℕ)
      → Recording system fall start cs (map words_of lines) (unaltered cs)
      → Recording system fall start cs (map words_of copy) altered
      → length cs ≤ most_lines
      → Holds file system start copy []
      → Copies system fall more files
      → Copies system fall ((start, lines) ∷ more) (file ∷ files)

-- the bytes of a recording of this system: its header, and its lines
abbrev pub file_of : ℕ → (ℕ × List (List ℕ)) → List ℕ
file_of system recording = bytes_of (system ∷ recording.0 ∷ []) ++ flatten recording.1

-- Recordings as they were written are such copies of themselves, so that what is asked for can be met (`written-copies`).
abbrev pub WrittenCopies : Type 0
WrittenCopies =
    (system fall : ℕ) (recordings : List (ℕ × List (List ℕ))) (rows : List (List ℕ)) → Recordings system fall recordings rows
    → Copies system fall recordings (map (file_of system) recordings)

-- So the programme that went in comes out, byte for byte, of what was written and of every copy of it (`programme-back`).
abbrev pub ProgrammeBack : Type 0
ProgrammeBack =
    (system start most fall : ℕ) (programme : List ℕ) (files : List (List ℕ)) → (written_refusal system start fall).number ≡ 0 → AllBytes programme
    → (recorded_programme system start most fall programme).tape.number ≡ 0
    → Copies system fall (written system start most fall programme) files
    → flatten (flatten (map extracted_programme files)) ≡ programme
