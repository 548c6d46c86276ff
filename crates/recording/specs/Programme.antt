-- Programmes through recordings: what recording line by line leaves, what extracting line by line gives, and that rows and packets come back.
use Rattle.std.specs.Prelude.{ℕ, ◌*◌, ◌<◌, ◌≤◌, ◌≡◌, Bool, cond, eqb, length, get_or, take, drop}
use mathlib.Core.List.{List, [], ◌∷◌, map, Memᴰ}
use Rattle.system.specs.declared.walk.Walk.{Walk}
use Rattle.system.specs.Figures.{line_length, active_offset, system_of}
use Rattle.system.specs.Walk.{most_lines, fresh_of}
use Rattle.line.specs.Fault.{between_offset}
use Rattle.line.specs.Samples.{Samples, Packets, Content, active_length, sample_at}
use Rattle.words.specs.Words.{tab}
use Rattle.system.specs.declared.walk.Judgement.{Judgement}
use Rattle.words.specs.Bytes.{words_of}
use Rattle.v210.specs.Row.{row_length, packed_of}
use Rattle.programme.specs.Record.{takes_row, row_samples, recorded_of, line_bytes_after}
use Rattle.programme.specs.Extract.{extracted_of, gives_row, row_of_line}
use Rattle.recording.specs.Recording.{Recording, unaltered, lines_of, pictures_of, packets_in}
use Rattle.recording.specs.Promise.{walk_behind}

-- Lines in turn from a walk on, with one fall line, each what an accepted call of `record` leaves in a buffer. Told are the rows that were taken, the packets of
-- every line, and the lines as bytes. A row is a list of bytes.
pub data Recorded (fall : ℕ) : Walk → List (List ℕ) → List Packets → List (List ℕ) → Type 0 where
  end : {w : Walk} → Recorded fall w [] [] []
  next : {w : Walk} {rows lines : List (List ℕ)} {ks : List Packets} (row : List ℕ) (k : Packets) (buffer : List ℕ)
      → ((i : ℕ) → i < length row → get_or row i 0 < 256)
      → (recorded_of fall w row k (length buffer)).number ≡ 0
      → Recorded fall (recorded_of fall w row k (length buffer)).walk rows ks lines
      → Recorded fall w (cond (takes_row fall w) (row ∷ rows) rows) (k ∷ ks) (line_bytes_after fall w row k buffer ∷ lines)

-- what comes of extracting lines up to the first refusal: the rows of the V = 0 lines, the packets of every line, and the last answer's number,
-- place and walk
pub record Extracted : Type 0 where
  pub rows : List (List ℕ)
  pub packets : List Packets
  pub number : ℕ
  pub place : ℕ
  pub walk : Walk

abbrev pub row_then : Bool → List ℕ → Packets → Extracted → Extracted
row_then takes row k rest =
    record {
      rows = cond takes (row ∷ rest.rows) rest.rows;
      packets = k ∷ rest.packets;
      number = rest.number;
      place = rest.place;
      walk = rest.walk;
    }

abbrev pub refused_by : Judgement → Extracted
refused_by j = record { rows = []; packets = []; number = j.number; place = j.place; walk = j.walk }

-- the packets of a line's bytes: of each space the first words, as many as extracting tells
abbrev pub packets_of_line : Walk → List ℕ → Packets
packets_of_line w bytes =
    record {
      between = take (extracted_of w bytes row_length).packets.between (drop between_offset (words_of bytes));
      active = take (extracted_of w bytes row_length).packets.active (drop (active_offset (system_of w.system)) (words_of bytes));
    }

unfoldable pub extract_all : Walk → List (List ℕ) → Extracted
extract_all w [] = record { rows = []; packets = []; number = 0; place = 0; walk = w }
extract_all w (bytes ∷ rest) =
    cond (eqb (extracted_of w bytes row_length).number 0)
    (row_then (gives_row w bytes) (row_of_line w bytes) (packets_of_line w bytes) (extract_all (extracted_of w bytes row_length).walk rest))
    (refused_by (extracted_of w bytes row_length))

-- the row of a line's samples
abbrev pub row_of : Samples → List ℕ
row_of p = packed_of (tab active_length (sample_at p))

-- each of the lines has the bytes of a line
abbrev pub Whole : ℕ → List (List ℕ) → Type 0
Whole system lines = (line : List ℕ) → Memᴰ line lines → length line ≡ 2 * line_length (system_of system)

-- What is recorded of rows and packets is a recording of their samples and those packets (`rows-recorded`).
abbrev pub RowsRecorded : Type 0
RowsRecorded =
    (system fall start : ℕ) (rows lines : List (List ℕ)) (ks : List Packets) → (fresh_of system start).number ≡ 0
    → Recorded fall (fresh_of system start).walk rows ks lines
    → (cs : List Content) × Recording system fall start cs (map words_of lines) (unaltered cs) × (pictures_of (lines_of system fall start cs) ≡ map row_samples rows)
    × (packets_in (lines_of system fall start cs) ≡ ks) × (length cs ≤ most_lines) × Whole system lines

-- Extracting a recording, damaged in at most one bit of each code, gives the row of every V = 0 line and the packets of every line
-- (`recording-extracted`).
abbrev pub RecordingExtracted : Type 0
RecordingExtracted =
    (system fall start : ℕ) (altered : List ℕ) (cs : List Content) (lines : List (List ℕ)) → (fresh_of system start).number ≡ 0
    → Recording system fall start cs (map words_of lines) altered → length cs ≤ most_lines → Whole system lines
    → ◌≡◌ {A = Extracted} (extract_all (fresh_of system start).walk lines)
    (record {
      rows = map row_of (pictures_of (lines_of system fall start cs));
      packets = packets_in (lines_of system fall start cs);
      number = 0;
      place = 0;
      walk = walk_behind system start (lines_of system fall start cs) altered;
    })

-- So the rows and the packets that went in come out, byte for byte, of the recording and of every copy of it that is damaged in at most one bit
-- of each code (`rows_back`).
abbrev pub RowsBack : Type 0
RowsBack =
    (system fall start : ℕ) (rows lines : List (List ℕ)) (ks : List Packets) → (fresh_of system start).number ≡ 0
    → Recorded fall (fresh_of system start).walk rows ks lines
    → (cs : List Content) × Recording system fall start cs (map words_of lines) (unaltered cs) × Whole system lines
    × ((altered : List ℕ) (copy : List (List ℕ)) → Recording system fall start cs (map words_of copy) altered → Whole system copy
    → ◌≡◌ {A = Extracted} (extract_all (fresh_of system start).walk copy)
    (record { rows = rows; packets = ks; number = 0; place = 0; walk = walk_behind system start (lines_of system fall start cs) altered }))
