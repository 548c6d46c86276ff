-- A long programme: recordings in a row, each confirmed, each following on the one before; and that they are one programme.
use Rattle.std.specs.Prelude.{ℕ, ◌≤◌, ◌≡◌, true, length, drop}
use mathlib.Core.List.{List, [], ◌∷◌, ◌++◌, map, flatten}
use Rattle.system.specs.Walk.{most_lines, fresh_of}
use Rattle.line.specs.Samples.{Content}
use Rattle.words.specs.Bytes.{words_of}
use Rattle.confirmation.specs.declared.Run.{Run}
use Rattle.confirmation.specs.Run.{header_length, header_system, header_start, begun_of, confirmed_of}
use Rattle.confirmation.specs.Totals.{follows_on}
use Rattle.recording.specs.Recording.{Recording, Line, lines_of, line_after_all, Image}
use Rattle.recording.specs.Confirmed.{Holds}
use Rattle.recording.specs.Programme.{Whole}

-- Files behind a run, in turn: each is confirmed, and its header follows on the run before.
pub data Row : Run → List (List ℕ) → Type 0 where
  done : {before : Run} → Row before []
  next : {before : Run} {rest : List (List ℕ)} (file : List ℕ)
      → (confirmed_of file).number ≡ 0
      → follows_on before (begun_of file) ≡ true
      → Row (confirmed_of file) rest
      → Row before (file ∷ rest)

-- the bytes behind the headers of files, in turn
abbrev pub behind_headers : List (List ℕ) → List ℕ
behind_headers files = flatten (map (drop header_length) files)

-- A recording follows on another where it starts with the line behind that one's last (`recording-follows`).
abbrev pub RecordingFollows : Type 0
RecordingFollows =
    (first second : List ℕ) (system fall start : ℕ) (altered : List ℕ) (cs : List Content) (lines : List (List ℕ)) → (fresh_of system start).number ≡ 0
    → Holds first system start lines [] → Recording system fall start cs (map words_of lines) altered → length cs ≤ most_lines
    → header_system second ≡ system → header_start second ≡ line_after_all system start (lines_of system fall start cs)
    → follows_on (confirmed_of first) (begun_of second) ≡ true

-- So recordings that were written one behind the other, each with its own fall line, are a row, of any number of files (`recordings-in-row`).
abbrev pub RecordingsInRow : Type 0
RecordingsInRow =
    (first second : List ℕ) (rest : List (List ℕ)) (system fall other start : ℕ) (altered later : List ℕ) (cs es : List Content) (lines more : List (List ℕ))
    → (fresh_of system start).number ≡ 0
    → Holds first system start lines [] → Recording system fall start cs (map words_of lines) altered → length cs ≤ most_lines
    → (fresh_of system (line_after_all system start (lines_of system fall start cs))).number ≡ 0
    → Holds second system (line_after_all system start (lines_of system fall start cs)) more []
    → Recording system other (line_after_all system start (lines_of system fall start cs)) es (map words_of more) later → length es ≤ most_lines
    → Row (confirmed_of second) rest
    → Row (confirmed_of first) (second ∷ rest)

-- Images in turn, each from a fresh walk at the line that the one before awaits: the first of them begins with this line. Told are all their
-- lines, and all as read.
pub data Successive (system : ℕ) : ℕ → List Line → List (List ℕ) → Type 0 where
  none_left : {line : ℕ} → Successive system line [] []
  image_then : {line : ℕ} {altered : List ℕ} {ls more : List Line} {reads others : List (List ℕ)}
      → Image system line 0 ls reads altered
      → Successive system (line_after_all system line ls) more others
      → Successive system line (ls ++ more) (reads ++ others)

-- A row of files is one programme (`row-is-one`): behind their headers they hold, in turn, lines with numbers that go on from the first one's,
-- damaged in at most one bit of each code. Each file is read with a fresh walk, so that V in its first field may fall as if nothing were before.
abbrev pub RowIsOne : Type 0
RowIsOne =
    (first : List ℕ) (rest : List (List ℕ)) → (confirmed_of first).number ≡ 0 → Row (confirmed_of first) rest
    → (lines : List (List ℕ)) × (behind_headers (first ∷ rest) ≡ flatten lines) × Whole (header_system first) lines
    × (ls : List Line) × Successive (header_system first) (header_start first) ls (map words_of lines)
