-- A row of recordings is one programme: a confirmed file holds an image, and the next begins with the line that it awaits. Assumes nothing.
use Prim.Native.Nat.{ℕ}
use mathlib.Core.Path.{◌≡◌, refl, sym, ap, subst, ◌∙◌}
use mathlib.Core.Bool.{true}
use mathlib.Core.List.Memᴰ
use mathlib.Core.List.{List, [], ◌∷◌, ◌++◌, map, flatten, append-nil, append_assoc, map-append}
use mathlib.Core.Logic.{⊎_elim}
use lib.Dec.{eqb}
use lib.ListN.{drop}
use borrow.Author.Tests.{eqb-true, eq-eqb}
use Rattle.refusal.proofs.Cases.{and_true}
use Rattle.words.specs.Bytes.{words_of}
use Rattle.confirmation.specs.declared.Run.{Run}
use Rattle.confirmation.specs.Run.{header_length, header_system, header_start, begun_of, confirmed_of}
use Rattle.confirmation.specs.Totals.{follows_on}
use Rattle.recording.specs.Recording.{Line, lines_of, line_after_all, Image}
use Rattle.recording.specs.Programme.{Whole}
use Rattle.recording.specs.Row as row
use Rattle.recording.specs.Row.{Row, behind_headers, Successive, RecordingFollows, RecordingsInRow, RowIsOne}
use Rattle.recording.proofs.Promise.{confirms, confirms_image, confirms_nothing_else}

flatten_both : (one two : List (List ℕ)) → flatten (one ++ two) ≡ flatten one ++ flatten two
unfolding flatten
flatten_both [] two = refl
flatten_both (line ∷ one) two = ap (λ (bytes : List ℕ). line ++ bytes) (flatten_both one two) ∙ sym (append_assoc line _ _)

-- bytes that are lines of images in turn, from a line on
record Lines (system line : ℕ) (bytes : List ℕ) : Type 0 where
  lines : List (List ℕ)
  all : bytes ≡ flatten lines
  whole : Whole system lines
  written : List Line
  images : Successive system line written (map words_of lines)

none : (system line : ℕ) → Lines system line []
unfolding flatten
none system line =
    record { lines = []; all = refl; whole = λ one at. absurd (Memᴰ.not-nil at); written = []; images = row.none_left }

joined : {system line : ℕ} {k : List ℕ} {ls : List Line} {bytes more : List ℕ} (lines : List (List ℕ)) → bytes ≡ flatten lines
    → Whole system lines → Image system line 0 ls (map words_of lines) k → Lines system (line_after_all system line ls) more
    → Lines system line (bytes ++ more)
joined {system} {line} {k} {ls} {bytes} {more} lines all whole image rest =
    record {
      lines = lines ++ rest.lines;
      all = ap (λ (b : List ℕ). b ++ more) all ∙ ap (λ (b : List ℕ). flatten lines ++ b) rest.all ∙ sym (flatten_both lines rest.lines);
      whole = λ one at. ⊎_elim (whole one) (rest.whole one) (Memᴰ.append_cases lines at);
      written = ls ++ rest.written;
      images =
          subst (Successive system line (ls ++ rest.written)) (sym (map-append words_of lines rest.lines))
          (row.image_then image rest.images);
    }

-- a confirmed file, and lines behind it from the line that it awaits
behind : (file more : List ℕ) → (confirmed_of file).number ≡ 0 → Lines (confirmed_of file).system (confirmed_of file).walk.line more
    → Lines (header_system file) (header_start file) (drop header_length file ++ more)
behind file more z rest =
    let found = confirms_nothing_else file z in
    let lines = found.1 in
    let holds = found.2 in
    let run = confirms_image file (header_system file) (header_start file) found.4 found.3 lines found.0 holds found.5 found.6 in
    joined lines (holds.behind ∙ append-nil _) holds.whole found.5
    (subst (λ (r : Run). Lines r.system r.walk.line more) run rest)

-- ---- the whole row
row_lines : {before : Run} {files : List (List ℕ)} → Row before files → Lines before.system before.walk.line (behind_headers files)
unfolding flatten follows_on begun_of
row_lines {before} row.done = none before.system before.walk.line
row_lines {before} (row.next {rest = rest} file z follows more) =
    let both-tests = (and_true (eqb before.number 0) _ follows).1 in
    let tests = and_true (eqb (header_system file) before.system) _ both-tests in
    subst (λ (s : ℕ). Lines s before.walk.line (behind_headers (file ∷ rest))) (eqb-true _ _ tests.0)
    (subst (λ (n : ℕ). Lines (header_system file) n (behind_headers (file ∷ rest))) (eqb-true _ _ tests.1)
    (behind file (behind_headers rest) z (row_lines more)))

pub recording_follows : RecordingFollows
unfolding follows_on begun_of
recording_follows first second system fall start altered cs lines hf holds recording few system_is start_is =
    subst (λ (r : Run). follows_on r (begun_of second) ≡ true) (sym (confirms first system fall start altered cs lines hf holds recording few))
    (simp (eq-eqb (header_system second) system system_is, eq-eqb (header_start second) (line_after_all system start (lines_of system fall start cs)) start_is))

pub recordings_in_row : RecordingsInRow
recordings_in_row first second rest system fall other start altered later cs es lines more hf holds recording few hf' holds' recording' few' files =
    row.next second
    (ap (λ (r : Run). r.number) (confirms second system other (line_after_all system start (lines_of system fall start cs)) later es more hf' holds' recording' few'))
    (recording_follows first second system fall start altered cs lines hf holds recording few holds'.system_is holds'.start_is)
    files

pub row_is_one : RowIsOne
unfolding flatten
row_is_one first rest z files =
    let found = behind first (behind_headers rest) z (row_lines files) in
    (found.lines, found.all, found.whole, found.written, found.images)
