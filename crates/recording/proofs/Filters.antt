-- The statements of specs/Filters hold: what recording writes are recordings of the programme's rows, extracting runs as confirming does, and so
-- the programme comes back. Assumes nothing.
use Prim.Native.Nat.{ℕ, suc, zero, ◌+◌, ◌*◌, ◌<◌, ◌≤◌}
use mathlib.Core.Path.{◌≡◌, refl, sym, ap, ap₂, subst, ◌∙◌}
use mathlib.Core.List.{List, [], ◌∷◌, ◌++◌, map, flatten, append-nil}
use mathlib.Core.List.Memᴰ
use mathlib.Core.List.{Memᴰ}
use mathlib.Core.Bool.{false, cond}
use mathlib.Core.Logic.{⊎_elim}
use native.Mathlib.Omega.{arith}
use lib.Dec.{eqb}
use lib.ListN.{length, get_or, take, drop, length-take, length-drop}
use lib.Seq.{get_or-take, get_or-drop, drop_at}
use borrow.Author.Tests.{eqb-true, eqb-false, eq-eqb, ne_eqb, le-ltb}
use Rattle.refusal.proofs.Cases.{by_test}
use Rattle.intake.specs.Arrival.{pieces, all_pieces}
use Rattle.intake.proofs.Pieces.{pieces_of_whole, pieces_joined}
use Rattle.system.specs.declared.walk.Walk.{Walk}
use Rattle.system.specs.declared.walk.Fresh.{Fresh}
use Rattle.system.specs.Figures.{line_length, system_of}
use Rattle.system.specs.Walk.{most_lines, written_refusal, fresh_of, line_bytes}
use Rattle.system.specs.Judgement.{no_packets}
use Rattle.system.proofs.Laws.{fresh_accepted, accepted_written, judgement_well}
use Rattle.line.specs.Samples.{Packets, Content}
use Rattle.system.specs.declared.walk.Judgement.{Judgement}
use Rattle.words.specs.Bytes.{words_of, bytes_of}
use Rattle.words.proofs.Bytes.{bytes_length, word_at_is, words_back}
use Rattle.v210.specs.Row.{row_length}
use Rattle.confirmation.specs.declared.Run.{Run}
use Rattle.confirmation.specs.Run.{header_length, header_word, header_system, header_start, begun_of, judged_next, through, body_of, confirmed_of}
use Rattle.confirmation.proofs.Bodies.{line_has_bytes}
use Rattle.confirmation.proofs.Theorems.{header_more}
use Rattle.programme.specs.declared.extractor.Extraction.{Extraction}
use Rattle.reader.specs.Judge.{line_judged}
use Rattle.programme.specs.Extract.{gives_row, extracted_of, row_of_line}
use Rattle.programme.specs.Extraction.{extracted_run, extraction_of, stepped, run_after, rows_given, lines_in, extracted_programme}
use Rattle.programme.specs.Tape.{begun_tape, recorded_programme}
use Rattle.programme.proofs.ExtractTheorems.{extract_as_judged}
use Rattle.recording.specs.Recording.{Recording, unaltered}
use Rattle.recording.specs.Confirmed.{Holds}
use Rattle.recording.specs.Programme.{Recorded, Extracted, extract_all, Whole}
use Rattle.recording.specs.Filters.{Recordings, Copies, AllBytes, file_of, ProgrammeTaken, ProgrammeRecorded, ExtractingConfirms, WrittenCopies, ProgrammeBack}
use Rattle.recording.specs.Filters as filters
use Rattle.recording.proofs.Theorems.{fresh}
use Rattle.recording.proofs.Programme.{rows_recorded, recording_extracted, rows_back}
use Rattle.recording.proofs.TapedLines.{Sound, rows_taped}
use Rattle.recording.proofs.TakenRows.{rows_on}

-- ---- extracting runs as confirming does
step_judged : (r : Run) (piece : List ℕ) → r.number ≡ 0 → (stepped r piece).run ≡ judged_next r piece
unfolding extraction_of judged_next
step_judged r piece z =
    simp (eq-eqb _ _ z)
    (ap (λ (j : Judgement). record { system = r.system; start = r.start; walk = j.walk; number = j.number; place = j.place })
    (extract_as_judged r.walk piece))

step_ended : (r : Run) (piece : List ℕ) → (r.number ≡ 0 → ⊥) → stepped r piece ≡ record { run = r; gives = false; packets = no_packets }
unfolding extraction_of
step_ended r piece n = simp (ne_eqb _ _ n)

ended_run : (r : Run) (ps : List (List ℕ)) → (r.number ≡ 0 → ⊥) → run_after r ps ≡ r
unfolding run_after
ended_run r [] n = refl
ended_run r (piece ∷ ps) n = ap (λ (e : Extraction). run_after e.run ps) (step_ended r piece n) ∙ ended_run r ps n

run_through : (ps : List (List ℕ)) (r : Run) → run_after r ps ≡ through r ps
unfolding run_after through
run_through [] r = refl
run_through (piece ∷ ps) r =
    by_test (eqb r.number 0)
    (λ z. simp z (ap (λ (s : Run). run_after s ps) (step_judged r piece (eqb-true _ _ z)) ∙ run_through ps (judged_next r piece)))
    (λ n. simp n (ended_run r (piece ∷ ps) (eqb-false _ _ n)))

pub extracting_confirms : ExtractingConfirms
unfolding confirmed_of body_of
extracting_confirms bytes = run_through (lines_in bytes) (begun_of bytes)

-- ---- the rows of a run that goes on are those of its walk
module _ (system start : ℕ) where
  abbrev going : Walk → Run
  going w = record { system = system; start = start; walk = w; number = 0; place = 0 }

  no_rows : (r : Run) (ps : List (List ℕ)) → (r.number ≡ 0 → ⊥) → rows_given r ps ≡ []
  unfolding rows_given
  no_rows r [] n = refl
  no_rows r (piece ∷ ps) n =
      ap (λ (e : Extraction). cond e.gives (row_of_line r.walk piece ∷ rows_given e.run ps) (rows_given e.run ps)) (step_ended r piece n)
      ∙ no_rows r ps n

  goes_on : (w : Walk) (line : List ℕ) → (extracted_of w line row_length).number ≡ 0
      → extracted_run (going w) line row_length ≡ going (extracted_of w line row_length).walk
  unfolding line_judged
  goes_on w line z =
      let same = extract_as_judged w line in
      let e = same ∙ judgement_well _ w _ _ _ (ap (λ (j : Judgement). j.number) (sym same) ∙ z) in
      ap (λ (j : Judgement). record { system = system; start = start; walk = j.walk; number = j.number; place = j.place }) e
      ∙ sym (ap (λ (j : Judgement). going j.walk) e)

  rows_as_extracted : (lines : List (List ℕ)) (w : Walk) → rows_given (going w) lines ≡ (extract_all w lines).rows
  unfolding rows_given extract_all extraction_of
  rows_as_extracted [] w = refl
  rows_as_extracted (line ∷ lines) w =
      let row = row_of_line w line in
      let takes = gives_row w line in
      by_test (eqb (extracted_of w line row_length).number 0)
      (λ t.
      simp t
      (ap (λ (r : Run). cond takes (row ∷ rows_given r lines) (rows_given r lines)) (goes_on w line (eqb-true _ _ t))
      ∙ ap (λ (rows : List (List ℕ)). cond takes (row ∷ rows) rows) (rows_as_extracted lines (extracted_of w line row_length).walk)))
      (λ f. simp f (no_rows (extracted_run (going w) line row_length) lines (eqb-false _ _ f)))

-- ---- the rows of a file that holds lines
begun_going : (file : List ℕ) {system start : ℕ} → header_system file ≡ system → header_start file ≡ start → (fresh_of system start).number ≡ 0
    → begun_of file ≡ going system start (fresh_of system start).walk
unfolding begun_of
begun_going file {system} {start} system_is start_is hf =
    let f = fresh system start hf in
    rw (system_is, start_is, fresh_accepted system start f.a_system f.a_line)

file_rows : {file : List ℕ} {system start : ℕ} {lines : List (List ℕ)} → (fresh_of system start).number ≡ 0 → Holds file system start lines []
    → extracted_programme file ≡ (extract_all (fresh_of system start).walk lines).rows
unfolding extracted_programme
file_rows {file} {system} {start} {lines} hf holds =
    let w = (fresh_of system start).walk in
    let r = begun_going file holds.system_is holds.start_is hf in
    let same : line_bytes w ≡ 2 * line_length (system_of system) = ap (λ (v : Walk). line_bytes v) (fresh system start hf).walk in
    let cut : all_pieces (line_bytes w) (drop header_length file) ≡ lines =
    ap (all_pieces (line_bytes w)) (holds.behind ∙ append-nil (flatten lines))
    ∙ pieces_of_whole (line_bytes w) lines (line_has_bytes w) (λ line at. holds.whole line at ∙ sym same) in
    ap (λ (x : Run). rows_given x (all_pieces (line_bytes x.walk) (drop header_length file))) r
    ∙ ap (rows_given (going system start w)) cut ∙ rows_as_extracted system start lines w

-- ---- recording: a programme's pieces are of bytes
byte_pieces : (n k : ℕ) (bytes : List ℕ) → AllBytes bytes → (row : List ℕ) → Memᴰ row (pieces k n bytes) → AllBytes row
unfolding pieces
byte_pieces n zero bytes all row at = absurd (Memᴰ.not-nil at)
byte_pieces n (suc k) [] all row at = absurd (Memᴰ.not-nil at)
byte_pieces n (suc k) (b ∷ bytes) all row at =
    let whole = b ∷ bytes in
    ⊎_elim
    (λ e i l.
    let m : i < length (take n whole) = subst (λ (x : List ℕ). i < length x) e l in
    subst (λ (x : List ℕ). get_or x i 0 < 256) (sym e) (in_front i m))
    (λ there. byte_pieces n k (drop n whole) (λ i l. behind i l) row there) (Memᴰ.cases_cons at)
  where
    in_front : (i : ℕ) → i < length (take n (b ∷ bytes)) → get_or (take n (b ∷ bytes)) i 0 < 256
    in_front i l = subst (λ (x : ℕ). x < 256) (sym (get_or-take n (b ∷ bytes) i 0 (omega (arith, length-take n (b ∷ bytes))))) (all i (omega (arith, length-take n (b ∷ bytes))))

    behind : (i : ℕ) → i < length (drop n (b ∷ bytes)) → get_or (drop n (b ∷ bytes)) i 0 < 256
    behind i l = subst (λ (x : ℕ). x < 256) (sym (get_or-drop n (b ∷ bytes) i 0)) (all (n + i) (omega (arith, length-drop n (b ∷ bytes))))

-- ---- a tape whose numbers are accepted begins with a fresh walk
record Begun (system start most fall : ℕ) : Type 0 where
  hf : (fresh_of system start).number ≡ 0
  walk : (begun_tape system start most fall).walk ≡ (fresh_of system start).walk
  number : (begun_tape system start most fall).number ≡ 0
  sound : Sound system fall (begun_tape system start most fall)

begun : (system start most fall : ℕ) → (written_refusal system start fall).number ≡ 0 → Begun system start most fall
unfolding begun_tape
begun system start most fall z =
    let named = accepted_written system start fall z in
    let f = fresh_accepted system start named.a_system named.a_line in
    record {
      hf = ap (λ (x : Fresh). x.number) f;
      walk = simp (eq-eqb _ _ z) (sym (ap (λ (x : Fresh). x.walk) f));
      number = z;
      sound = simp (eq-eqb _ _ z) (record { same = refl; same_fall = refl; a_fall = named.a_fall; a_system = named.a_system; a_line = named.a_line });
    }

pub programme_taken : ProgrammeTaken
unfolding recorded_programme
programme_taken system start most fall programme z good few =
    let b = begun system start most fall z in
    let t = begun_tape system start most fall in
    let w = b.walk ∙ (fresh system start b.hf).walk in
    let size : line_bytes t.walk ≡ 2 * line_length (system_of system) = ap (λ (v : Walk). line_bytes v) w in
    rows_on system fall (line_bytes t.walk) size (all_pieces row_length programme) 0 t good (omega arith)
    (record {
      sound = b.sound;
      number = b.number;
      repairs = ap (λ (v : Walk). v.repairs) w;
      tally = ap (λ (v : Walk). v.tally) w;
      lines = omega (arith, ap (λ (v : Walk). v.lines) w);
    })

pub programme_recorded : ProgrammeRecorded
unfolding recorded_programme
programme_recorded system start most fall programme z bytes end =
    let b = begun system start most fall z in
    let t = begun_tape system start most fall in
    let split = rows_taped system fall (line_bytes t.walk) (all_pieces row_length programme) t b.sound (byte_pieces row_length (length programme) programme bytes) end in
    let lines = (recorded_programme system start most fall programme).lines in
    let made = subst (λ (v : Walk). Recorded fall v split.here split.packets lines) b.walk
    (subst (λ (n : ℕ). Recorded n t.walk split.here split.packets lines) b.sound.same_fall split.recorded) in
    subst (Recordings system fall _) (sym split.all) (filters.one start split.here _ split.packets b.hf made split.behind)

-- ---- and back
-- a copy of a recording that took rows gives those rows
copy_rows : {system fall start : ℕ} {altered : List ℕ} (rows lines copy : List (List ℕ)) (ks : List Packets) (cs : List Content) (file : List ℕ)
    → (fresh_of system start).number ≡ 0
    → Recorded fall (fresh_of system start).walk rows ks lines → Recording system fall start cs (map words_of lines) (unaltered cs)
    → Recording system fall start cs (map words_of copy) altered → length cs ≤ most_lines → Holds file system start copy []
    → extracted_programme file ≡ rows
copy_rows {system} {fall} {start} {altered} rows lines copy ks cs file hf made same damaged few holds =
    let told = rows_back system fall start rows lines ks hf made in
    let back = ap (λ (x : Extracted). x.rows) (told.3 (unaltered told.0) lines told.1 told.2) in
    let once = ap (λ (x : Extracted). x.rows) (recording_extracted system fall start (unaltered cs) cs lines hf same few told.2) in
    let again = ap (λ (x : Extracted). x.rows) (recording_extracted system fall start altered cs copy hf damaged few holds.whole) in
    file_rows hf holds ∙ again ∙ sym once ∙ back

copies_back : {system fall : ℕ} {recordings : List (ℕ × List (List ℕ))} {rows files : List (List ℕ)} → Recordings system fall recordings rows
    → Copies system fall recordings files → flatten (map extracted_programme files) ≡ rows
unfolding flatten
copies_back filters.Recordings.none filters.Copies.none = refl
copies_back (filters.Recordings.one start rows lines ks hf made rest) (filters.Copies.one {copy = copy} cs file same damaged few holds more) =
    ap₂ (λ (a b : List (List ℕ)). a ++ b) (copy_rows rows lines copy ks cs file hf made same damaged few holds) (copies_back rest more)

-- ---- what was written are copies of themselves
module _ (system start : ℕ) (body : List ℕ) where
  abbrev header : List ℕ
  header = bytes_of (system ∷ start ∷ [])

  header_size : length header ≡ header_length
  header_size = bytes_length (system ∷ start ∷ [])

  word_of : (k : ℕ) → k < 2 → header_word (header ++ body) (2 * k) ≡ get_or (system ∷ start ∷ []) k 0
  word_of k l =
      header_more header body (2 * k) header_size (omega arith)
      ∙ simp (le-ltb (length header) header_length (omega (arith, header_size)))
      (sym (word_at_is header 2 header_size k l) ∙ ap (λ (words : List ℕ). get_or words k 0) (words_back (system ∷ start ∷ [])))

written_holds : (system start : ℕ) (lines : List (List ℕ)) → Whole system lines → Holds (file_of system (start, lines)) system start lines []
written_holds system start lines whole =
    let body = flatten lines in
    record {
      system_is = word_of system start body 0 (omega arith);
      start_is = word_of system start body 1 (omega arith);
      behind = drop_at (header system start body) body header_length (header_size system start body) ∙ sym (append-nil body);
      whole = whole;
    }

copies_of : {system fall : ℕ} {recordings : List (ℕ × List (List ℕ))} {rows : List (List ℕ)} → Recordings system fall recordings rows
    → Copies system fall recordings (map (file_of system) recordings)
copies_of filters.Recordings.none = filters.Copies.none
copies_of {system} {fall} (filters.Recordings.one start rows lines ks hf made rest) =
    let told = rows_recorded system fall start rows lines ks hf made in
    filters.Copies.one told.0 (file_of system (start, lines)) told.1 told.1 told.4 (written_holds system start lines told.5) (copies_of rest)

pub written_copies : WrittenCopies
written_copies system fall recordings rows made = copies_of made

pub programme_back : ProgrammeBack
programme_back system start most fall programme files hf bytes end copies =
    ap flatten (copies_back (programme_recorded system start most fall programme hf bytes end) copies)
    ∙ pieces_joined row_length programme (omega arith)
