-- What is recorded of rows and packets, line by line: each line is one that the writer leaves for the row's samples and the packets, with
-- nothing inverted, and each row that was taken comes back from its samples. Assumes nothing.
use Prim.Native.Nat.{ℕ, ◌+◌, ◌*◌, ◌<◌, ◌≤◌}
use mathlib.Core.Path.{◌≡◌, refl, sym, ap, ap₂, subst, ◌∙◌}
use mathlib.Core.List.{List, [], ◌∷◌, map}
use mathlib.Core.List.Memᴰ
use mathlib.Core.Bool.{true, cond, not}
use mathlib.Core.Logic.{⊎_elim}
use native.Mathlib.Omega.{arith}
use lib.ListN.{length, get_or}
use Rattle.refusal.proofs.Cases.{by_test}
use Rattle.timing.specs.Report.{clean_report}
use Rattle.system.specs.declared.walk.Walk.{Walk}
use Rattle.system.specs.Figures.{line_length, system_of, v_written}
use Rattle.system.specs.Walk.{most_lines, advanced_of}
use Rattle.system.proofs.Laws.{Good, accepted_good, judgement_number}
use Rattle.system.specs.declared.due.Due.{Due}
use Rattle.system.specs.Due.{due_with, due_of}
use Rattle.line.specs.Samples.{Samples, Packets, Content, line_of}
use Rattle.line.specs.Fit.{Fit}
use Rattle.line.specs.Damage.{Damaged}
use Rattle.line.proofs.Writing.{line_length_is}
use Rattle.line.proofs.Images.{undamaged}
use Rattle.writer.specs.Write.{write_refusal, line_after}
use Rattle.writer.proofs.Places.{accepted_inside}
use Rattle.writer.proofs.Theorems.{written_samples_fit, accepted_writes_the_line}
use Rattle.words.specs.Bytes.{words_of, bytes_of}
use Rattle.words.proofs.Bytes.{bytes_length, words_back}
use Rattle.programme.specs.Record.{takes_row, row_samples, row_content, record_refusal, recorded_of, line_bytes_of, line_bytes_after, Recordable}
use Rattle.line.proofs.Places.{part_measured}
use Rattle.v210.specs.Row.{unpacked_of}
use Rattle.programme.proofs.RecordTheorems.{record_accepted, recorded_walk}
use Rattle.recording.specs.Recording.{Recording, end, next, unaltered, lines_of, pictures_of, packets_in}
use Rattle.recording.specs.Programme.{Recorded, row_of, Whole, end as no_line, next as one_line}
use Rattle.recording.proofs.Rows.{row_of_samples}

-- What is told of lines that were recorded of rows and packets, from a walk on.
pub record Told (fall : ℕ) (w : Walk) (rows : List (List ℕ)) (ks : List Packets) (lines : List (List ℕ)) : Type 0 where
  pub contents : List Content
  pub recording : Recording w.system fall w.line contents (map words_of lines) (unaltered contents)
  pub taken : pictures_of (lines_of w.system fall w.line contents) ≡ map row_samples rows
  pub carried : packets_in (lines_of w.system fall w.line contents) ≡ ks
  pub few : w.lines + length contents ≤ most_lines
  pub whole : Whole w.system lines
  pub back : map row_of (map row_samples rows) ≡ rows

-- ---- one line that is accepted
module _ (fall : ℕ) (w : Walk) (row : List ℕ) (k : Packets) (buffer : List ℕ) (accepted : (recorded_of fall w row k (length buffer)).number ≡ 0) where
  abbrev due : Due
  due = due_of (system_of w.system) w.line fall

  none_refused : (record_refusal fall w row k (length buffer)).number ≡ 0
  unfolding recorded_of
  none_refused = sym (judgement_number _ w _ clean_report _) ∙ accepted

  fit_to_record : Recordable fall w row k (length buffer)
  fit_to_record = record_accepted fall w row k (length buffer) none_refused

  good : Good w
  good = accepted_good w fit_to_record.walk

  pub walk_after : (recorded_of fall w row k (length buffer)).walk ≡ advanced_of w due clean_report
  walk_after = (recorded_walk fall w row k buffer none_refused).0

  -- the line that is left
  pub line_left : line_bytes_after fall w row k buffer ≡ bytes_of (line_of due (row_content row k))
  unfolding line_bytes_of
  line_left = (recorded_walk fall w row k buffer none_refused).1

  words_left : words_of (line_bytes_after fall w row k buffer) ≡ line_of due (row_content row k)
  words_left = ap words_of line_left ∙ words_back (line_of due (row_content row k))

  words_length : length (line_of due (row_content row k)) ≡ line_length (system_of w.system)
  unfolding due_of due_with
  words_length = line_length_is due (row_content row k)

  bytes_left : length (line_bytes_after fall w row k buffer) ≡ 2 * line_length (system_of w.system)
  bytes_left = ap length line_left ∙ bytes_length (line_of due (row_content row k)) ∙ ap (λ (n : ℕ). 2 * n) words_length

  -- the writer takes the samples and the packets
  fits : Fit due (row_content row k)
  unfolding takes_row
  fits =
      record {
        lengths = part_measured (unpacked_of row);
        range = λ v. accepted_inside (row_samples row) due (fit_to_record.samples (ap not v)) v;
        packets = fit_to_record.packets;
      }

  written : (write_refusal w.system w.line fall (row_content row k) (length (line_of due (row_content row k)))).number ≡ 0
  written =
      (written_samples_fit w.system w.line fall (row_content row k) _).1
      (record { a_system = good.system; a_line = good.line; a_fall = fit_to_record.falls; words = words_length; fit = fits })

  -- and leaves that line
  as_written : Damaged due (line_after w.system w.line fall (row_content row k) (line_of due (row_content row k)))
      (words_of (line_bytes_after fall w row k buffer)) 0 0
  as_written =
      let line = line_of due (row_content row k) in
      let left = (accepted_writes_the_line w.system w.line fall (row_content row k) line written).0 in
      subst (λ (l : List ℕ). Damaged due (line_after w.system w.line fall (row_content row k) line) l 0 0) (sym words_left)
      (subst (λ (l : List ℕ). Damaged due l line 0 0) (sym left) (undamaged due (row_content row k) fit_to_record.packets))

  -- a row that was taken comes back from its samples
  row_comes_back : ((i : ℕ) → i < length row → get_or row i 0 < 256) → takes_row fall w ≡ true → row_of (row_samples row) ≡ row
  row_comes_back bytes t = row_of_samples row (fit_to_record.long t) bytes (fit_to_record.spare t)

  -- there was room for it
  room : (recorded_of fall w row k (length buffer)).walk.lines ≤ most_lines
  unfolding advanced_of
  room = omega (arith, ap (λ (v : Walk). v.lines) walk_after, good.lines)

  -- so it goes before the lines behind it
  module _ (bytes : (i : ℕ) → i < length row → get_or row i 0 < 256) (rows lines : List (List ℕ))
      (ks : List Packets) (rest : Told fall (advanced_of w due clean_report) rows ks lines) where
    abbrev taken_rows : List (List ℕ)
    taken_rows = cond (takes_row fall w) (row ∷ rows) rows

    pictures_taken : pictures_of (lines_of w.system fall w.line (row_content row k ∷ rest.contents)) ≡ map row_samples taken_rows
    unfolding takes_row advanced_of due_of due_with
    pictures_taken =
        by_test (v_written (system_of w.system) w.line fall)
        (λ v. simp v rest.taken) (λ v. simp v (ap (λ (ps : List Samples). row_samples row ∷ ps) rest.taken))

    rows_come_back : map row_of (map row_samples taken_rows) ≡ taken_rows
    rows_come_back =
        by_test (takes_row fall w)
        (λ t. simp t (ap₂ (λ (r : List ℕ) (rs : List (List ℕ)). r ∷ rs) (row_comes_back bytes t) rest.back)) (λ f. simp f rest.back)

    line_before : Told fall w taken_rows (k ∷ ks) (line_bytes_after fall w row k buffer ∷ lines)
    unfolding advanced_of due_of due_with
    line_before =
        record {
          contents = row_content row k ∷ rest.contents;
          recording = next (line_of due (row_content row k)) written as_written (omega arith) (omega arith) rest.recording;
          taken = pictures_taken;
          carried = ap (λ (l : List Packets). k ∷ l) rest.carried;
          few = omega (arith, rest.few);
          whole = λ line at. ⊎_elim (λ e. ap length e ∙ bytes_left) (λ there. rest.whole line there) (Memᴰ.cases_cons at);
          back = rows_come_back;
        }

-- ---- all lines
pub recorded_told : {fall : ℕ} {w : Walk} {rows lines : List (List ℕ)} {ks : List Packets} → Recorded fall w rows ks lines → w.lines ≤ most_lines
    → Told fall w rows ks lines
recorded_told no_line h =
    record {
      contents = [];
      recording = end;
      taken = refl;
      carried = refl;
      few = omega arith;
      whole = λ line at. absurd (Memᴰ.not-nil at);
      back = refl;
    }
recorded_told {fall} {w} (one_line {rows = rows} {lines = lines} {ks = ks} row k buffer bytes accepted more) h =
    line_before fall w row k buffer accepted bytes rows lines ks
    (subst (λ (v : Walk). Told fall v rows ks lines) (walk_after fall w row k buffer accepted) (recorded_told more (room fall w row k buffer accepted)))
