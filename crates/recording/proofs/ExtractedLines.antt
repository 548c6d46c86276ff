-- Extracting line by line goes as reading the lines' words does: the same answers, and of each V = 0 line the row of its samples, and of
-- each line its packets. So the theorem on reading a recording carries over. Assumes nothing.
use Prim.Native.Nat.{ℕ, ◌*◌}
use mathlib.Core.Path.{◌≡◌, refl, sym, ap, ◌∙◌}
use mathlib.Core.List.{List, [], ◌∷◌, map}
use mathlib.Core.List.Memᴰ
use mathlib.Core.Bool.{Bool, true, false, cond, not}
use lib.Dec.{eqb}
use lib.ListN.{length, get_or, take, drop}
use borrow.Author.Tests.{eqb-true}
use Rattle.refusal.proofs.Cases.{by_test}
use Rattle.words.specs.Bytes.{words_of}
use Rattle.system.specs.declared.System.{System}
use Rattle.system.specs.declared.walk.Walk.{Walk}
use Rattle.system.specs.declared.walk.PacketWords.{PacketWords}
use Rattle.system.specs.declared.walk.Judgement.{Judgement}
use Rattle.system.specs.Figures.{line_length, active_offset, system_of}
use Rattle.system.specs.Walk.{line_words, line_bytes, advanced_of, due_in}
use Rattle.system.proofs.Laws.{due_system}
use Rattle.line.specs.Fault.{between_offset, counts_of}
use Rattle.line.specs.Samples.{Samples, Packets, active_length, packets_of}
use Rattle.line.specs.Fit.{Measured}
use Rattle.reader.specs.Take.{in_turn}
use Rattle.reader.proofs.Taken.{measured_turn}
use Rattle.bytewise.proofs.Theorems.{bytes_as_words}
use Rattle.v210.specs.Row.{row_length, packed_of}
use Rattle.programme.specs.Extract.{extracted_of, gives_row, row_of_line}
use Rattle.programme.proofs.ExtractTheorems.{extract_as_judged}
use Rattle.recording.specs.Play.{Played, and_then, play}
use Rattle.recording.specs.Programme.{Extracted, row_then, refused_by, packets_of_line, extract_all, row_of, Whole}
use Rattle.recording.proofs.OneLine.{accepted_judgement, picture_buffers, buffers_measured, answered_accepted}
use Rattle.recording.proofs.Rows.{active_part_of_samples}

-- what is extracted of lines that are read so
abbrev pub extracted_as : Played → Extracted
extracted_as r = record { rows = map row_of r.pictures; packets = r.packets; number = r.number; place = r.place; walk = r.walk }

-- a line's row before those behind it
row_before : (v : Bool) (row : List ℕ) (p : Samples) (k : Packets) (rest : Played) → (v ≡ false → row ≡ row_of p)
    → row_then (not v) row k (extracted_as rest) ≡ extracted_as (and_then v p k rest)
row_before true row p k rest same = refl
row_before false row p k rest same = ap (λ (r : List ℕ). row_then true r k (extracted_as rest)) (same refl)

-- ---- one line
module _ (w : Walk) (b : Samples) (m : Measured b) (bytes : List ℕ) (size : length bytes ≡ line_bytes w) where
  extracted_as_read : extracted_of w bytes row_length ≡ (in_turn w (words_of bytes) b).judgement
  extracted_as_read =
      extract_as_judged w bytes ∙ bytes_as_words w bytes (line_words w) size ∙ sym (measured_turn w (words_of bytes) b m)

  module _ (accepted : (in_turn w (words_of bytes) b).judgement.number ≡ 0) where
    same_system : (in_turn w (words_of bytes) b).judgement.walk.system ≡ w.system
    unfolding advanced_of
    same_system = ap (λ (j : Judgement). j.walk.system) (accepted_judgement w b (words_of bytes) accepted)

    -- the row of a V = 0 line is that of the samples read
    row_as_read : (due_in w (words_of bytes)).v ≡ false → row_of_line w bytes ≡ row_of (in_turn w (words_of bytes) b).buffers
    unfolding row_of_line
    row_as_read v =
        let a = answered_accepted w b (words_of bytes) accepted in
        let system = due_system w (get_or (words_of bytes) 3 0) in
        ap (λ (s : System). packed_of (take active_length (drop (active_offset s) (words_of bytes)))) (sym system)
        ∙ active_part_of_samples (due_in w (words_of bytes)) (words_of bytes) (a.size ∙ ap line_length (sym system))
        ∙ ap row_of (sym (picture_buffers w b (words_of bytes) accepted v))

    -- the packets are those of the words read: the counts are the judge's
    packets_as_read : packets_of_line w bytes ≡ packets_of (due_in w (words_of bytes)) (words_of bytes)
    unfolding packets_of
    packets_as_read =
        let words = words_of bytes in
        let counts : (extracted_of w bytes row_length).packets ≡ counts_of (due_in w words) words =
        ap (λ (j : Judgement). j.packets) (extracted_as_read ∙ accepted_judgement w b words accepted) in
        ap (λ (n : PacketWords). record { between = take n.between (drop between_offset words); active = take n.active (drop (active_offset (system_of w.system)) words) }) counts
        ∙ ap (λ (s : System). record {
          between = take (counts_of (due_in w words) words).between (drop between_offset words);
          active = take (counts_of (due_in w words) words).active (drop (active_offset s) words);
        }) (sym (due_system w (get_or words 3 0)))

    row_kept : (rest : Played)
        → row_then (gives_row w bytes) (row_of_line w bytes) (packets_of_line w bytes) (extracted_as rest)
        ≡ extracted_as
        (and_then (due_in w (words_of bytes)).v (in_turn w (words_of bytes) b).buffers (packets_of (due_in w (words_of bytes)) (words_of bytes)) rest)
    unfolding gives_row
    row_kept rest =
        ap (λ (k : Packets). row_then (gives_row w bytes) (row_of_line w bytes) k (extracted_as rest)) packets_as_read
        ∙ row_before (due_in w (words_of bytes)).v (row_of_line w bytes) (in_turn w (words_of bytes) b).buffers _ rest row_as_read

-- ---- all lines
pub extracts_as_plays : (lines : List (List ℕ)) (w : Walk) (b : Samples) → Measured b → Whole w.system lines
    → extract_all w lines ≡ extracted_as (play w b (map words_of lines))
unfolding extract_all play
extracts_as_plays [] w b m whole = refl
extracts_as_plays (bytes ∷ rest) w b m whole =
    let size = whole bytes (Memᴰ.head refl) in
    let words = words_of bytes in
    let j = (in_turn w words b).judgement in
    ap (λ (x : Judgement). cond (eqb x.number 0) (row_then (gives_row w bytes) (row_of_line w bytes) (packets_of_line w bytes) (extract_all x.walk rest)) (refused_by x))
    (extracted_as_read w b m bytes size)
    ∙ by_test (eqb j.number 0)
    (λ t.
    let z = eqb-true _ _ t in
    let measured = buffers_measured w b words z m in
    let same = same_system w b m bytes size z in
    simp t
    (ap (row_then (gives_row w bytes) (row_of_line w bytes) (packets_of_line w bytes))
    (extracts_as_plays rest j.walk (in_turn w words b).buffers measured
    (λ line at. whole line (Memᴰ.tail at) ∙ ap (λ (n : ℕ). 2 * line_length (system_of n)) (sym same)))
    ∙ row_kept w b m bytes size z (play j.walk (in_turn w words b).buffers (map words_of rest))))
    (λ f. simp f)
