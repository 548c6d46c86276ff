-- What a tape writes of rows are recordings of those rows: each line is one that an accepted call of `record` leaves, a next recording begins
-- with a fresh walk, and within a frame there is always a line that takes the row. Assumes nothing.
use Prim.Native.Nat.{ℕ, zero, suc, ◌+◌, ◌*◌}
use mathlib.Core.Path.{◌≡◌, refl, sym, ap, subst, ◌∙◌}
use mathlib.Core.List.{List, [], ◌∷◌, ◌++◌}
use mathlib.Core.List.{Memᴰ}
use mathlib.Core.Bool.{Bool, true, false, cond, not, ◌&&◌, ◌||◌}
use native.Mathlib.Omega.{arith}
use lib.Dec.{T, ltb, leb, eqb, le→leb}
use lib.ListN.{length}
use borrow.Author.Tests.{eqb-true, eqb-false, eq-eqb}
use Rattle.refusal.proofs.Cases.{by_test, and_true, not_true}
use Rattle.timing.specs.Report.{clean_report}
use Rattle.timing.proofs.Every.{implies, meet, every, lift}
use Rattle.system.specs.declared.System.{System}
use Rattle.system.specs.declared.System.TheVariants.{Lines525, Lines625}
use Rattle.system.specs.declared.walk.Walk.{Walk}
use Rattle.system.specs.declared.walk.Fresh.{Fresh}
use Rattle.system.specs.Figures.{line_count, v_of, is_system, system_of, is_fall, v_written, next_line}
use Rattle.system.specs.Walk.{is_line, fresh_walk, fresh_of, advanced_of, line_bytes}
use Rattle.system.proofs.Laws.{next_line_in, fresh_accepted, between_first, between_last, judgement_number}
use Rattle.system.proofs.Falls.{picture_written}
use Rattle.system.specs.Due.{due_with, due_of}
use Rattle.line.specs.Samples.{Packets, nothing_ready, line_of}
use Rattle.line.proofs.Writing.{line_length_is}
use Rattle.words.proofs.Bytes.{bytes_length}
use Rattle.programme.specs.declared.tape.Tape.{Tape}
use Rattle.programme.specs.Record.{due_at_walk, takes_row, ends_frame, row_content, recorded_of, line_bytes_of}
use Rattle.programme.specs.Tape.{turns_at, turned_of, taped_of, bare_taped, ends_at, Wrote, nothing_more, line_then, next_from, onto, end_of, most_turns, record_rows}
use Rattle.programme.proofs.RecordTheorems.{record_accepted}
use Rattle.recording.specs.Programme.{Recorded, end as no_line, next as one_line}
use Rattle.recording.specs.Filters.{Recordings, none, one, AllBytes}
use Rattle.recording.proofs.RecordedLines.{walk_after, line_left}

-- ---- every frame has a line that takes a row, soon enough: one with V = 0, by the table or wherever V falls
reaches : (ℕ → Bool) → ℕ → System → ℕ → Bool
reaches v zero s line = false
reaches v (suc k) s line = not (v line) || reaches v k s (next_line s line)

from_line : System → ℕ → Bool
from_line s line = implies (leb 1 line) (reaches (v_of s) most_turns s line)

all_reach : (s : System) → T (every (line_count s + 1) (from_line s))
unfolding from_line reaches v_of next_line
all_reach Lines525 = tt
all_reach Lines625 = tt

reaches_too : (v u : ℕ → Bool) → ((n : ℕ) → v n ≡ false → u n ≡ false) → (k : ℕ) (s : System) (line : ℕ) → T (reaches v k s line) → T (reaches u k s line)
unfolding reaches
reaches_too v u less zero s line t = t
reaches_too v u less (suc k) s line t =
    by_test (v line)
    (λ blank. let on = reaches_too v u less k s (next_line s line) (simp blank at t) in by_test (u line) (λ e. simp e on) (λ e. simp e tt))
    (λ picture. simp (less line picture) tt)

always : (number line fall : ℕ) → is_line number line ≡ true → is_fall (system_of number) fall ≡ true
    → T (reaches (λ n. v_written (system_of number) n fall) most_turns (system_of number) line)
unfolding is_line from_line
always number line fall h is =
    let s = system_of number in
    reaches_too (v_of s) (λ n. v_written s n fall) (λ n picture. picture_written s n fall is picture) most_turns s line
    (meet (leb 1 line) _ (lift (line_count s + 1) (from_line s) (all_reach s) line (omega (arith, between_last 1 (line_count s) line h)))
    (le→leb 1 line (between_first 1 (line_count s) line h)))

-- ---- a tape that stands at a line of its system
pub record Sound (system fall : ℕ) (t : Tape) : Type 0 where
  pub same : t.walk.system ≡ system
  pub same_fall : t.fall ≡ fall
  pub a_fall : is_fall (system_of t.walk.system) t.fall ≡ true
  pub a_system : is_system t.walk.system ≡ true
  pub a_line : is_line t.walk.system t.walk.line ≡ true

-- what was written from a tape on: the rows taken in the recording at hand, and those of the recordings behind it
pub record Splits (system fall : ℕ) (t : Tape) (w : Wrote) (rows : List (List ℕ)) : Type 0 where
  pub here : List (List ℕ)
  pub later : List (List ℕ)
  pub packets : List Packets
  pub all : rows ≡ here ++ later
  pub recorded : Recorded t.fall t.walk here packets w.lines
  pub behind : Recordings system fall w.more later

stopped : (system fall : ℕ) (t : Tape) → Splits system fall t (nothing_more t) []
stopped system fall t = record { here = []; later = []; packets = []; all = refl; recorded = no_line; behind = none }

-- ---- one line, by way of a buffer of so many bytes
module _ (t : Tape) (row : List ℕ) (room : ℕ) where
  abbrev after : Tape
  after = bare_taped t row room

  line_size : length (line_bytes_of t.fall t.walk row nothing_ready) ≡ line_bytes t.walk
  unfolding line_bytes_of due_of due_with
  line_size =
      let due = due_at_walk t.fall t.walk in
      bytes_length (line_of due (row_content row nothing_ready)) ∙ ap (λ (n : ℕ). 2 * n) (line_length_is due (row_content row nothing_ready))

  module _ (z : t.number ≡ 0) where
    pub taped : after ≡ record { walk = (recorded_of t.fall t.walk row nothing_ready room).walk; most = t.most; fall = t.fall; number = (recorded_of t.fall t.walk row nothing_ready room).number; place = (recorded_of t.fall t.walk row nothing_ready room).place }
    unfolding taped_of
    taped = simp (eq-eqb _ _ z)

    module _ (accepted : after.number ≡ 0) where
      -- where the line is accepted the buffer is one of its length
      fits : room ≡ length (line_bytes_of t.fall t.walk row nothing_ready)
      unfolding recorded_of
      fits =
          let number = sym (ap (λ (x : Tape). x.number) taped) ∙ accepted in
          (record_accepted t.fall t.walk row nothing_ready room (sym (judgement_number _ t.walk _ clean_report _) ∙ number)).whole ∙ sym line_size

      line_accepted : (recorded_of t.fall t.walk row nothing_ready (length (line_bytes_of t.fall t.walk row nothing_ready))).number ≡ 0
      line_accepted =
          ap (λ (n : ℕ). (recorded_of t.fall t.walk row nothing_ready n).number) (sym fits) ∙ sym (ap (λ (x : Tape). x.number) taped) ∙ accepted

      walk_of : after.walk ≡ (recorded_of t.fall t.walk row nothing_ready (length (line_bytes_of t.fall t.walk row nothing_ready))).walk
      walk_of = ap (λ (x : Tape). x.walk) taped ∙ ap (λ (n : ℕ). (recorded_of t.fall t.walk row nothing_ready n).walk) fits

      pub advanced : after.walk ≡ advanced_of t.walk (due_at_walk t.fall t.walk) clean_report
      advanced = walk_of ∙ walk_after t.fall t.walk row nothing_ready (line_bytes_of t.fall t.walk row nothing_ready) line_accepted

      fall_kept : after.fall ≡ t.fall
      fall_kept = ap (λ (x : Tape). x.fall) taped

      pub still_sound : (system fall : ℕ) → Sound system fall t → Sound system fall after
      unfolding advanced_of due_of due_with
      still_sound system fall s =
          rw (advanced, fall_kept)
          (record {
            same = s.same;
            same_fall = s.same_fall;
            a_fall = s.a_fall;
            a_system = s.a_system;
            a_line = next_line_in t.walk.system t.walk.line s.a_line;
          })

      line_before : (system fall : ℕ) (w : Wrote) (rows : List (List ℕ)) → AllBytes row → Splits system fall after w rows
          → Splits system fall t (line_then (line_bytes_of t.fall t.walk row nothing_ready) w) (cond (takes_row t.fall t.walk) (row ∷ rows) rows)
      unfolding line_bytes_of
      line_before system fall w rows bytes rest =
          let buffer = line_bytes_of t.fall t.walk row nothing_ready in
          let made = one_line row nothing_ready buffer bytes line_accepted (subst (λ (v : Walk). Recorded t.fall v rest.here rest.packets w.lines) walk_of
          (subst (λ (n : ℕ). Recorded n after.walk rest.here rest.packets w.lines) fall_kept rest.recorded)) in
          record {
            here = cond (takes_row t.fall t.walk) (row ∷ rest.here) rest.here;
            later = rest.later;
            packets = nothing_ready ∷ rest.packets;
            all = by_test (takes_row t.fall t.walk) (λ e. simp e (ap (λ (l : List (List ℕ)). row ∷ l) rest.all)) (λ e. simp e rest.all);
            recorded =
                subst (λ (l : List ℕ). Recorded t.fall t.walk (cond (takes_row t.fall t.walk) (row ∷ rest.here) rest.here) (nothing_ready ∷ rest.packets) (l ∷ w.lines))
                (line_left t.fall t.walk row nothing_ready buffer line_accepted) made;
            behind = rest.behind;
          }

-- ---- a next recording, where one begins
module _ (system fall : ℕ) (t : Tape) (s : Sound system fall t) where
  fresh_there : fresh_of t.walk.system t.walk.line ≡ record { number = 0; place = 0; walk = fresh_walk t.walk.system t.walk.line }
  fresh_there = fresh_accepted t.walk.system t.walk.line s.a_system s.a_line

  pub turned_walk : (turned_of t).walk ≡ fresh_walk t.walk.system t.walk.line
  unfolding turned_of
  turned_walk = ap (λ (f : Fresh). f.walk) fresh_there

  -- the tape at its next line is as sound, at the same line
  pub sound_there : (turns : Bool) → Sound system fall (cond turns (turned_of t) t)
  unfolding turned_of
  sound_there true = rw turned_walk (record { same = s.same; same_fall = s.same_fall; a_fall = s.a_fall; a_system = s.a_system; a_line = s.a_line })
  sound_there false = s

  pub line_there : (turns : Bool) → ((cond turns (turned_of t) t).walk.line ≡ t.walk.line) × ((cond turns (turned_of t) t).number ≡ t.number)
  unfolding turned_of
  line_there true = (ap (λ (w : Walk). w.line) turned_walk, refl)
  line_there false = (refl, refl)

  next_begun : (turns : Bool) (w : Wrote) (rows : List (List ℕ)) → Splits system fall (cond turns (turned_of t) t) w rows
      → Splits system fall t (next_from turns t.walk.line w) rows
  unfolding turned_of
  next_begun false w rows rest = rest
  next_begun true w rows rest =
      let n : (fresh_of system t.walk.line).number ≡ 0 =
      ap (λ (k : ℕ). (fresh_of k t.walk.line).number) (sym s.same) ∙ ap (λ (f : Fresh). f.number) fresh_there in
      let at : (turned_of t).walk ≡ (fresh_of system t.walk.line).walk = turned_walk ∙ sym (ap (λ (f : Fresh). f.walk) fresh_there) ∙ ap (λ (k : ℕ). (fresh_of k t.walk.line).walk) s.same in
      record {
        here = [];
        later = rows;
        packets = [];
        all = refl;
        recorded = no_line;
        behind =
            subst (Recordings system fall ((t.walk.line, w.lines) ∷ w.more)) (sym rest.all)
            (one t.walk.line rest.here w.lines rest.packets n (subst (λ (v : Walk). Recorded fall v rest.here rest.packets w.lines) at
            (subst (λ (n : ℕ). Recorded n (turned_of t).walk rest.here rest.packets w.lines) s.same_fall rest.recorded)) rest.behind);
      }

-- where nothing was refused to the end, what was written are recordings of the rows
abbrev pub Well : ℕ → ℕ → Tape → Wrote → List (List ℕ) → Type 0
Well system fall t w rows = w.tape.number ≡ 0 → Splits system fall t w rows

-- the tape at the end is that of what follows
pub next_tape : (turns : Bool) (start : ℕ) (w : Wrote) → (next_from turns start w).tape ≡ w.tape
next_tape true start w = refl
next_tape false start w = refl

-- ---- one row, at a tape that reaches a line which takes it
module _ (system fall room : ℕ) (row : List ℕ) (bytes : AllBytes row) (rows : List (List ℕ)) (rest : Tape → Wrote)
    (well : (u : Tape) → Sound system fall u → u.number ≡ 0 → Well system fall u (rest u) rows) where
  mutual_line : (k : ℕ) (u : Tape) → Sound system fall u → u.number ≡ 0 → T (reaches (λ n. v_written (system_of u.walk.system) n u.fall) (suc k) (system_of u.walk.system) u.walk.line)
      → ((v : Tape) → Sound system fall v → v.number ≡ 0 → T (reaches (λ n. v_written (system_of v.walk.system) n v.fall) k (system_of v.walk.system) v.walk.line) → Well system fall v (onto room k v row rest) (row ∷ rows))
      → Well system fall u
      (cond (eqb (bare_taped u row room).number 0)
      (line_then (line_bytes_of u.fall u.walk row nothing_ready) (cond (takes_row u.fall u.walk) (rest (bare_taped u row room)) (onto room k (bare_taped u row room) row rest)))
      (nothing_more (bare_taped u row room)))
      (row ∷ rows)
  unfolding reaches takes_row advanced_of due_of due_with
  mutual_line k u s z reach more =
      let v = bare_taped u row room in
      by_test (eqb v.number 0)
      (λ t.
      let accepted = eqb-true _ _ t in
      let sound = still_sound u row room z accepted system fall s in
      by_test (v_written (system_of u.walk.system) u.walk.line u.fall)
      (λ blank. simp (t, blank) (λ end.
      let there : T (reaches (λ n. v_written (system_of v.walk.system) n v.fall) k (system_of v.walk.system) v.walk.line) =
      rw (advanced u row room z accepted, fall_kept u row room z accepted) (simp blank at reach) in
      subst (Splits system fall u _) (ap (λ (b : Bool). cond (not b) (row ∷ row ∷ rows) (row ∷ rows)) blank)
      (line_before u row room z accepted system fall (onto room k v row rest) (row ∷ rows) bytes (more v sound accepted there end))))
      (λ picture. simp (t, picture) (λ end.
      subst (Splits system fall u _) (ap (λ (b : Bool). cond (not b) (row ∷ rows) rows) picture)
      (line_before u row room z accepted system fall (rest v) rows bytes (well v sound accepted end)))))
      (λ f. simp f (λ end. absurd (eqb-false _ _ f end)))

  row_taken : (k : ℕ) (t : Tape) → Sound system fall t → t.number ≡ 0 → T (reaches (λ n. v_written (system_of t.walk.system) n t.fall) k (system_of t.walk.system) t.walk.line)
      → Well system fall t (onto room k t row rest) (row ∷ rows)
  unfolding onto reaches
  row_taken zero t s z reach end = absurd reach
  row_taken (suc k) t s z reach end =
      let turns = turns_at t in
      let u = cond turns (turned_of t) t in
      let at = line_there system fall t s turns in
      let there : T (reaches (λ n. v_written (system_of u.walk.system) n u.fall) (suc k) (system_of u.walk.system) u.walk.line) =
      subst (λ (f : ℕ). T (reaches (λ n. v_written (system_of u.walk.system) n f) (suc k) (system_of u.walk.system) u.walk.line)) (s.same_fall ∙ sym (sound_there system fall t s turns).same_fall)
      (subst (λ (x : ℕ). T (reaches (λ n. v_written (system_of x) n t.fall) (suc k) (system_of x) u.walk.line)) (s.same ∙ sym (sound_there system fall t s turns).same)
      (subst (λ (x : ℕ). T (reaches (λ n. v_written (system_of t.walk.system) n t.fall) (suc k) (system_of t.walk.system) x)) (sym at.0) reach)) in
      next_begun system fall t s turns _ (row ∷ rows)
      (mutual_line k u (sound_there system fall t s turns) (at.1 ∙ z) there (row_taken k)
      (sym (ap (λ (x : Tape). x.number) (next_tape turns t.walk.line _)) ∙ end))

-- ---- the end of the last frame
ended_tape : (room k : ℕ) (t : Tape) → (end_of room k t).tape.number ≡ 0 → t.number ≡ 0
unfolding end_of ends_at
ended_tape room zero t e = e
ended_tape room (suc k) t e =
    by_test (eqb t.number 0) (λ z. eqb-true _ _ z) (λ n. simp n at e)

frame_ended : (system fall room k : ℕ) (t : Tape) → Sound system fall t → Well system fall t (end_of room k t) []
unfolding end_of ends_at ends_frame
frame_ended system fall room zero t s = λ end. stopped system fall t
frame_ended system fall room (suc k) t s =
    by_test (ends_at t)
    (λ goes. simp goes (λ end.
    let tests = and_true (eqb t.number 0) _ goes in
    let z = eqb-true _ _ tests.0 in
    let after = bare_taped t [] room in
    let accepted = ended_tape room k after end in
    subst (Splits system fall t _) (no_row (and_true (ends_frame t.fall t.walk) _ tests.1).0)
    (line_before t [] room z accepted system fall (end_of room k after) [] (λ i l. absurd (omega arith))
    (frame_ended system fall room k after (still_sound t [] room z accepted system fall s) end))))
    (λ stays. simp stays (λ end. stopped system fall t))
  where
    no_row : ends_frame t.fall t.walk ≡ true → ◌≡◌ {A = List (List ℕ)} (cond (takes_row t.fall t.walk) ([] ∷ []) []) []
    no_row e =
        let w = t.walk in
        simp (not_true (takes_row t.fall w) (and_true (ltb 0 w.lines && ltb 1 w.line) (not (takes_row t.fall w)) e).1)

-- ---- all rows
pub rows_taped : (system fall room : ℕ) (rows : List (List ℕ)) (t : Tape) → Sound system fall t
    → ((row : List ℕ) → Memᴰ row rows → AllBytes row) → Well system fall t (record_rows room t rows) rows
unfolding record_rows
rows_taped system fall room [] t s bytes = frame_ended system fall room most_turns t s
rows_taped system fall room (row ∷ rows) t s bytes =
    by_test (eqb t.number 0)
    (λ z. simp z (row_taken system fall room row (bytes row (Memᴰ.head refl)) rows (λ after. record_rows room after rows)
    (λ u sound goes. rows_taped system fall room rows u sound (λ one at. bytes one (Memᴰ.tail at))) most_turns t s (eqb-true _ _ z)
    (always t.walk.system t.walk.line t.fall s.a_line s.a_fall)))
    (λ n. simp n (λ end. absurd (eqb-false _ _ n end)))
