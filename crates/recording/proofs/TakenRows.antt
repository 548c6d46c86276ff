-- Of good rows nothing is refused, as long as there is room for lines: each line is recordable, and at most 625 are written for a row.
-- Assumes nothing.
use Prim.Native.Nat.{ℕ, zero, suc, ◌+◌, ◌*◌, ◌<◌, ◌≤◌}
use mathlib.Core.Path.{◌≡◌, refl, sym, ap, ◌∙◌}
use mathlib.Core.List.{List, [], ◌∷◌}
use mathlib.Core.List.{Memᴰ}
use mathlib.Core.Bool.{Bool, true, false, cond, not, true≢false, ◌&&◌}
use native.Mathlib.Omega.{arith}
use lib.Dec.{ltb, eqb}
use lib.ListN.{length, get_or}
use borrow.Author.Tests.{eq-eqb, le-ltb}
use Rattle.refusal.specs.declared.Refusal.{Refusal}
use Rattle.refusal.proofs.Cases.{by_test, and_true, not_true}
use Rattle.refusal.proofs.Firsts.{first_none, same_number}
use Rattle.system.specs.declared.walk.Walk.{Walk}
use Rattle.system.specs.Figures.{line_length, system_of}
use Rattle.system.specs.Walk.{most_lines, advanced_of}
use Rattle.system.proofs.Laws.{tally_with_few, Good, good_accepted}
use Rattle.system.specs.declared.due.Due.{Due}
use Rattle.line.specs.Samples.{nothing_ready, active_length, part_samples}
use Rattle.system.specs.declared.walk.Judgement.{Judgement}
use Rattle.words.specs.Words.{most_word, least_sample, most_sample}
use Rattle.writer.specs.Write.{outside_at, sample_refusal}
use Rattle.writer.proofs.Laws.{packets_passed}
use Rattle.writer.proofs.Theorems.{nothing_ready_refuses_nothing}
use Rattle.v210.specs.Row.{packed_of}
use Rattle.v210.proofs.Theorems.{packed_length, spare_none, packed_accepted, samples_back}
use Rattle.programme.specs.declared.tape.Tape.{Tape}
use Rattle.line.proofs.Places.{part_in_place}
use Rattle.programme.specs.Record.{due_at_walk, takes_row, ends_frame, Recordable}
use Rattle.programme.specs.Tape.{turns_at, turned_of, bare_taped, ends_at, Wrote, onto, end_of, most_turns, record_rows}
use Rattle.programme.proofs.Records.{recorded_accepted}
use Rattle.programme.proofs.RecordTheorems.{recordable_accepted}
use Rattle.recording.specs.Filters.{GoodRow, GoodRowMet}
use Rattle.recording.proofs.TapedLines.{Sound, taped, advanced, still_sound, turned_walk, sound_there, line_there, next_tape}

-- ---- good rows there are: the row of any samples from 4 to 1019
module _ (part : List ℕ) (size : length part ≡ active_length)
    (range : (place : ℕ) → place < active_length → (least_sample ≤ get_or part place 0) × (get_or part place 0 ≤ most_sample)) where
  small : (place : ℕ) → place < active_length → get_or part place 0 ≤ most_word
  small place l = omega (arith, (range place l).1)

  inside : (place : ℕ) → place < active_length → outside_at (part_samples part) place ≡ 0
  inside place l =
      rw (part_in_place part place l)
      (simp (le-ltb (get_or part place 0) least_sample (range place l).0, le-ltb most_sample (get_or part place 0) (range place l).1))

  none_outside : (d : Due) → (sample_refusal d (part_samples part)).number ≡ 0
  unfolding sample_refusal
  none_outside d =
      by_test d.v (λ v. simp v)
      (λ v. simp v (ap (λ (x : Refusal). x.number) (first_none (outside_at (part_samples part)) active_length inside)))

  pub good_row : GoodRow (packed_of part)
  good_row =
      record {
        long = packed_length part;
        spare = ap (λ (x : Refusal). x.number) (sym (spare_none (packed_of part) (packed_length part))) ∙ (packed_accepted part size small).1;
        samples = λ d. ap (λ (row : List ℕ). (sample_refusal d (part_samples row)).number) (samples_back part size small) ∙ none_outside d;
      }

pub good_row_met : GoodRowMet
good_row_met = good_row

-- what a row is given as, where the awaited line takes it
abbrev Given : Tape → List ℕ → Type 0
Given t row = takes_row t.fall t.walk ≡ true → GoodRow row

module _ (system fall room : ℕ) (size : room ≡ 2 * line_length (system_of system)) where
  -- a tape that goes on, with no repairs and at most so many lines
  pub record Ready (bound : ℕ) (t : Tape) : Type 0 where
    pub sound : Sound system fall t
    pub number : t.number ≡ 0
    pub repairs : t.walk.repairs ≡ 0
    pub tally : t.walk.tally ≡ 0
    pub lines : t.walk.lines ≤ bound

  weaker : {bound more : ℕ} {t : Tape} → bound ≤ more → Ready bound t → Ready more t
  weaker l r = record { sound = r.sound; number = r.number; repairs = r.repairs; tally = r.tally; lines = omega (arith, r.lines) }

  -- ---- one line
  module _ (bound : ℕ) (t : Tape) (row : List ℕ) (r : Ready bound t) (low : bound < most_lines) (given : Given t row) where
    good : Good t.walk
    good =
        record {
          system = r.sound.a_system;
          line = r.sound.a_line;
          lines = omega (arith, r.lines);
          repairs = omega (arith, r.repairs);
          tally = omega (arith, r.tally);
        }

    recordable : Recordable t.fall t.walk row nothing_ready room
    recordable =
        record {
          walk = ap (λ (x : Refusal). x.number) (good_accepted t.walk good);
          falls = r.sound.a_fall;
          whole = size ∙ ap (λ (n : ℕ). 2 * line_length (system_of n)) (sym r.sound.same);
          long = λ takes. (given takes).long;
          spare = λ takes. (given takes).spare;
          packets = packets_passed (due_at_walk t.fall t.walk) nothing_ready (same_number (nothing_ready_refuses_nothing (due_at_walk t.fall t.walk)));
          samples = λ takes. (given takes).samples _;
        }

    accepted : (bare_taped t row room).number ≡ 0
    accepted =
        ap (λ (x : Tape). x.number) (taped t row room r.number)
        ∙ ap (λ (j : Judgement). j.number) (recorded_accepted t.fall t.walk row nothing_ready room (recordable_accepted t.fall t.walk row nothing_ready room recordable))

    line_on : Ready (bound + 1) (bare_taped t row room)
    unfolding advanced_of
    line_on =
        let w = advanced t row room r.number accepted in
        record {
          sound = still_sound t row room r.number accepted system fall r.sound;
          number = accepted;
          repairs = ap (λ (v : Walk). v.repairs) w ∙ omega (arith, r.repairs);
          tally = omega (arith, ap (λ (v : Walk). v.tally) w, r.tally, tally_with_few (due_at_walk t.fall t.walk).system t.walk.line t.walk.tally 0);
          lines = omega (arith, ap (λ (v : Walk). v.lines) w, r.lines);
        }

  -- ---- a next recording
  there : (bound : ℕ) (t : Tape) → Ready bound t → (turns : Bool) → Ready bound (cond turns (turned_of t) t)
  there bound t r true =
      let w = turned_walk system fall t r.sound in
      record {
        sound = sound_there system fall t r.sound true;
        number = (line_there system fall t r.sound true).1 ∙ r.number;
        repairs = ap (λ (v : Walk). v.repairs) w;
        tally = ap (λ (v : Walk). v.tally) w;
        lines = omega (arith, ap (λ (v : Walk). v.lines) w);
      }
  there bound t r false = r

  -- ---- one row
  row_on : (k bound : ℕ) (t : Tape) (row : List ℕ) (rest : Tape → Wrote) → GoodRow row → bound + k < most_lines → Ready bound t
      → ((u : Tape) → Ready (bound + k) u → (rest u).tape.number ≡ 0) → (onto room k t row rest).tape.number ≡ 0
  unfolding onto
  row_on zero bound t row rest row-good low r well = well t (weaker (omega arith) r)
  row_on (suc k) bound t row rest row-good low r well =
      let turns = turns_at t in
      let u = cond turns (turned_of t) t in
      let here = there bound t r turns in
      let v = bare_taped u row room in
      let on = line_on bound u row here (omega arith) (λ takes. row-good) in
      ap (λ (x : Tape). x.number) (next_tape turns t.walk.line _)
      ∙ simp (eq-eqb v.number 0 on.number)
      (by_test (takes_row u.fall u.walk)
      (λ takes. simp takes (well v (weaker (omega arith) on)))
      (λ blank. simp blank (row_on k (bound + 1) v row rest row-good (omega arith) on (λ x ready. well x (weaker (omega arith) ready)))))

  -- ---- the end of the last frame
  end_on : (k bound : ℕ) (t : Tape) → bound + k < most_lines → Ready bound t → (end_of room k t).tape.number ≡ 0
  unfolding end_of ends_at ends_frame
  end_on zero bound t low r = r.number
  end_on (suc k) bound t low r =
      by_test (ends_at t)
      (λ goes.
      let frame = (and_true (ends_frame t.fall t.walk) _ (and_true (eqb t.number 0) _ goes).1).0 in
      let blank = not_true (takes_row t.fall t.walk) (and_true (ltb 0 t.walk.lines && ltb 1 t.walk.line) (not (takes_row t.fall t.walk)) frame).1 in
      simp goes
      (end_on k (bound + 1) (bare_taped t [] room) (omega arith)
      (line_on bound t [] r (omega arith) (λ takes. absurd (true≢false (sym takes ∙ blank))))))
      (λ stays. simp stays r.number)

  -- ---- all rows
  pub rows_on : (rows : List (List ℕ)) (bound : ℕ) (t : Tape) → ((row : List ℕ) → Memᴰ row rows → GoodRow row)
      → bound + most_turns * (length rows + 1) < most_lines → Ready bound t → (record_rows room t rows).tape.number ≡ 0
  unfolding record_rows
  rows_on [] bound t good-rows low r = end_on most_turns bound t (omega arith) r
  rows_on (row ∷ rows) bound t good-rows low r =
      simp (eq-eqb t.number 0 r.number)
      (row_on most_turns bound t row (λ after. record_rows room after rows) (good-rows row (Memᴰ.head refl)) (omega arith) r
      (λ u ready. rows_on rows (bound + most_turns) u (λ one at. good-rows one (Memᴰ.tail at)) (omega arith) ready))
