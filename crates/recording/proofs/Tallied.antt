-- The statements of specs/Tallied hold: every walk that reading comes to is reached from the fresh one, by the lines that it accepted. Assumes
-- nothing.
use Prim.Native.Nat.{ℕ}
use mathlib.Core.Path.{◌≡◌, refl, sym, ap, subst, ◌∙◌}
use mathlib.Core.Bool.{true, false}
use mathlib.Core.List.{List, [], ◌∷◌, ◌++◌, append-nil, append_assoc}
use lib.Dec.{eqb}
use lib.ListN.{drop}
use borrow.Author.Tests.{eqb-true, eqb-false, eq-eqb}
use Rattle.refusal.proofs.Cases.{by_test}
use Rattle.intake.specs.Arrival.{all_pieces}
use Rattle.timing.specs.Report.{repairs_of}
use Rattle.system.specs.declared.walk.Walk.{Walk}
use Rattle.system.specs.declared.walk.Judgement.{Judgement}
use Rattle.system.specs.Walk.{fresh_of, line_bytes, due_by}
use Rattle.system.specs.Tally.{Passed, Reached, begun, then}
use Rattle.system.proofs.Tally.{reached_tallied}
use Rattle.line.specs.Samples.{Samples}
use Rattle.line.specs.Fit.{Measured}
use Rattle.words.specs.Bytes.{words_of}
use Rattle.bytewise.specs.Bytes.{judged_bytes}
use Rattle.reader.specs.Judge.{line_judged, judged_of}
use Rattle.reader.specs.Take.{in_turn}
use Rattle.reader.proofs.Judged.{accepted, judged_accepted, judged_refused, number_judged}
use Rattle.reader.proofs.Taken.{measured_turn}
use Rattle.confirmation.specs.declared.Run.{Run}
use Rattle.confirmation.specs.Run.{header_length, header_system, header_start, begun_of, judged_next, through, body_of, confirmed_of}
use Rattle.confirmation.proofs.Bodies.{through_ended}
use Rattle.recording.specs.Play.{play}
use Rattle.recording.specs.Tallied.{history, ReadingTallied, RunTallied}
use Rattle.recording.proofs.OneLine.{buffers_measured}

-- an accepted line of the history
abbrev passed : Walk → Judgement → Passed
passed w j = record { line = w.line; repairs = repairs_of j.report }

-- ---- one line, as words or as bytes
module _ (given due : ℕ) (w : Walk) (words : List ℕ) where
  abbrev judgement : Judgement
  judgement = line_judged given due w words

  stands : (judgement.number ≡ 0 → ⊥) → judgement.walk ≡ w
  stands n = ap (λ (j : Judgement). j.walk) (judged_refused given due w words _ refl (λ z. n (number_judged given due w words ∙ z)))

  reached_next : {system start : ℕ} {h : List Passed} → judgement.number ≡ 0 → Reached system start h w
      → Reached system start (h ++ (passed w judgement ∷ [])) judgement.walk
  unfolding due_by
  reached_next {system} {start} {h} z reached =
      let well = sym (number_judged given due w words) ∙ z in
      subst (λ (j : Judgement). Reached system start (h ++ (passed w j ∷ [])) j.walk) (sym (judged_accepted given due w words well))
      (then _ _ reached (accepted given due w words well).walk)

-- ---- and all lines
module _ {system start : ℕ} where
  -- a history and a line, then the rest
  grown : {w : Walk} (h rest : List Passed) (p : Passed) → Reached system start ((h ++ (p ∷ [])) ++ rest) w → Reached system start (h ++ (p ∷ rest)) w
  grown {w} h rest p reached = subst (λ (l : List Passed). Reached system start l w) (append_assoc h (p ∷ []) rest) reached

  ended : {w : Walk} {h : List Passed} → Reached system start h w → Reached system start (h ++ []) w
  ended {w} {h} reached = subst (λ (l : List Passed). Reached system start l w) (sym (append-nil h)) reached

  plays_reached : (reads : List (List ℕ)) (w : Walk) (b : Samples) (h : List Passed) → Measured b → Reached system start h w
      → Reached system start (h ++ history judged_of w reads) (play w b reads).walk
  unfolding history play
  plays_reached [] w b h m reached = ended reached
  plays_reached (words ∷ rest) w b h m reached =
      let j = judged_of w words in
      let same = measured_turn w words b m in
      by_test (eqb j.number 0)
      (λ t.
      let z = eqb-true _ _ t in
      let number : eqb (in_turn w words b).judgement.number 0 ≡ true = ap (λ (i : Judgement). eqb i.number 0) same ∙ t in
      let left = (in_turn w words b).buffers in
      let next = plays_reached rest j.walk left (h ++ (passed w j ∷ [])) (buffers_measured w b words (eqb-true _ _ number) m) (reached_next _ _ w words z reached) in
      simp (t, number) (subst (λ (v : Walk). Reached system start (h ++ (passed w j ∷ history judged_of j.walk rest)) (play v left rest).walk)
      (sym (ap (λ (i : Judgement). i.walk) same)) (grown h (history judged_of j.walk rest) (passed w j) next)))
      (λ f.
      let number : eqb (in_turn w words b).judgement.number 0 ≡ false = ap (λ (i : Judgement). eqb i.number 0) same ∙ f in
      let still = ap (λ (i : Judgement). i.walk) same ∙ stands _ _ w words (eqb-false _ _ f) in
      simp (f, number) (subst (Reached system start (h ++ [])) (sym still) (ended reached)))

  runs_reached : (lines : List (List ℕ)) (r : Run) (h : List Passed) → r.number ≡ 0 → Reached system start h r.walk
      → Reached system start (h ++ history judged_bytes r.walk lines) (through r lines).walk
  unfolding history through judged_next
  runs_reached [] r h going reached = ended reached
  runs_reached (line ∷ rest) r h going reached =
      let w = r.walk in
      let j = judged_bytes w line in
      simp (eq-eqb _ _ going)
      (by_test (eqb j.number 0)
      (λ t.
      let z = eqb-true _ _ t in
      let next = runs_reached rest (judged_next r line) (h ++ (passed w j ∷ [])) z (reached_next _ _ w (words_of line) z reached) in
      simp t (grown h (history judged_bytes j.walk rest) (passed w j) next))
      (λ f.
      let n = eqb-false _ _ f in
      simp f
      (subst (Reached system start (h ++ []))
      (sym (ap (λ (s : Run). s.walk) (through_ended (judged_next r line) rest n) ∙ stands _ _ w (words_of line) n)) (ended reached))))

pub reading_tallied : ReadingTallied
reading_tallied system start reads buffers hf m =
    let w = (fresh_of system start).walk in
    reached_tallied system start _ _ hf (plays_reached reads w buffers [] m begun)

pub run_tallied : RunTallied
unfolding confirmed_of begun_of body_of
run_tallied bytes hf =
    reached_tallied (header_system bytes) (header_start bytes) _ _ hf
    (runs_reached (all_pieces (line_bytes (begun_of bytes).walk) (drop header_length bytes)) (begun_of bytes) [] hf begun)
