-- The promises on judging a line, taking its samples and lending its parts, of the definitions that the calls' contracts cite. Assumes nothing.
use Prim.Native.Nat.{ℕ}
use mathlib.Core.Path.{◌≡◌, refl, sym, ap, ◌∙◌}
use mathlib.Core.Bool.{true, false}
use mathlib.Core.List.{List, [], ◌∷◌}
use native.Mathlib.Omega.{arith}
use lib.ListN.{length, get_or, take, drop, length-take, length-drop}
use Rattle.refusal.specs.declared.Refusal.{Refusal}
use Rattle.refusal.specs.Answer.{first_of}
use Rattle.refusal.specs.Table.{Decides, Keeps}
use Rattle.refusal.proofs.Tables.{keeps_before, decides_before}
use Rattle.system.specs.declared.due.Due.{Due}
use Rattle.system.specs.declared.walk.Walk.{Walk}
use Rattle.system.specs.declared.walk.Judgement.{Judgement}
use Rattle.system.specs.Figures.{active_offset, system_of}
use Rattle.system.specs.Walk.{standing_refusal, line_words, due_in}
use Rattle.system.specs.Before.{Untouched}
use Rattle.system.specs.Judgement.{refused_at, accepted_at, judgement_of}
use Rattle.system.proofs.Falls.{due_as_before}
use Rattle.line.specs.Fault.{between_offset, word_refusal, counts_of}
use Rattle.line.specs.Samples.{Samples, active_length, samples_of}
use Rattle.line.specs.Fit.{Measured}
use Rattle.line.proofs.Theorems.{buffer_exact, buffer_decides}
use Rattle.reader.specs.Judge.{report_of, line_refusal, line_judged, judge_refusal, judged_of, active_of, between_packets_of, active_packets_of}
use Rattle.reader.specs.Take.{take_refusal, taken_of, in_turn}
use Rattle.reader.specs.Left.{Stands, Advances}
use Rattle.reader.specs.Before.{judged_before}
use Rattle.reader.specs.Refusals.{judge_refusals, take_refusals}
use Rattle.reader.proofs.Judged.{line_exact, line_decides, judged_as_refused, judged_refused, judged_accepted, number_judged, active_fits, active_refused, active_accepted, between_packets_refused, active_packets_refused, between_packets_accepted, active_packets_accepted, between_packets_fit, active_packets_fit}
use Rattle.reader.proofs.Taken.{into_refused, into_blank, into_picture, told, measured_take, then_taken_is, then_refused, then_told, take_well}

-- ---- Each refusal comes exactly when its condition holds and none earlier does.

module _ (w : Walk) (words : List ℕ) where
  -- Judging, and asking for the active part, keep to the table 1, 2, 4, 3 at 0, lowest offset ..
  pub judge_call_exact : Keeps (judge_refusals w words) (judge_refusal w words)
  judge_call_exact = line_exact (length words) (line_words w) w words

  -- .. which leaves one answer.
  pub judge_call_decides : Decides (judge_refusals w words)
  judge_call_decides = line_decides (length words) (line_words w) w words

  module _ (b : Samples) where
    -- Taking keeps to that table with the rows of its three buffers behind it ..
    pub take_call_exact : Keeps (take_refusals w words b) (take_refusal w words b)
    take_call_exact = keeps_before _ _ (judge_refusal w words) _ judge_call_exact (buffer_exact _ _ _)

    -- .. which leaves one answer.
    pub take_call_decides : Decides (take_refusals w words b)
    take_call_decides = decides_before _ _ judge_call_decides (buffer_decides _ _ _)

-- ---- What judging answers, refused or accepted.

module _ (w : Walk) (words : List ℕ) where
  -- The judgement's number and place are those of the refusal, or both 0.
  pub judged_number : record { number = (judged_of w words).number; place = (judged_of w words).place } ≡ judge_refusal w words
  judged_number = judged_as_refused (length words) (line_words w) w words

  -- A refused line leaves the walk standing, is told as clean, and has no word told as a packet's.
  pub judge_refused_stands : ((judge_refusal w words).number ≡ 0 → ⊥) → judged_of w words ≡ refused_at w (judge_refusal w words)
  judge_refused_stands n = judged_refused (length words) (line_words w) w words _ refl n

  -- An accepted line advances the walk by its report, and has the words of each space told that are packets.
  pub judge_accepted_advances : (judge_refusal w words).number ≡ 0
      → judged_of w words ≡ accepted_at w (due_in w words) (report_of (due_in w words) words) (counts_of (due_in w words) words)
  judge_accepted_advances z = judged_accepted (length words) (line_words w) w words z

-- ---- What taking writes.

module _ (w : Walk) (words : List ℕ) (b : Samples) where
  -- The samples of a line that judges well, whose V is 0, into buffers of the right lengths ..
  pub take_writes : (judge_refusal w words).number ≡ 0 → Measured b → (due_in w words).v ≡ false → taken_of w words b ≡ samples_of (due_in w words) words
  take_writes z m v = into_picture (take_refusal w words b) (due_in w words) words b (measured_take w words b m ∙ z) v

  -- .. and nothing else: where it is refused, ..
  pub take_refused_keeps : ((take_refusal w words b).number ≡ 0 → ⊥) → taken_of w words b ≡ b
  take_refused_keeps n = into_refused (take_refusal w words b) (due_in w words) words b n

  -- .. and on a line of V = 1.
  pub take_blank_keeps : (due_in w words).v ≡ true → taken_of w words b ≡ b
  take_blank_keeps v = into_blank (take_refusal w words b) (due_in w words) words b v

-- ---- What the two in turn leave.

module _ (w : Walk) (words : List ℕ) (b : Samples) where
  -- Their number and place are those that taking answers.
  pub turn_number : told (in_turn w words b).judgement ≡ take_refusal w words b
  turn_number =
      then_told w (judged_of w words) _ (take_refusal w words b) (take_call_exact w words b)
      (λ z. ap told (judge_accepted_advances w words (take_well w words b z)))

  -- A refusal, of the judge or of taking, leaves the walk standing, is told as clean and without packets, and writes no buffer.
  pub refused_stands : ((take_refusal w words b).number ≡ 0 → ⊥) → Stands w b (in_turn w words b)
  refused_stands n =
      rw (then_refused w (judged_of w words) (take_refusal w words b) n)
      (record { walk = refl; report = refl; packets = refl; buffers = take_refused_keeps w words b n })

  -- An accepted line advances the walk by its report, and gives its samples exactly where its V is 0.
  pub accepted_advances : (take_refusal w words b).number ≡ 0 → Advances w words b (in_turn w words b)
  accepted_advances z =
      record {
        answer = then_taken_is w (judged_of w words) (take_refusal w words b) z ∙ judge_accepted_advances w words (take_well w words b z);
        picture = λ v. into_picture (take_refusal w words b) (due_in w words) words b z v;
        blank = λ v. take_blank_keeps w words b v;
      }

-- ---- The active part.

module _ (w : Walk) (words : List ℕ) where
  -- Of an accepted line it is 1440 words of that line, from where its SAV ends.
  pub active_part : (judge_refusal w words).number ≡ 0
      → (active_of w words ≡ take active_length (drop (active_offset (system_of w.system)) words)) × (length (active_of w words) ≡ active_length)
  active_part z =
      let part = active_accepted w words z in
      let fits = active_fits w words z in
      (part, rw part (simp (length-take, length-drop) (omega arith)))

  -- It is empty exactly when judging refuses the line.
  pub active_empty_exactly : (((judged_of w words).number ≡ 0 → ⊥) → active_of w words ≡ [])
      × (active_of w words ≡ [] → (judged_of w words).number ≡ 0 → ⊥)
  active_empty_exactly =
      let same = number_judged (length words) (line_words w) w words in (
        λ n. active_refused w words (λ z. n (same ∙ z)),
        λ empty z. let whole = (active_part (sym same ∙ z)).1 in let gone = ap length empty in omega arith,
      )

-- ---- The packets.

module _ (w : Walk) (words : List ℕ) where
  -- Of an accepted line they are the first words of the space between EAV and SAV, as many as judging tells, ..
  pub between_packets : (judge_refusal w words).number ≡ 0
      → (between_packets_of w words ≡ take (judged_of w words).packets.between (drop between_offset words))
      × (length (between_packets_of w words) ≡ (judged_of w words).packets.between)
  between_packets z =
      let part = between_packets_accepted w words z in
      let fits = between_packets_fit w words z in
      (part, rw part (simp (length-take, length-drop) (omega arith)))

  -- .. and the first words of its active part.
  pub active_packets : (judge_refusal w words).number ≡ 0
      → (active_packets_of w words ≡ take (judged_of w words).packets.active (drop (active_offset (system_of w.system)) words))
      × (length (active_packets_of w words) ≡ (judged_of w words).packets.active)
  active_packets z =
      let part = active_packets_accepted w words z in
      let fits = active_packets_fit w words z in
      (part, rw part (simp (length-take, length-drop) (omega arith)))

  -- Where judging refuses the line there are none.
  pub packets_refused_empty : ((judged_of w words).number ≡ 0 → ⊥) → (between_packets_of w words ≡ []) × (active_packets_of w words ≡ [])
  packets_refused_empty n =
      let bad : ((judge_refusal w words).number ≡ 0 → ⊥) = λ z. n (number_judged (length words) (line_words w) w words ∙ z) in
      (between_packets_refused w words bad, active_packets_refused w words bad)

-- ---- Two results that a contract allows for one input are the same.

-- Of judging.
pub judge_one_result : (w : Walk) (words : List ℕ) (r s : Judgement) → r ≡ judged_of w words → s ≡ judged_of w words → r ≡ s
judge_one_result w words r s e f = e ∙ sym f

-- Of the active part.
pub active_one_result : (w : Walk) (words r s : List ℕ) → r ≡ active_of w words → s ≡ active_of w words → r ≡ s
active_one_result w words r s e f = e ∙ sym f

-- Of the packets.
pub between_packets_one_result : (w : Walk) (words r s : List ℕ) → r ≡ between_packets_of w words → s ≡ between_packets_of w words → r ≡ s
between_packets_one_result w words r s e f = e ∙ sym f

pub active_packets_one_result : (w : Walk) (words r s : List ℕ) → r ≡ active_packets_of w words → s ≡ active_packets_of w words → r ≡ s
active_packets_one_result w words r s e f = e ∙ sym f

-- what taking may leave: the answer, and the buffers after it
pub record Took (w : Walk) (words : List ℕ) (before : Samples) (r : Refusal) (after : Samples) : Type 0 where
  pub answer : r ≡ take_refusal w words before
  pub ys : after.y ≡ (taken_of w words before).y
  pub cbs : after.cb ≡ (taken_of w words before).cb
  pub crs : after.cr ≡ (taken_of w words before).cr

-- Of taking: the answer and every word of the three buffers.
pub take_one_result : (w : Walk) (words : List ℕ) (before : Samples) (r s : Refusal) (after-r after-s : Samples)
    → Took w words before r after-r → Took w words before s after-s
    → (r ≡ s) × (after-r.y ≡ after-s.y) × (after-r.cb ≡ after-s.cb) × (after-r.cr ≡ after-s.cr)
take_one_result w words before r s after-r after-s a b =
    (a.answer ∙ sym b.answer, a.ys ∙ sym b.ys, a.cbs ∙ sym b.cbs, a.crs ∙ sym b.crs)

-- ---- Lines that L1 does not touch are judged as before: those of 625, and of 525 whose EAV corrects to the table's V or does not correct,
-- wherever the record says no or is not looked at.
pub judged_as_before : (w : Walk) (words : List ℕ) → Untouched w (get_or words 3 0) → judged_of w words ≡ judged_before w words
unfolding line_judged line_refusal
judged_as_before w words untouched =
    ap (λ (d : Due). judgement_of (first_of (standing_refusal w (length words) (line_words w) ∷ word_refusal d words ∷ [])) w d (report_of d words) (counts_of d words))
    (due_as_before w (get_or words 3 0) untouched)
