-- What judging and taking in turn answer to one line at a walk that refuses none, with buffers of the right lengths. Assumes nothing.
use Prim.Native.Nat.{ℕ, zero, suc, ◌+◌, ◌*◌, ◌≤◌}
use mathlib.Core.Path.{◌≡◌, refl, sym, ◌∙◌}
use mathlib.Core.List.{List}
use mathlib.Core.Bool.{Bool, true, false}
use native.Mathlib.Omega.{arith}
use lib.Dec.{eqb}
use lib.ListN.{length}
use Rattle.refusal.specs.declared.Refusal.{Refusal}
use Rattle.refusal.specs.Answer.{none}
use Rattle.refusal.proofs.Cases.{by_test}
use Rattle.refusal.proofs.Firsts.{same_number}
use Rattle.timing.specs.Code.{v_bit}
use Rattle.timing.proofs.Laws.{found}
use Rattle.system.specs.declared.due.Due.{Due}
use Rattle.system.specs.declared.walk.Walk.{Walk}
use Rattle.system.specs.Due.{flag, flags_of}
use Rattle.system.specs.Walk.{v_seen, line_words, due_in}
use Rattle.system.specs.Judgement.{accepted_at, refused_at}
use Rattle.system.proofs.Laws.{Good, good_accepted, accepted_good, standing_accepted}
use Rattle.line.specs.Fault.{word_refusal, counts_of}
use Rattle.line.specs.Samples.{Samples, samples_of}
use Rattle.line.specs.Fit.{Measured}
use Rattle.line.proofs.Places.{taken_measured}
use Rattle.reader.specs.Judge.{judge_refusal, report_of}
use Rattle.reader.specs.Left.{Advances}
use Rattle.reader.specs.Take.{in_turn}
use Rattle.reader.proofs.Judged.{line_words_are, accepted, judged_accepted, judged_refused}
use Rattle.reader.proofs.Taken.{take_well, measured_turn}
use Rattle.reader.proofs.Theorems.{turn_number, accepted_advances}

-- V of a code that was found, and of the flags that are due
pub found_seen : (fvh p n : ℕ) → n ≤ 1 → v_seen (found fvh p n) ≡ eqb (v_bit fvh) 1
found_seen fvh p zero l = refl
found_seen fvh p (suc zero) l = refl
found_seen fvh p (suc (suc n)) l = absurd (omega arith)

v_of_flags : (f v h : Bool) → eqb (v_bit (4 * flag f + 2 * flag v + flag h)) 1 ≡ v
v_of_flags true true true = refl
v_of_flags true true false = refl
v_of_flags true false true = refl
v_of_flags true false false = refl
v_of_flags false true true = refl
v_of_flags false true false = refl
v_of_flags false false true = refl
v_of_flags false false false = refl

pub flags_seen : (d : Due) (h : Bool) → eqb (v_bit (flags_of d h)) 1 ≡ d.v
unfolding flags_of
flags_seen d h = v_of_flags d.f d.v h

module _ (w : Walk) (good : Good w) (b : Samples) (m : Measured b) (words : List ℕ) where
  module _ (size : length words ≡ line_words w) where
    -- only the words can refuse
    only_words : judge_refusal w words ≡ word_refusal (due_in w words) words
    only_words =
        line_words_are (length words) (line_words w) w words
        (same_number (standing_accepted w (length words) (line_words w) (same_number (good_accepted w good)) size))

    pub accepted_answer : word_refusal (due_in w words) words ≡ none
        → (in_turn w words b).judgement ≡ accepted_at w (due_in w words) (report_of (due_in w words) words) (counts_of (due_in w words) words)
    accepted_answer e = measured_turn w words b m ∙ judged_accepted (length words) (line_words w) w words (same_number (only_words ∙ e))

    pub refused_answer : (r : Refusal) → (r.number ≡ 0 → ⊥) → word_refusal (due_in w words) words ≡ r → (in_turn w words b).judgement ≡ refused_at w r
    refused_answer r n e = measured_turn w words b m ∙ judged_refused (length words) (line_words w) w words r (only_words ∙ e) n

-- the walk refuses none, the line has its length, and no word is refused
pub record Accepted (w : Walk) (words : List ℕ) : Type 0 where
  pub good : Good w
  pub size : length words ≡ line_words w
  pub words_accepted : (word_refusal (due_in w words) words).number ≡ 0

-- where the two in turn accept a line
module _ (w : Walk) (b : Samples) (words : List ℕ) (accepts : (in_turn w words b).judgement.number ≡ 0) where
  left : Advances w words b (in_turn w words b)
  left = accepted_advances w words b (same_number (sym (turn_number w words b)) ∙ accepts)

  pub accepted_judgement : (in_turn w words b).judgement ≡ accepted_at w (due_in w words) (report_of (due_in w words) words) (counts_of (due_in w words) words)
  accepted_judgement = left.answer

  pub picture_buffers : (due_in w words).v ≡ false → (in_turn w words b).buffers ≡ samples_of (due_in w words) words
  picture_buffers v = left.picture v

  pub buffers_measured : Measured b → Measured (in_turn w words b).buffers
  buffers_measured m =
      by_test (due_in w words).v
      (λ v. rw (left.blank v) m) (λ v. rw (picture_buffers v) (taken_measured (due_in w words) words))

  pub answered_accepted : Accepted w words
  answered_accepted =
      let well = take_well w words b (same_number (sym (turn_number w words b)) ∙ accepts) in
      let a = accepted (length words) (line_words w) w words well in
      record { good = accepted_good w a.walk; size = a.size; words_accepted = a.well }
