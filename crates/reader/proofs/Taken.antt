-- Laws of taking, and of judging and taking in turn: what is known of a line that is taken, the buffers, and the judgement of both. Assumes
-- nothing.
use Prim.Native.Nat.{ℕ}
use mathlib.Core.Path.{◌≡◌, refl, sym, ap, ◌∙◌}
use mathlib.Core.Bool.{true, false}
use mathlib.Core.List.{List}
use lib.Dec.{eqb}
use lib.ListN.{length}
use borrow.Author.Tests.{eq-eqb, ne_eqb, eqb-true, eqb-false}
use Rattle.refusal.specs.declared.Refusal.{Refusal}
use Rattle.refusal.specs.Answer.{none, or_else}
use Rattle.refusal.specs.Table.{Row, Keeps}
use Rattle.refusal.proofs.Cases.{by_test}
use Rattle.refusal.proofs.Firsts.{or_else_accepted, or_else_refused, or_else_none, same_number}
use Rattle.refusal.proofs.Tables.{keeps_none}
use Rattle.timing.specs.declared.Report.{Report}
use Rattle.system.specs.declared.due.Due.{Due}
use Rattle.system.specs.declared.walk.Walk.{Walk}
use Rattle.system.specs.declared.walk.PacketWords.{PacketWords}
use Rattle.system.specs.declared.walk.Judgement.{Judgement}
use Rattle.system.specs.Walk.{line_words, due_in}
use Rattle.system.specs.Judgement.{refused_at, judgement_of}
use Rattle.system.proofs.Laws.{judgement_accepted, judgement_refused}
use Rattle.line.specs.Fault.{counts_of}
use Rattle.line.specs.Lengths.{buffer_refusal}
use Rattle.line.specs.Samples.{Samples, samples_of}
use Rattle.line.specs.Fit.{Measured}
use Rattle.line.proofs.Lengths.{measured_accepted, accepted_measured}
use Rattle.reader.proofs.Judged.{judged_refused}
use Rattle.reader.specs.Judge.{report_of, line_judged, judge_refusal, judged_of}
use Rattle.reader.specs.Take.{take_refusal, taken_into, then_taken, Turn, in_turn}

-- ---- a judgement, and then what taking answers
module _ (w : Walk) (j : Judgement) (taking : Refusal) where
  pub then_taken_is : taking.number ≡ 0 → then_taken w j taking ≡ j
  unfolding then_taken
  then_taken_is z = simp (eq-eqb _ _ z)

  pub then_refused : (taking.number ≡ 0 → ⊥) → then_taken w j taking ≡ refused_at w taking
  unfolding then_taken
  then_refused n = simp (ne_eqb _ _ n)

-- the number and the place that a judgement tells
abbrev pub told : Judgement → Refusal
told j = record { number = j.number; place = j.place }

-- the two tell what taking answers
pub then_told : (w : Walk) (j : Judgement) (table : Row) (taking : Refusal) → Keeps table taking → (taking.number ≡ 0 → told j ≡ none)
    → told (then_taken w j taking) ≡ taking
then_told w j table taking kept well =
    by_test (eqb taking.number 0)
    (λ t. let z = eqb-true _ _ t in ap told (then_taken_is w j taking z) ∙ well z ∙ sym (keeps_none table taking kept z))
    (λ f. ap told (then_refused w j taking (eqb-false _ _ f)))

-- where taking answers the judge's refusal, and then one of its own, the two are judged by the first of these
pub then_judged : (line room : Refusal) (w : Walk) (d : Due) (report : Report) (packets : PacketWords)
    → then_taken w (judgement_of line w d report packets) (or_else line room) ≡ judgement_of (or_else line room) w d report packets
then_judged line room w d report packets =
    by_test (eqb (or_else line room).number 0)
    (λ t.
    let z = eqb-true _ _ t in
    then_taken_is w _ (or_else line room) z ∙ judgement_accepted line w d report packets (or_else_none line room z).0
    ∙ sym (judgement_accepted (or_else line room) w d report packets z))
    (λ f.
    let n = eqb-false _ _ f in
    then_refused w _ (or_else line room) n ∙ sym (judgement_refused (or_else line room) w d report packets n))

-- ---- the buffers, where this is what refuses
module _ (r : Refusal) (d : Due) (words : List ℕ) (b : Samples) where
  pub into_refused : (r.number ≡ 0 → ⊥) → taken_into r d words b ≡ b
  unfolding taken_into
  into_refused n = simp (ne_eqb _ _ n)

  pub into_blank : d.v ≡ true → taken_into r d words b ≡ b
  unfolding taken_into
  into_blank v = by_test (eqb r.number 0) (λ t. simp (t, v)) (λ f. simp f)

  pub into_picture : r.number ≡ 0 → d.v ≡ false → taken_into r d words b ≡ samples_of d words
  unfolding taken_into
  into_picture z v = simp (eq-eqb _ _ z, v)

-- ---- the two in turn
module _ (w : Walk) (words : List ℕ) (b : Samples) where
  abbrev buffers : Refusal
  buffers = buffer_refusal (length b.y) (length b.cb) (length b.cr)

  -- of a line that is taken
  pub take_well : (take_refusal w words b).number ≡ 0 → (judge_refusal w words).number ≡ 0
  take_well z = (or_else_none (judge_refusal w words) buffers z).0

  pub take_measured : (take_refusal w words b).number ≡ 0 → Measured b
  take_measured z = accepted_measured b (or_else_none (judge_refusal w words) buffers z).1

  -- with buffers of the right lengths only the judge refuses
  pub measured_take : Measured b → (take_refusal w words b).number ≡ (judge_refusal w words).number
  measured_take m =
      by_test (eqb (judge_refusal w words).number 0)
      (λ t. let z = eqb-true _ _ t in same_number (or_else_accepted (judge_refusal w words) buffers z ∙ measured_accepted b m) ∙ sym z)
      (λ f. same_number (or_else_refused (judge_refusal w words) buffers (eqb-false _ _ f)))

  -- where the judge refuses, its answer is that of both
  pub refused_turn : ((judge_refusal w words).number ≡ 0 → ⊥) → in_turn w words b ≡ record { judgement = judged_of w words; buffers = b }
  refused_turn n =
      let first = or_else_refused (judge_refusal w words) buffers n in
      rw first
      (rw (
        then_refused w (judged_of w words) (judge_refusal w words) n,
        judged_refused (length words) (line_words w) w words _ refl n,
        into_refused (judge_refusal w words) (due_in w words) words b n,
      ))

  pub measured_turn : Measured b → (in_turn w words b).judgement ≡ judged_of w words
  measured_turn m =
      by_test (eqb (judge_refusal w words).number 0)
      (λ t. then_taken_is w (judged_of w words) (take_refusal w words b) (measured_take m ∙ eqb-true _ _ t))
      (λ f. ap (λ (t : Turn). t.judgement) (refused_turn (eqb-false _ _ f)))

  pub turn_judged : (in_turn w words b).judgement
      ≡ judgement_of (take_refusal w words b) w (due_in w words) (report_of (due_in w words) words) (counts_of (due_in w words) words)
  unfolding line_judged
  turn_judged = then_judged (judge_refusal w words) buffers w (due_in w words) (report_of (due_in w words) words) (counts_of (due_in w words) words)
