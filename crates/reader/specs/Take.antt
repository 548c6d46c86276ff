-- Document 02, L7: taking the samples of a line at a walk, and judging and taking in turn.
use Rattle.std.specs.Prelude.{ℕ, List, cond, length, eqb}
use Rattle.refusal.specs.declared.Refusal.{Refusal}
use Rattle.refusal.specs.Answer.{or_else}
use Rattle.system.specs.declared.due.Due.{Due}
use Rattle.system.specs.declared.walk.Walk.{Walk}
use Rattle.system.specs.declared.walk.Judgement.{Judgement}
use Rattle.system.specs.Walk.{due_in}
use Rattle.system.specs.Judgement.{refused_at}
use Rattle.line.specs.Lengths.{buffer_refusal}
use Rattle.line.specs.Samples.{Samples, samples_of}
use Rattle.reader.specs.Judge.{judge_refusal, judged_of}

-- "Refusals 3 with places 1 to 3 belong to taking", which "answers the judge's number otherwise": "A word's refusal now comes before a
-- sample buffer's". The buffers hold these samples.
abbrev pub take_refusal : Walk → List ℕ → Samples → Refusal
take_refusal w words b = or_else (judge_refusal w words) (buffer_refusal (length b.y) (length b.cb) (length b.cr))

-- The buffers afterwards, where this is what refuses: "No refusal writes a buffer", and with V = 1 they are "neither looked at nor written".
unfoldable pub taken_into : Refusal → Due → List ℕ → Samples → Samples
taken_into r d words b = cond (eqb r.number 0) (cond d.v b (samples_of d words)) b

-- "taking copies samples of a line that judges well"
abbrev pub taken_of : Walk → List ℕ → Samples → Samples
taken_of w words b = taken_into (take_refusal w words b) (due_in w words) words b

-- A judgement, and then what taking answers: where it is refused, "the walk then stands".
unfoldable pub then_taken : Walk → Judgement → Refusal → Judgement
then_taken w judged taking = cond (eqb taking.number 0) judged (refused_at w taking)

-- the two in turn: number, place, report and walk, and the buffers
pub record Turn : Type 0 where
  pub judgement : Judgement
  pub buffers : Samples

abbrev pub in_turn : Walk → List ℕ → Samples → Turn
in_turn w words b = record { judgement = then_taken w (judged_of w words) (take_refusal w words b); buffers = taken_of w words b }
