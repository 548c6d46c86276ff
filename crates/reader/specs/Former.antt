-- The order of document 01 before L7 amended it, for one statement: judging and taking in turn differ from it in nothing else.
use Rattle.std.specs.Prelude.{ℕ, ◌≡◌, List, [], ◌∷◌, length}
use Rattle.refusal.specs.Answer.{first_of}
use Rattle.system.specs.declared.walk.Walk.{Walk}
use Rattle.system.specs.Walk.{standing_refusal, line_words, due_in}
use Rattle.system.specs.Judgement.{refused_at, judgement_of}
use Rattle.line.specs.Fault.{word_refusal, counts_of}
use Rattle.line.specs.Lengths.{buffer_refusal}
use Rattle.line.specs.Samples.{Samples}
use Rattle.reader.specs.Judge.{report_of}
use Rattle.reader.specs.Take.{taken_into, Turn, in_turn}

-- One call read a line and took its samples: "1, 2, 4, 3" with all of 3's places, "then the lowest offset with any fault". Only the order
-- is former: what refuses, what is due, the report and the next walk are those in force.
unfoldable pub former : Walk → List ℕ → Samples → Turn
former w words b =
    let r = first_of
    (standing_refusal w (length words) (line_words w)
    ∷ buffer_refusal (length b.y) (length b.cb) (length b.cr)
    ∷ word_refusal (due_in w words) words
    ∷ []) in
    record {
      judgement = judgement_of r w (due_in w words) (report_of (due_in w words) words) (counts_of (due_in w words) words);
      buffers = taken_into r (due_in w words) words b;
    }

-- a word is refused, nothing before the words is, and a buffer has a wrong length
pub record Both (w : Walk) (words : List ℕ) (b : Samples) : Type 0 where
  pub stands : (standing_refusal w (length words) (line_words w)).number ≡ 0
  pub word : (word_refusal (due_in w words) words).number ≡ 0 → ⊥
  pub buffer : (buffer_refusal (length b.y) (length b.cb) (length b.cr)).number ≡ 0 → ⊥

-- "A word's refusal now comes before a sample buffer's ..; otherwise the two in turn must equal the old answer": they differ from the former
-- answer exactly there, and there the word's refusal is answered.
pub record OrderAmended (w : Walk) (words : List ℕ) (b : Samples) : Type 0 where
  pub otherwise : (Both w words b → ⊥) → in_turn w words b ≡ former w words b
  pub word_first : Both w words b
      → in_turn w words b ≡ record { judgement = refused_at w (word_refusal (due_in w words) words); buffers = b }
  pub differs : Both w words b → in_turn w words b ≡ former w words b → ⊥
