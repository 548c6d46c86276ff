-- Judging by what was due before L1, for one statement: lines that L1 does not touch are judged as before.
use Rattle.std.specs.Prelude.{ℕ, List, [], ◌∷◌, length}
use Rattle.refusal.specs.Answer.{first_of}
use Rattle.system.specs.declared.walk.Walk.{Walk}
use Rattle.system.specs.declared.walk.Judgement.{Judgement}
use Rattle.system.specs.Walk.{standing_refusal, line_words}
use Rattle.system.specs.Before.{table_due}
use Rattle.system.specs.Judgement.{judgement_of}
use Rattle.line.specs.Fault.{word_refusal, counts_of}
use Rattle.reader.specs.Judge.{report_of}

-- Only what is due is former: the order, the report and the walk, with its record, are those in force.
abbrev pub judged_before : Walk → List ℕ → Judgement
judged_before w words =
    judgement_of (first_of (standing_refusal w (length words) (line_words w) ∷ word_refusal (table_due w) words ∷ [])) w (table_due w)
    (report_of (table_due w) words) (counts_of (table_due w) words)
