-- Documents 01 and 02: the whole answer of judging a line at a walk: number, place, report, walk, packets; its active part, and its packets.
use Rattle.std.specs.Prelude.{ℕ, ◌+◌, List, [], ◌∷◌, cond, length, get_or, take, drop, eqb}
use Rattle.refusal.specs.declared.Refusal.{Refusal}
use Rattle.refusal.specs.Answer.{first_of}
use Rattle.timing.specs.declared.Report.{Report}
use Rattle.timing.specs.Code.{correction_of}
use Rattle.timing.specs.Report.{code_report_of}
use Rattle.system.specs.declared.due.Due.{Due}
use Rattle.system.specs.declared.walk.Walk.{Walk}
use Rattle.system.specs.declared.walk.Judgement.{Judgement}
use Rattle.system.specs.Figures.{sav_offset, active_offset, system_of}
use Rattle.system.specs.Walk.{standing_refusal, line_words, due_in}
use Rattle.system.specs.Judgement.{judgement_of}
use Rattle.line.specs.Fault.{word_refusal, counts_of}
use Rattle.line.specs.Samples.{active_length, packets_of}

-- "A line's report carries both codes' reports in one record."
unfoldable pub report_of : Due → List ℕ → Report
report_of d words =
    record {
      eav = code_report_of (correction_of (get_or words 3 0));
      sav = code_report_of (correction_of (get_or words (sav_offset d.system + 3) 0));
    }

-- "Reader: 1, 2, 4, 3, then the lowest offset with any fault": the order for all who judge a line at a walk. So many words, or bytes, are
-- given and so many due.
unfoldable pub line_refusal : ℕ → ℕ → Walk → List ℕ → Refusal
line_refusal given due w words = first_of (standing_refusal w given due ∷ word_refusal (due_in w words) words ∷ [])

-- and the whole judgement of it
unfoldable pub line_judged : ℕ → ℕ → Walk → List ℕ → Judgement
unfolding line_refusal
line_judged given due w words =
    judgement_of (line_refusal given due w words) w (due_in w words) (report_of (due_in w words) words) (counts_of (due_in w words) words)

-- of words
abbrev pub judge_refusal : Walk → List ℕ → Refusal
judge_refusal w words = line_refusal (length words) (line_words w) w words

abbrev pub judged_of : Walk → List ℕ → Judgement
judged_of w words = line_judged (length words) (line_words w) w words

-- "it gets the part of its own slice ..; and an empty part exactly when reading that line at that walk would be refused; sample
-- buffers play no role in this call": when judging refuses it
unfoldable pub active_of : Walk → List ℕ → List ℕ
active_of w words = cond (eqb (judge_refusal w words).number 0) (take active_length (drop (active_offset (system_of w.system)) words)) []

-- "how many words of each space are packets": the part of the caller's own slice in which those of the space between stand, and of the active
-- part; empty where judging refuses the line
unfoldable pub between_packets_of : Walk → List ℕ → List ℕ
between_packets_of w words = cond (eqb (judge_refusal w words).number 0) (packets_of (due_in w words) words).between []

unfoldable pub active_packets_of : Walk → List ℕ → List ℕ
active_packets_of w words = cond (eqb (judge_refusal w words).number 0) (packets_of (due_in w words) words).active []
