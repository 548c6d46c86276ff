-- `reader::accepted` meets its contract: each refusal in its turn, by the laws of the judgement. Assumes nothing.
use Rattle.std.proofs.Common.{rules, ℕ, ◌<◌, ◌≡◌, sym, ap, ◌∙◌, List, length, get_or}
use mathlib.Core.Path.{ap₂}
use native.Mathlib.Omega.{arith}
use Rattle.refusal.specs.Answer.{none}
use Rattle.refusal.specs.Reasons.{answered}
use Rattle.refusal.proofs.Firsts.{same_number}
use Rattle.refusal.proofs.Results.{err_first}
use Rattle.timing.specs.declared.Report.{Report}
use Rattle.system.specs.declared.due.Due.{Due}
use Rattle.system.specs.declared.walk.Walk.{Walk}
use Rattle.system.specs.declared.walk.PacketWords.{PacketWords}
use Rattle.system.specs.Figures.{line_length, system_of}
use Rattle.system.specs.Walk.{standing_refusal, line_words, due_in}
use Rattle.system.specs.Judgement.{moved_at}
use Rattle.system.proofs.Laws.{line_is_parts, due_system, accepted_stood}
use Rattle.line.specs.Fault.{word_refusal, counts_of}
use Rattle.reader.specs.Judge.{line_refusal, judge_refusal, report_of, judged_of}
use Rattle.reader.proofs.Judged.{line_words_are, judged_moved}
use Rattle.reader.proofs.accepted.Goals as goal

-- a line that the walk awaits, and what is due in it
module _ (w : Walk) (words : List ℕ) (size : ℕ) (is-size : size ≡ line_words w) (stood : none ≡ standing_refusal w (length words) size) where
  stands : (standing_refusal w (length words) (line_words w)).number ≡ 0
  stands = sym (same_number (stood ∙ ap (standing_refusal w (length words)) is-size))

  -- it has its words
  whole : length words ≡ line_words w
  whole = (accepted_stood w (length words) (line_words w) stands).size

  long : 3 < length words
  long = omega (arith, whole, line_is_parts (system_of w.system))

  module _ (d : Due) (is_due : d ≡ due_in w words) where
    of_system : length words ≡ line_length d.system
    of_system = whole ∙ ap line_length (sym (due_system w (get_or words 3 0)) ∙ ap (λ (x : Due). x.system) (sym is_due))

    fault_due : word_refusal d words ≡ judge_refusal w words
    fault_due =
        ap (λ (x : Due). word_refusal x words) is_due ∙ sym (line_words_are (length words) (line_words w) w words stands)

    accepted_words : (report : Report) (packets : PacketWords) → none ≡ word_refusal d words → report ≡ report_of d words → packets ≡ counts_of d words
        → moved_at w d report packets ≡ judged_of w words
    accepted_words report packets well is-report is-counted =
        ap₂ (moved_at w d) is-report is-counted ∙ ap (λ (x : Due). moved_at w x (report_of x words) (counts_of x words)) is_due
        ∙ sym (judged_moved (length words) (line_words w) w words (sym (same_number (well ∙ fault_due))))

pub returns-in_err-standing-clause-answer : goal.returns-in_err-standing-clause-answer
unfolding line_refusal
returns-in_err-standing-clause-answer c =
    let a = c.args in
    let e : answered c.from_residual.result ≡ standing_refusal a.walk (length a.words.now) c.line_words.result = search rules in
    err_first c.from_residual.result _ _ c.from_residual.ensures.0 (e ∙ ap (standing_refusal a.walk (length a.words.now)) c.line_words.ensures)

pub bounds-words-3 : goal.bounds-words-3
bounds-words-3 c = long c.args.walk c.args.words.now _ c.line_words.ensures c.in_ok-standing.ensures

pub invariant_of-line : goal.invariant_of-line
invariant_of-line c = record { whole = of_system c.args.walk c.args.words.now _ c.line_words.ensures c.in_ok-standing.ensures _ c.due-due.ensures }

pub returns-in_err-packets-clause-answer : goal.returns-in_err-packets-clause-answer
returns-in_err-packets-clause-answer c =
    let e : answered c.from_residual-in_err-packets.result ≡ word_refusal c.due-due.result c.args.words.now = search rules in
    e ∙ fault_due c.args.walk c.args.words.now _ c.line_words.ensures c.in_ok-standing.ensures _ c.due-due.ensures

pub returns-clause-answer : goal.returns-clause-answer
returns-clause-answer c =
    c.in_ok-packets.ensures.answer
    ∙ fault_due c.args.walk c.args.words.now _ c.line_words.ensures c.in_ok-standing.ensures _ c.due-due.ensures

pub returns-clause-judgement : goal.returns-clause-judgement
returns-clause-judgement c =
    c.accepted.ensures
    ∙ accepted_words c.args.walk c.args.words.now _ c.line_words.ensures c.in_ok-standing.ensures _ c.due-due.ensures _ _
    c.in_ok-packets.ensures.answer c.report.ensures c.in_ok-packets.ensures.packets
