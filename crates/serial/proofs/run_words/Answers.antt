-- `run_words` meets its contract: it refuses before the first store, and otherwise runs from the state held. Assumes nothing.
use mathlib.Core.Path.{sym, ap, ◌∙◌}
use Rattle.refusal.proofs.Firsts.{same_number}
use Rattle.refusal.proofs.Results.{reason_counts}
use Rattle.serial.specs.Serial.{Past, outs}
use Rattle.serial.proofs.Refusals.{accepted}
use Rattle.serial.proofs.Answers.{refused_call, accepted_call}
use Rattle.serial.proofs.run_words.Goals as goal

pub returns-in-Err-clause-output : goal.returns-in-Err-clause-output
returns-in-Err-clause-output g c =
    let a = c.args in
    sym (refused_call g.P.Pass.word g.P.Pass.past a.state a.words.now a.out.now
    (λ z. reason_counts c.in-Err.refused.reason (same_number c.in-Err.ensures ∙ z))).1

pub of-requires : goal.of-requires
of-requires g c = (accepted _ _ _ (sym (same_number c.in_default.ensures))).one

pub run-after-requires : goal.run-after-requires
run-after-requires g c =
    let input = accepted _ _ _ (sym (same_number c.in_default.ensures)) in
    record { small = input.small; room = input.same }

pub returns-clause-output : goal.returns-clause-output
returns-clause-output g c =
    let a = c.args in
    c.run-after.ensures.output ∙ ap (λ (s : Past). outs g.P.Pass.word g.P.Pass.past s a.words.now) c.of.ensures
    ∙ sym (accepted_call g.P.Pass.word g.P.Pass.past a.state a.words.now a.out.now (sym (same_number c.in_default.ensures))).1
