-- `run` of the coder meets its contract: after i words what is held is the past after them, and i words are stored. Assumes nothing.
use native.Mathlib.Omega.{arith}
use mathlib.Core.Path.{sym, ap, ◌∙◌}
use lib.ListN.{get_or}
use Rattle.serial.specs.Serial.{Past}
use Rattle.serial.proofs.Steps.{code, after_code}
use Rattle.serial.proofs.Run.{ends_next, stored_next, stored_all}
use Rattle.serial.proofs.coder.CoderPass.run.Goals as goal

pub loop-i-preserved : goal.loop-i-preserved
loop-i-preserved c =
    let inside = c.loop-i-test.true in
    let inv = c.loop-i.invariant in
    let w = get_or c.args.words.now c.loop-i.i 0 in
    let turn = c.code_word-coded.ensures in
    record {
      past = turn.past ∙ ap (λ (s : Past). after_code s w) inv.past ∙ sym (ends_next code after_code _ _ c.loop-i.i inside);
      stored = stored_next (omega arith) inv.stored inside (turn.word ∙ ap (λ (s : Past). code s w) inv.past);
    }

pub returns-clause-output : goal.returns-clause-output
returns-clause-output c = stored_all (omega arith) c.loop-i.invariant.stored (omega arith)
