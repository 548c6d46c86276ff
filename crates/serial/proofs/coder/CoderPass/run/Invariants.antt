-- `run` of the coder meets its contract: after i words what is held is the past after them, and i words are stored. Assumes nothing.
use mathlib.Core.Path.{◌≡◌}
use lib.ListN.{take}
use Rattle.serial.specs.Serial.{ends}
use Rattle.serial.specs.Held.{past_held}
use Rattle.serial.proofs.Steps.{code, after_code}
use Rattle.serial.proofs.Run.{Stored}
use Rattle.serial.proofs.coder.CoderPass.run.Given as goal

abbrev pub invariant-loop-i : goal.invariant-loop-i
invariant-loop-i l =
    let start = past_held l.initial.held in
    record {
      past : past_held l.held ≡ ends code after_code start (take l.i l.words);
      stored : Stored code after_code start l.words l.i l.out;
    }
