-- `run` of the decoder meets its contract: i words are stored; a word settles the past after it. Assumes nothing.
use Rattle.serial.specs.Held.{past_held}
use Rattle.serial.proofs.Steps.{decode, after_decode}
use Rattle.serial.proofs.Run.{Stored}
use Rattle.serial.proofs.decoder.DecoderPass.run.Given as goal

abbrev pub invariant-loop-i : goal.invariant-loop-i
invariant-loop-i l = Stored decode after_decode (past_held l.fn.held) l.words l.i l.out
