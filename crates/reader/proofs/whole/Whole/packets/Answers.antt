-- `reader::whole::Whole::packets` meets its contract: where no offset has a fault the scan would find none. Assumes nothing.
use Rattle.std.proofs.Common.{sym, length}
use native.Mathlib.Omega.{arith}
use Rattle.refusal.proofs.Firsts.{first_none}
use Rattle.line.specs.Fault.{fault_at, word_refusal}
use Rattle.reader.proofs.whole.Whole.packets.Goals as goal

pub returns-in-Some-clause-answer : goal.returns-in-Some-clause-answer
unfolding word_refusal
returns-in-Some-clause-answer c =
    let line = c.args.self.now in
    sym (first_none (fault_at line.due line.words.now) (length line.words.now) (λ j l. c.in-Some.ensures.well j (omega (arith, l, line.whole))))
