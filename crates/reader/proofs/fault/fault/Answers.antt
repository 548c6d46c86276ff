-- `reader::fault::fault` meets its contract, case by case. Assumes nothing.
use Rattle.std.proofs.Common.{Bool, ap, ◌∙◌}
use Rattle.std.specs.Prelude.{cond, eqb}
use borrow.Author.Tests.{lt-ltb, le-ltb}
use Rattle.refusal.specs.Numbers.{reserved}
use Rattle.refusal.specs.Reasons.{fault_number}
use Rattle.refusal.proofs.Results.{then_counts, unless_counts}
use Rattle.line.specs.Fault.{fault_where}
use Rattle.reader.proofs.fault.fault.Goals as goal

pub returns-then-word-gt-MOST_WORD : goal.returns-then-word-gt-MOST_WORD
unfolding fault_where
returns-then-word-gt-MOST_WORD c = simp (lt-ltb _ _ c.if-word-gt-MOST_WORD.true)

pub returns-in-Ones : goal.returns-in-Ones
unfolding fault_where
returns-in-Ones c =
    simp (le-ltb _ _ c.if-word-gt-MOST_WORD.false, c.in-Ones.is) (ap fault_number c.then_some.ensures ∙ then_counts _ _)

pub returns-in-Zeros : goal.returns-in-Zeros
unfolding fault_where
returns-in-Zeros c =
    simp (le-ltb _ _ c.if-word-gt-MOST_WORD.false, c.in-Zeros.is) (ap fault_number c.then_some-in-Zeros.ensures ∙ then_counts _ _)

pub returns-in-Fourth : goal.returns-in-Fourth
unfolding fault_where
returns-in-Fourth c = simp (le-ltb _ _ c.if-word-gt-MOST_WORD.false, c.in-Fourth.is) c.fault.ensures

pub returns-in-Fill : goal.returns-in-Fill
unfolding fault_where
returns-in-Fill c =
    simp (le-ltb _ _ c.if-word-gt-MOST_WORD.false, c.in-Fill.is)
    (ap fault_number c.then_some-in-Fill.ensures ∙ unless_counts (eqb c.args.word c.in-Fill.fill) _)

pub returns-in-Sample : goal.returns-in-Sample
unfolding fault_where
returns-in-Sample c =
    simp (le-ltb _ _ c.if-word-gt-MOST_WORD.false, c.in-Sample.is)
    (ap fault_number c.then_some-in-Sample.ensures ∙ then_counts _ _ ∙ ap (λ (t : Bool). cond t reserved 0) c.reserved.ensures)
