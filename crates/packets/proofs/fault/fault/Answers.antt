-- `packets::fault::fault` meets its contract: case by case. Assumes nothing.
use Rattle.std.proofs.Common.{ℕ, Bool, ap, ◌∙◌, sym}
use Rattle.std.specs.Prelude.{cond, eqb}
use lib.Dec.{ltb}
use borrow.Author.Tests.{lt-ltb, le-ltb}
use Rattle.refusal.specs.Numbers.{reserved, packet_past}
use Rattle.refusal.specs.Reasons.{fault_number}
use Rattle.refusal.proofs.Results.{then_counts, unless_counts}
use Rattle.packets.specs.Fault.{fault_where}
use Rattle.packets.proofs.fault.fault.Goals as goal

pub returns-then-word-gt-MOST_WORD : goal.returns-then-word-gt-MOST_WORD
unfolding fault_where
returns-then-word-gt-MOST_WORD c = simp (lt-ltb _ _ c.if-word-gt-MOST_WORD.true)

pub returns-in-Exactly : goal.returns-in-Exactly
unfolding fault_where
returns-in-Exactly c =
    simp (le-ltb _ _ c.if-word-gt-MOST_WORD.false, c.in-Exactly.is)
    (ap fault_number c.then_some.ensures ∙ unless_counts (eqb c.args.word c.in-Exactly.exact) _)

pub returns-then-header_well : goal.returns-then-header_well
unfolding fault_where
returns-then-header_well c =
    simp (le-ltb _ _ c.if-word-gt-MOST_WORD.false, c.in-Count.is, sym c.header_well-in-Count.ensures ∙ c.if-header_well.true)
    (ap fault_number c.then_some-then-header_well.ensures ∙ then_counts _ _ ∙ ap (λ (n : ℕ). cond (ltb c.in-Count.room n) packet_past 0) c.low.ensures)

pub returns-else-header_well : goal.returns-else-header_well
unfolding fault_where
returns-else-header_well c =
    simp (le-ltb _ _ c.if-word-gt-MOST_WORD.false, c.in-Count.is, sym c.header_well-in-Count.ensures ∙ c.if-header_well.false)

pub returns-in-User : goal.returns-in-User
unfolding fault_where
returns-in-User c =
    simp (le-ltb _ _ c.if-word-gt-MOST_WORD.false, c.in-User.is)
    (ap fault_number c.then_some-in-User.ensures ∙ then_counts _ _ ∙ ap (λ (t : Bool). cond t reserved 0) c.reserved.ensures)

pub returns-in-Checksum : goal.returns-in-Checksum
unfolding fault_where
returns-in-Checksum c =
    simp (le-ltb _ _ c.if-word-gt-MOST_WORD.false, c.in-Checksum.is)
    (ap fault_number c.then_some-in-Checksum.ensures ∙ unless_counts (eqb c.args.word c.in-Checksum.sum) _)

pub returns-in-Header : goal.returns-in-Header
unfolding fault_where
returns-in-Header c =
    simp (le-ltb _ _ c.if-word-gt-MOST_WORD.false, c.in-Header.is, sym c.header_well.ensures)
    (ap fault_number c.then_some-in-Header.ensures ∙ unless_counts c.header_well.result _)
