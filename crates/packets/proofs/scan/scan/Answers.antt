-- `packets::scan::scan` meets its contract: nothing passed is wrong, and what holds the offset is known. Assumes nothing.
use Rattle.std.proofs.Common.{sym, ap, ◌∙◌}
use Rattle.std.specs.Prelude.{Err}
use Rattle.refusal.specs.declared.Refused.{Refused}
use Rattle.refusal.specs.Reasons.{number_of, fault_number}
use Rattle.refusal.proofs.Results.{reason_counts, none_counts}
use Rattle.packets.specs.Fault.{space_told}
use Rattle.packets.proofs.Walks.{walked_start, walked_fault, walked_at, walked_on, walked_end}
use Rattle.packets.proofs.scan.scan.Goals as goal

pub loop-i-init : goal.loop-i-init
loop-i-init c = walked_start _ _ _ _ _

pub due-requires : goal.due-requires
due-requires c = c.loop-i.invariant.summed

pub loop-i-preserved : goal.loop-i-preserved
loop-i-preserved c =
    walked_on _ _ _ _ _ _ _ c.loop-i.invariant c.loop-i-test.true
    (sym (walked_fault _ _ _ _ _ _ _ c.loop-i.invariant _ _ c.due.ensures c.fault.ensures) ∙ none_counts _ c.in_default.not-Some)
    c.next-holder.result c.next-holder.ensures.start c.next-holder.ensures.sum

pub returns-in-Some : goal.returns-in-Some
returns-in-Some c =
    let w = c.loop-i.invariant in
    let wrong = sym (ap fault_number c.in-Some.is) ∙ walked_fault _ _ _ _ _ _ _ w _ _ c.due.ensures c.fault.ensures in
    ap (λ (r : Refused). space_told (Err r)) c.at.ensures
    ∙ walked_at _ _ _ _ _ _ _ w c.loop-i-test.true (number_of c.in-Some.reason) wrong (reason_counts c.in-Some.reason)

pub returns : goal.returns
returns c = walked_end _ _ _ _ _ _ _ c.loop-i.invariant c.loop-i-test.false
