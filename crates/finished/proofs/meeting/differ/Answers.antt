-- `finished::meeting::differ` meets its contract. The loop keeps that what is left of both tells the same as the whole. Assumes nothing.
use Rattle.std.proofs.Common.{ap, ◌∙◌, arith}
use Rattle.finished.specs.Check.{differs_at}
use Rattle.finished.proofs.Beside.{beside_none, beside_ours, beside_theirs, beside_differs, beside_next}
use Rattle.finished.proofs.meeting.differ.Goals as goal

pub returns-in-None-None : goal.returns-in-None-None
returns-in-None-None c =
    let inv = c.loop-their.invariant in
    beside_none _ _ inv.same (omega (arith, c.in-None-None.ensures.steps.1.0, inv.our)) (omega (arith, c.in-None-None.ensures'.steps.1.0, inv.their))

pub returns-in-Some-None : goal.returns-in-Some-None
returns-in-Some-None c =
    let inv = c.loop-their.invariant in
    let our = c.in-Some-None.ensures.steps in
    c.differs_at-in-Some-None.ensures ∙ rw c.entry-in-Some-None.ensures
    (beside_ours _ _ inv.same _ _ our.1.0 (our.1.1 ∙ inv.our) (omega (arith, c.in-Some-None.ensures'.steps.1.0, inv.their)))

pub returns-in-None-Some : goal.returns-in-None-Some
returns-in-None-Some c =
    let inv = c.loop-their.invariant in
    let their = c.in-None-Some.ensures'.steps in
    c.differs_at.ensures ∙ rw c.entry.ensures
    (beside_theirs _ _ inv.same _ _ (omega (arith, c.in-None-Some.ensures.steps.1.0, inv.our)) their.1.0 (their.1.1 ∙ inv.their))

pub returns-then-ne : goal.returns-then-ne
returns-then-ne c =
    let inv = c.loop-their.invariant in
    let our = c.in-Some-Some.ensures.steps in
    let their = c.in-Some-Some.ensures'.steps in
    c.differs_at-then-ne.ensures ∙ ap differs_at c.min.ensures
    ∙ beside_differs _ _ inv.same _ _ _ _ our.1.0 (our.1.1 ∙ inv.our) their.1.0 (their.1.1 ∙ inv.their) _ _ c.entry-our.ensures c.entry-their.ensures
    _ c.ne.ensures c.if-ne.true

pub loop-their-preserved : goal.loop-their-preserved
loop-their-preserved c =
    let inv = c.loop-their.invariant in
    let our = c.in-Some-Some.ensures.steps in
    let their = c.in-Some-Some.ensures'.steps in record {
      our = our.0 ∙ inv.our;
      their = their.0 ∙ inv.their;
      same = beside_next _ _ inv.same _ _ _ _ our.1.0 (our.1.1 ∙ inv.our) their.1.0 (their.1.1 ∙ inv.their) _ _ c.entry-our.ensures c.entry-their.ensures
          _ c.ne.ensures c.if-ne.false;
    }
