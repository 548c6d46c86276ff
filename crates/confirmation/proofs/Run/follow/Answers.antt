-- `confirmation::Run::follow` meets its contract. The loop keeps that what it still has to do comes to the whole, and each of its turns is
-- one of the definition's. The measure is what is left of the bytes. Assumes nothing.
use Rattle.std.proofs.Common.{sym, ◌∙◌, arith}
use Rattle.confirmation.proofs.Bodies.{line_has_bytes}
use Rattle.confirmation.proofs.Reached.{reached_start, reached_end, reached_short, reached_barred, reached_next, ok_accepts}
use Rattle.refusal.proofs.Results.{err_refuses}
use Rattle.confirmation.proofs.Run.follow.Goals as goal

pub loop-run-init : goal.loop-run-init
loop-run-init c = reached_start _ _ _ c.line_bytes-size.ensures.bytes

pub returns-then-is_err : goal.returns-then-is_err
returns-then-is_err c =
    sym
    (reached_barred c.loop-run.invariant c.loop-run-test.true c.if-at-bytes.true c.refusal.ensures _
    (err_refuses _ (sym c.is_err.ensures.value ∙ c.if-is_err.true)) c.next-ended.ensures)

pub returns-then-bytes-at : goal.returns-then-bytes-at
returns-then-bytes-at c =
    sym
    (reached_short c.loop-run.invariant c.loop-run-test.true c.if-at-bytes.true c.refusal.ensures (ok_accepts _ (sym c.is_err.ensures.value ∙ c.if-is_err.false))
    c.if-bytes-at.true)

pub loop-run-smaller : goal.loop-run-smaller
loop-run-smaller c =
    let loop = c.loop-run in
    omega (arith, loop.invariant.line, line_has_bytes loop.run.walk)

pub loop-run-preserved : goal.loop-run-preserved
loop-run-preserved c =
    reached_next c.loop-run.invariant c.loop-run-test.true c.if-at-bytes.true c.refusal.ensures
    (ok_accepts _ (sym c.is_err.ensures.value ∙ c.if-is_err.false)) c.if-bytes-at.false c.next-run.ensures

pub returns-else-at-bytes : goal.returns-else-at-bytes
returns-else-at-bytes c = sym (reached_end c.loop-run.invariant (λ e. c.if-at-bytes.false))

pub returns-after-loop-run : goal.returns-after-loop-run
returns-after-loop-run c = sym (reached_end c.loop-run.invariant (λ e. absurd (c.loop-run-test.false e)))
