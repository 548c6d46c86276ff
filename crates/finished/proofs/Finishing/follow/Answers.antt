-- `finished::Finishing::follow` meets its contract. The loop keeps that the entries put, with what it still has to do behind them, come to the
-- whole, and each of its turns is one of the definition's. The measure is the turns left. Assumes nothing.
use Rattle.std.proofs.Common.{sym, ◌∙◌, arith}
use Rattle.refusal.proofs.Results.{err_refuses}
use Rattle.confirmation.proofs.Reached.{ok_accepts}
use Rattle.finished.proofs.Filling.{Answers, filling_start, filling_full, filling_over, filling_short, filling_barred, filling_next}
use Rattle.finished.proofs.Finishing.follow.Goals.{then-loop-turns-test+else-at-bytes, else-loop-turns-test}
use Rattle.finished.proofs.Finishing.follow.Goals as goal

pub loop-turns-init : goal.loop-turns-init
loop-turns-init c = filling_start _ _ _ _ c.line_bytes-size.ensures.bytes

pub shape_of-room-then-run-ne0 : goal.shape_of-room-then-run-ne0
shape_of-room-then-run-ne0 c = c.loop-turns.invariant.long

pub returns-then-run-ne0 : goal.returns-then-run-ne0
returns-then-run-ne0 c =
    let both = let loop = c.loop-turns in
    filling_over loop.invariant (λ z. absurd (c.if-run-ne0.true z)) (c.made.ensures.state, (c.made.ensures.taken, c.made.ensures.put)) in
    record { state = both.0; taken = both.1.0; put = both.1.1.0; room = both.1.1.1 }

pub shape_of-room-then-is_err : goal.shape_of-room-then-is_err
shape_of-room-then-is_err c = c.loop-turns.invariant.long

pub returns-then-is_err : goal.returns-then-is_err
returns-then-is_err c =
    let both = filling_barred c.loop-turns.invariant c.loop-turns-test.true c.if-at-bytes.true c.if-run-ne0.false c.refusal.ensures _
    (err_refuses _ (sym c.is_err.ensures.value ∙ c.if-is_err.true)) c.next.ensures (c.made-then-is_err.ensures.state, (c.made-then-is_err.ensures.taken, c.made-then-is_err.ensures.put)) in
    record { state = both.0; taken = both.1.0; put = both.1.1.0; room = both.1.1.1 }

pub shape_of-room-then-bytes-at : goal.shape_of-room-then-bytes-at
shape_of-room-then-bytes-at c = c.loop-turns.invariant.long

pub returns-then-bytes-at : goal.returns-then-bytes-at
returns-then-bytes-at c =
    let both = filling_short c.loop-turns.invariant c.loop-turns-test.true c.if-at-bytes.true c.if-run-ne0.false c.refusal.ensures
    (ok_accepts _ (sym c.is_err.ensures.value ∙ c.if-is_err.false)) c.if-bytes-at.true (c.made-then-bytes-at.ensures.state, (c.made-then-bytes-at.ensures.taken, c.made-then-bytes-at.ensures.put)) in
    record { state = both.0; taken = both.1.0; put = both.1.1.0; room = both.1.1.1 }

pub next-lined-requires : goal.next-lined-requires
next-lined-requires c =
    omega (arith, c.loop-turns-test.true, c.loop-turns.invariant.fits)

pub loop-turns-preserved : goal.loop-turns-preserved
loop-turns-preserved c =
    filling_next c.loop-turns.invariant c.loop-turns-test.true c.if-at-bytes.true c.if-run-ne0.false c.refusal.ensures
    (ok_accepts _ (sym c.is_err.ensures.value ∙ c.if-is_err.false)) c.if-bytes-at.false c.next-lined.ensures.state c.next-lined.ensures.put c.next-lined.ensures.room

pub shape_of-room : goal.shape_of-room
shape_of-room c = c.loop-turns.invariant.long

pub returns : goal.returns
returns c =
    let inv = c.loop-turns.invariant in
    let e = c.made-2.ensures in
    let both : Answers c.args.bytes.now c.args.room.now c.args.self c.loop-turns.room c.made-2.result =
    elim c.loop-turns-test.branch [
      | then-loop-turns-test+else-at-bytes w ↦ filling_over inv (λ z. w.if-at-bytes.false) (e.state, (e.taken, e.put))
      | else-loop-turns-test w ↦ filling_full inv (omega (arith, w.loop-turns-test.false)) (e.state, (e.taken, e.put))
    ] in
    record { state = both.0; taken = both.1.0; put = both.1.1.0; room = both.1.1.1 }
