-- `station::recorder::end_frame` meets its contract: each turn writes one line, as long as one belongs to the frame. Assumes nothing.
use Rattle.std.proofs.Common.{◌≡◌, suc, ◌+◌, ◌-◌, length, sym, ap, ◌∙◌, arith}
use Rattle.refusal.proofs.Cases.{not_true, not_false}
use Rattle.programme.specs.Tape.{most_turns}
use Rattle.station.specs.Turns.{frame_over}
use Rattle.station.proofs.Lines.{bare_line, frame_left, frame_line, end_over, end_left, end_line}
use mathlib.Core.Bool.{not}
use Rattle.station.proofs.recorder.end_frame.Goals as goal

pub returns-then-not-ends-clause-frame : goal.returns-then-not-ends-clause-frame
returns-then-not-ends-clause-frame c =
    c.loop.invariant.0 _ (frame_over (sym c.ends.ensures ∙ not_true _ (ap not c.if-not-ends.true)))

pub returns-then-not-ends-clause-bare : goal.returns-then-not-ends-clause-bare
returns-then-not-ends-clause-bare c = λ none.
    let so_far = c.loop.invariant.1 none in (
      so_far.0,
      sym (so_far.1 ∙ end_over (length c.args.line.now) c.loop.at.tape _ (sym c.ends.ensures ∙ not_true _ (ap not c.if-not-ends.true))),
    )

pub loop-preserved : goal.loop-preserved
loop-preserved c =
    let room = length c.args.line.now in
    let at = c.loop.at in
    let ends = sym c.ends.ensures ∙ not_false _ (ap not c.if-not-ends.false) in
    let left : most_turns - c.loop.counter ≡ suc (most_turns - (c.loop.counter + 1)) = omega (arith, c.loop-test.true) in (
      λ v rest. c.loop.invariant.0 v (frame_line room at.tape v c.in_ok-at.at _ _ _ left c.loop.auto.line ends c.in_ok-at.ensures.line.on rest),
      λ none.
          let so_far = c.loop.invariant.1 none in
          let bare = bare_line _ _ _ c.in_ok-at.at (c.in_ok-at.ensures.bare so_far.0) in
          (bare.next ∙ so_far.0, so_far.1 ∙ end_line room at.tape c.in_ok-at.at _ _ _ left c.loop.auto.line ends bare.tape),
    )

pub returns-clause-frame : goal.returns-clause-frame
returns-clause-frame c = c.loop.invariant.0 _ (frame_left (length c.args.line.now) (omega (arith, c.loop-test.false)))

pub returns-clause-bare : goal.returns-clause-bare
returns-clause-bare c = λ none.
    let so_far = c.loop.invariant.1 none in
    (so_far.0, sym (so_far.1 ∙ end_left (length c.args.line.now) c.loop.at.tape _ (omega (arith, c.loop-test.false))))
