-- `speed::speed_judge` meets its contract: the call's own. Assumes nothing.
use mathlib.Core.Path.{ap, ◌∙◌}
use Rattle.system.specs.declared.walk.Walk.{Walk}
use Rattle.system.specs.declared.walk.Judgement.{Judgement}
use Rattle.reader.specs.Judge.{judged_of}
use Rattle.speed.proofs.speed_judge.Goals as goal

pub returns : goal.returns
returns c =
    let words = c.args.words.now in
    ap (λ (j : Judgement). j.number) (c.judge.ensures ∙ ap (λ (w : Walk). judged_of w words) c.of-walk.ensures)
