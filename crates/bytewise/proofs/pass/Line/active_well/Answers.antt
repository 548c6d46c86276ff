-- `bytewise::pass::Line::active_well` meets its contract, by V. Assumes nothing.
use Rattle.bytewise.proofs.Parts.{active_fill, active_samples}
use Rattle.bytewise.proofs.pass.Line.active_well.Goals as goal

pub returns-then-self : goal.returns-then-self
returns-then-self c = λ e.
    let line = c.args.self in
    active_fill line.bytes.now line.due _ c.requires line.whole.fill c.if-self.true (c.all_fill.ensures e)

pub returns-else-self : goal.returns-else-self
returns-else-self c = λ e.
    let line = c.args.self in
    active_samples line.bytes.now line.due _ c.requires c.if-self.false (c.all_samples.ensures e)
