-- `bytewise::pass::Line::space_filled` meets its contract, system by system. Assumes nothing.
use Rattle.bytewise.proofs.Parts.{between_fill}
use Rattle.bytewise.proofs.pass.Line.space_filled.Goals as goal

pub returns-in-Lines525 : goal.returns-in-Lines525
returns-in-Lines525 c = λ e.
    let line = c.args.self in
    between_fill line.bytes.now line.due line.whole.fill (rw c.in-Lines525.is (c.all_fill.ensures e))

pub returns-in-Lines625 : goal.returns-in-Lines625
returns-in-Lines625 c = λ e.
    let line = c.args.self in
    between_fill line.bytes.now line.due line.whole.fill (rw c.in-Lines625.is (c.all_fill-in-Lines625.ensures e))
