-- `bytewise::pass::Line::pass` meets its contract, part by part; the packets are those of the space between. Assumes nothing.
use Rattle.std.proofs.Common.{ap}
use mathlib.Core.Bool.{not}
use Rattle.refusal.proofs.Cases.{not_false}
use Rattle.bytewise.proofs.Parts.{line_well}
use Rattle.bytewise.proofs.pass.Line.pass.Goals as goal

pub returns : goal.returns
returns c =
    let line = c.args.self in
    line_well line.bytes.now line.due c.sav_offset-sav.result c.flags.result c.flags-2.result _
    c.sav_offset-sav.ensures c.flags.ensures c.flags-2.ensures
    (c.code_well.ensures (not_false _ (ap not c.if-not-code_well.false)))
    c.in_ok-between.ensures
    (c.code_well-2.ensures (not_false _ (ap not c.if-not-code_well-2.false)))
    (c.active_well.ensures (not_false _ (ap not c.if-not-active_well.false)))
