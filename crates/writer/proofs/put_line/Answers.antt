-- `writer::put_line` meets its contract: all but the active part, and then that. Assumes nothing.
use native.Mathlib.Omega.{arith}
use Rattle.system.proofs.Laws.{line_is_parts}
use Rattle.writer.proofs.Whole.{blank_whole, picture_whole}
use Rattle.writer.proofs.put_line.Goals as goal

pub returns-then-due : goal.returns-then-due
returns-then-due g c =
    blank_whole c.args.due _ _ _ (c.put_blanking.ensures _) _ _ c.active_offset-active.ensures (c.put_blanking.ensures (g.P.Picture.samples c.args.picture.now)).size
    c.if-due.true c.put_fill.ensures

pub returns-else-due : goal.returns-else-due
returns-else-due g c =
    picture_whole c.args.due _ _ _ (c.put_blanking.ensures _) _ _ c.active_offset-active.ensures
    (omega (arith, line_is_parts c.args.due.system, c.active_offset-active.ensures)) c.if-due.false c.put.ensures
