-- `writer::put_content` meets its contract: packets that are not refused fit. Assumes nothing.
use mathlib.Core.Path.{sym, ap, ◌∙◌}
use lib.ListN.{length}
use Rattle.refusal.proofs.Firsts.{same_number}
use Rattle.writer.proofs.Laws.{packets_passed}
use Rattle.writer.proofs.Whole.{bare_length}
use Rattle.writer.proofs.put_content.Goals as goal

pub lay-requires : goal.lay-requires
lay-requires g c = (ap length c.put_line.ensures ∙ bare_length c.args.due _, packets_passed c.args.due _ (sym (same_number c.in_ok-refusal.ensures)))
