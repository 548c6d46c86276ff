-- `packets::due::Holder::next` meets its contract: a packet ends, or the sum goes on. Assumes nothing.
use Rattle.std.proofs.Common.{sym, ◌∙◌}
use native.Mathlib.Omega.{arith}
use Rattle.packets.proofs.Openings.{started}
use Rattle.packets.proofs.Walks.{summed_start, summed_more}
use Rattle.packets.proofs.due.Holder.next.Goals as goal

pub size-requires : goal.size-requires
size-requires c = omega (arith, (started _ _ _ (sym c.starts.ensures ∙ c.if-starts.true)).room)

pub returns-then-i-self-clause-sum : goal.returns-then-i-self-clause-sum
returns-then-i-self-clause-sum c = summed_start _ _

pub returns-clause-sum : goal.returns-clause-sum
returns-clause-sum c = summed_more _ c.args.self c.args.i c.if-i-self-lt3.false c.requires.1
