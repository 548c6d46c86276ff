-- `v210::pack` meets its contract: what is not refused fits. Assumes nothing.
use mathlib.Core.Path.{sym}
use Rattle.refusal.proofs.Firsts.{same_number}
use Rattle.v210.proofs.Refusals.{pack_accepted}
use Rattle.v210.proofs.pack.Goals as goal

pub put_together-requires : goal.put_together-requires
put_together-requires c = pack_accepted _ _ (sym (same_number c.in_ok-pack_refusal.ensures))
