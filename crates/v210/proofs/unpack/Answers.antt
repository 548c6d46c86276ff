-- `v210::unpack` meets its contract: what is not refused fits. Assumes nothing.
use mathlib.Core.Path.{sym}
use Rattle.refusal.proofs.Firsts.{same_number}
use Rattle.v210.proofs.Refusals.{unpack_accepted}
use Rattle.v210.proofs.unpack.Goals as goal

pub take_apart-requires : goal.take_apart-requires
take_apart-requires c =
    let right = unpack_accepted _ _ (sym (same_number c.in_ok-unpack_refusal.ensures)) in (right.0, right.1)
