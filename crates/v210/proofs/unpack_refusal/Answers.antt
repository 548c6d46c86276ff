-- `v210::unpack_refusal` meets its contract: past the lengths the row is as long as is due. Assumes nothing.
use Rattle.v210.proofs.Refusals.{unpack_long}
use Rattle.v210.proofs.unpack_refusal.Goals as goal

pub spare_refusal-requires : goal.spare_refusal-requires
spare_refusal-requires c = unpack_long _ c.args.room c.in_ok-lengths_refusal.ensures
