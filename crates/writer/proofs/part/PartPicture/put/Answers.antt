-- `writer::part::put` meets its contract: an active part that is laid into its place is its own samples. Assumes nothing.
use Rattle.writer.proofs.Whole.{part_put}
use Rattle.writer.proofs.part.PartPicture.put.Goals as goal

pub returns : goal.returns
returns c = part_put _ _ _ _ c.args.self.now.whole c.requires c.lay.ensures
