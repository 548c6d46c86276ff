-- `writer::part::all_inside` meets its contract: the words of a part are its samples, in their places. Assumes nothing.
use native.Mathlib.Omega.{arith}
use Rattle.line.proofs.Places.{part_in_place}
use Rattle.writer.proofs.part.PartPicture.all_inside.Goals as goal

pub returns : goal.returns
returns c = λ kept place l. rw (part_in_place c.args.self.now.words.now place l) (c.all_samples.ensures.0 kept place (omega (arith, c.args.self.now.whole)))
