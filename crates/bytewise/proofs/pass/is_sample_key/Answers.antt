-- `bytewise::pass::is_sample_key` meets its contract: it is the test. Assumes nothing.
use Rattle.std.proofs.Common.{to_z-of_z}
use Rattle.bytewise.proofs.Keys.{key_test}
use Rattle.bytewise.proofs.pass.is_sample_key.Goals as goal

pub returns : goal.returns
returns c = λ e. key_test _ (rw (to_z-of_z c.ranges.key) at e)
