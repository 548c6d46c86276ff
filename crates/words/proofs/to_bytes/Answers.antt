-- `words::to_bytes` meets its contract: a refusal comes before the first store. Assumes nothing.
use Rattle.std.proofs.Common.{◌∙◌}
use Rattle.refusal.proofs.Results.{err_stays, ok_written}
use Rattle.words.proofs.to_bytes.Goals as goal

pub returns-in_err-pairs_refusal-clause-bytes : goal.returns-in_err-pairs_refusal-clause-bytes
returns-in_err-pairs_refusal-clause-bytes c = err_stays c.from_residual.result c.from_residual.ensures.0 _ _

pub returns-clause-bytes : goal.returns-clause-bytes
returns-clause-bytes c = c.copy_bytes.ensures ∙ ok_written _ _
