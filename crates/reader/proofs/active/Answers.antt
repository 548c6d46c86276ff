-- `reader::active` meets its contract: where the line is accepted it is long enough for its active part. Assumes nothing.
use Rattle.std.proofs.Common.{sym, ap, ◌∙◌}
use native.Mathlib.Omega.{arith}
use Rattle.refusal.proofs.Firsts.{same_number}
use Rattle.refusal.proofs.Results.{reason_counts}
use Rattle.system.specs.Figures.{active_offset}
use Rattle.reader.proofs.Judged.{active_refused, active_lent, active_lent_fits}
use Rattle.reader.proofs.active.Goals as goal

pub returns-in_default : goal.returns-in_default
returns-in_default c =
    sym (active_refused c.args.walk c.args.words.now (λ z. reason_counts c.in_default.field-0.reason (same_number c.in_default.ensures.answer ∙ z)))

pub slice_bounds-result-end-2 : goal.slice_bounds-result-end-2
slice_bounds-result-end-2 c =
    omega (arith, active_lent_fits c.args.walk c.args.words.now _ (c.active_offset-start.ensures ∙ ap active_offset c.system_of.ensures) c.in-Ok.ensures.answer)

pub returns : goal.returns
returns c =
    active_lent c.args.walk c.args.words.now _ (c.active_offset-start.ensures ∙ ap active_offset c.system_of.ensures) c.in-Ok.ensures.answer
