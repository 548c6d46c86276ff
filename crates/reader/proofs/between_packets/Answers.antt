-- `reader::between_packets` meets its contract: where the line is accepted its packets are words of it. Assumes nothing.
use Rattle.std.proofs.Common.{sym, ◌∙◌}
use native.Mathlib.Omega.{arith}
use Rattle.refusal.proofs.Firsts.{same_number}
use Rattle.refusal.proofs.Results.{reason_counts}
use Rattle.reader.proofs.Judged.{between_packets_refused, between_lent, between_lent_fits}
use Rattle.reader.proofs.between_packets.Goals as goal

pub returns-in_default : goal.returns-in_default
returns-in_default c =
    sym (between_packets_refused c.args.walk c.args.words.now
    (λ z. reason_counts c.in_default.field-0.reason (same_number c.in_default.ensures.answer ∙ z)))

pub overflow_add-result : goal.overflow_add-result
overflow_add-result c = omega (arith, between_lent_fits c.args.walk c.args.words.now _ c.in-Ok.ensures.judgement c.in-Ok.ensures.answer)

pub slice_bounds-result-end-2 : goal.slice_bounds-result-end-2
slice_bounds-result-end-2 c = omega (arith, between_lent_fits c.args.walk c.args.words.now _ c.in-Ok.ensures.judgement c.in-Ok.ensures.answer)

pub returns : goal.returns
returns c = between_lent c.args.walk c.args.words.now _ c.in-Ok.ensures.judgement c.in-Ok.ensures.answer
