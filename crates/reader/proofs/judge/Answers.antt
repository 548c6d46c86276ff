-- `reader::judge` meets its contract: a refusal leaves the walk standing. Assumes nothing.
use Rattle.std.proofs.Common.{sym, ap, ◌∙◌, length}
use Rattle.refusal.proofs.Results.{reason_counts}
use Rattle.system.specs.Walk.{line_words}
use Rattle.system.specs.Judgement.{refused_at}
use Rattle.reader.proofs.Judged.{judged_refused}
use Rattle.reader.proofs.judge.Goals as goal

pub returns-in-Err : goal.returns-in-Err
returns-in-Err c =
    let a = c.args in
    c.refused.ensures ∙ ap (refused_at a.walk) c.from.ensures
    ∙ sym (judged_refused (length a.words.now) (line_words a.walk) a.walk a.words.now _ (sym c.in-Err.ensures.answer)
    (reason_counts c.in-Err.refused.reason))
