-- `station::entries::filled_words` gives the words of bytes that were all filled. Assumes nothing.
use Rattle.std.proofs.Common.{◌∙◌}
use Rattle.refusal.proofs.Firsts.{same_number, written_accepted}
use Rattle.refusal.specs.Reasons.{answered}
use Rattle.words.proofs.Bytes.{pairs_accepted}
use Rattle.station.proofs.entries.filled_words.Goals as goal

pub returns-clause-words : goal.returns-clause-words
returns-clause-words c =
    c.to_words.ensures.words ∙ written_accepted (answered c.to_words.result) _ _ (same_number (c.to_words.ensures.answer ∙ pairs_accepted _ _ c.requires))
