-- `v210::spare_refusal` meets its contract: no word passed had a spare bit set. Assumes nothing.
use mathlib.Core.Path.{ap, ◌∙◌}
use native.Mathlib.Omega.{arith}
use Rattle.refusal.specs.Reasons.{numbered}
use Rattle.words.proofs.Over.{lowest_over, none_over}
use Rattle.v210.specs.Row.{row_words, row_word, most_row_word, spare_refusal}
use Rattle.v210.proofs.spare_refusal.Goals as goal

pub returns-then-word_at-gt-MOST_ROW_WORD : goal.returns-then-word_at-gt-MOST_ROW_WORD
unfolding spare_refusal
returns-then-word_at-gt-MOST_ROW_WORD c =
    ap numbered c.at.ensures ∙ lowest_over most_row_word (row_word c.args.row.now) row_words c.loop-k.k c.loop-k-test.true
    c.loop-k.invariant (omega (arith, c.if-word_at-gt-MOST_ROW_WORD.true, c.word_at.ensures))

pub returns : goal.returns
unfolding spare_refusal
returns c =
    none_over most_row_word (row_word c.args.row.now) row_words (λ j l. c.loop-k.invariant j (omega arith))
