-- When a line is refused, in the document's order: the tables that the answers keep to.
use Rattle.std.specs.Prelude.{ℕ, List, length}
use Rattle.refusal.specs.Table.{Row, ◌before◌}
use Rattle.system.specs.declared.walk.Walk.{Walk}
use Rattle.system.specs.Walk.{line_words, due_in}
use Rattle.system.specs.Refusals.{standing_refusals}
use Rattle.line.specs.Lengths.{buffer_refusals}
use Rattle.line.specs.Refusals.{word_refusals}
use Rattle.line.specs.Samples.{Samples}

-- "1, 2, 4, 3, then the lowest offset with any fault"
abbrev pub line_refusals : ℕ → ℕ → Walk → List ℕ → Row
line_refusals given due w words = standing_refusals w given due before word_refusals (due_in w words) words

-- of words
abbrev pub judge_refusals : Walk → List ℕ → Row
judge_refusals w words = line_refusals (length words) (line_words w) w words

-- "A word's refusal now comes before a sample buffer's, which amends document 01's order"
abbrev pub take_refusals : Walk → List ℕ → Samples → Row
take_refusals w words b = judge_refusals w words before buffer_refusals (length b.y) (length b.cb) (length b.cr)
