-- When packing and unpacking refuse, in order: the tables that the answers keep to.
use Rattle.std.specs.Prelude.{ℕ, ◌≡◌, List, length}
use Rattle.refusal.specs.Numbers.{wrong_length}
use Rattle.refusal.specs.Table.{Row, when, ◌before◌}
use Rattle.words.specs.Words.{most_refusals, over_refusals}
use Rattle.line.specs.Samples.{active_length}
use Rattle.v210.specs.Row.{row_length, row_words, row_word, most_row_word}

-- set spare bits: 5 at the first word that has one
abbrev pub spare_refusals : List ℕ → Row
spare_refusals row = most_refusals most_row_word (row_word row) row_words

abbrev pub unpack_refusals : List ℕ → ℕ → Row
unpack_refusals row room =
    when (length row ≡ row_length → ⊥) wrong_length 0
    before when (room ≡ active_length → ⊥) wrong_length 1
    before spare_refusals row

abbrev pub pack_refusals : List ℕ → ℕ → Row
pack_refusals samples room =
    when (length samples ≡ active_length → ⊥) wrong_length 0
    before when (room ≡ row_length → ⊥) wrong_length 1
    before over_refusals samples
