-- When a line's words are refused, in the document's order: the table that the answer keeps to.
use Rattle.std.specs.Prelude.{ℕ, ◌<◌, ◌≡◌, List, ◌⊎◌, length}
use Rattle.refusal.specs.Numbers.{over_ten, no_code, no_fill, reserved}
use Rattle.refusal.specs.Table.{Row, when, ◌before◌, Lowest}
use Rattle.words.specs.Words.{most_word, least_sample, most_sample}
use Rattle.packets.specs.Fault.{word_at}
use Rattle.packets.specs.Refusals as space
use Rattle.timing.specs.Refusals.{fourth_refusals}
use Rattle.system.specs.declared.due.Due.{Due}
use Rattle.line.specs.declared.What.{What}
use Rattle.line.specs.declared.What.TheVariants.{Ones, Zeros, Fourth, Fill, Sample}
use Rattle.line.specs.Fault.{least_ones, most_zeros, Wanted, within, apart, wanted_at}

-- the rows for a word of ten bits at a place, by what is due there
abbrev pub where_refusals : What → ℕ → ℕ → Row
where_refusals Ones w place = when (w < least_ones) no_code place
where_refusals Zeros w place = when (most_zeros < w) no_code place
where_refusals (Fourth fvh) w place = fourth_refusals fvh w place
where_refusals (Fill word) w place = when (w ≡ word → ⊥) no_fill place
where_refusals Sample w place = when ((w < least_sample) ⊎ (most_sample < w)) reserved place

-- and in a space those of packets and of fill
abbrev pub wanted_refusals : Wanted → ℕ → ℕ → Row
wanted_refusals (within due) w place = space.where_refusals due w place
wanted_refusals (apart due) w place = where_refusals due w place

-- "at one offset 5 comes before 6 to 11, and 7, 8, 9 in that order", 14 where 8 stands, and "15 before 17"
abbrev pub offset_refusals : Due → List ℕ → ℕ → Row
offset_refusals d words i =
    when (most_word < word_at words i) over_ten i before wanted_refusals (wanted_at d (word_at words) i) (word_at words i) i

-- "then the lowest offset with any fault"
abbrev pub word_refusals : Due → List ℕ → Row
word_refusals d words = Lowest (length words) (offset_refusals d words)
