-- When recording and extracting a line refuse, in order: the tables that the answers keep to.
use Rattle.std.specs.Prelude.{ℕ, ◌<◌, ◌≡◌, true, List, ◌⊎◌, length}
use Rattle.refusal.specs.Numbers.{wrong_length, over_ten, outside}
use Rattle.refusal.specs.Table.{Row, when, ◌before◌, Lowest}
use Rattle.system.specs.declared.walk.Walk.{Walk}
use Rattle.system.specs.Walk.{line_bytes}
use Rattle.system.specs.Refusals.{written_refusals, standing_refusals}
use Rattle.words.specs.Words.{least_sample, most_sample}
use Rattle.line.specs.Samples.{Packets, active_length, sample_at}
use Rattle.writer.specs.Refusals.{packets_refusals}
use Rattle.bytewise.specs.Refusals.{bytes_refusals}
use Rattle.v210.specs.Row.{row_length, row_words, row_word, most_row_word}
use Rattle.programme.specs.Record.{due_at_walk, takes_row, row_samples}

-- the rows for what a line is to carry: a row, where one is due, and ready packet words
abbrev pub row_refusals : ℕ → Walk → List ℕ → Packets → Row
row_refusals fall w row k =
    when ((takes_row fall w ≡ true) × (length row ≡ row_length → ⊥)) wrong_length 1
    before Lowest row_words (λ i. when ((takes_row fall w ≡ true) × (most_row_word < row_word row i)) over_ten i)
    before packets_refusals (due_at_walk fall w) k
    before Lowest active_length
    (λ place. when ((takes_row fall w ≡ true) × ((sample_at (row_samples row) place < least_sample) ⊎ (most_sample < sample_at (row_samples row) place))) outside place)

-- the numbers of the line and of the fall line first, then what refuses any line at a walk
abbrev pub record_refusals : ℕ → Walk → List ℕ → Packets → ℕ → Row
record_refusals fall w row k room =
    (written_refusals w.system w.line fall before standing_refusals w room (line_bytes w)) before row_refusals fall w row k

abbrev pub extract_refusals : Walk → List ℕ → ℕ → Row
extract_refusals w bytes room = bytes_refusals w bytes before when (room ≡ row_length → ⊥) wrong_length 1
