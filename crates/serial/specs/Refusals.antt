-- When a serial call refuses, in the document's order: the table that its answer keeps to.
use Rattle.std.specs.Prelude.{ℕ, ◌<◌, ◌≡◌, List, ◌⊎◌, length}
use Rattle.refusal.specs.Numbers.{wrong_length, bad_state}
use Rattle.refusal.specs.Table.{Row, when, ◌before◌}
use Rattle.words.specs.Words.{over_refusals}
use Rattle.serial.specs.declared.State.{State}
use Rattle.serial.specs.Calls.{most_words}

abbrev pub serial_refusals : State → List ℕ → ℕ → Row
serial_refusals s words room =
    when ((511 < s.scrambled) ⊎ (1 < s.last)) bad_state 0
    before when (most_words < length words) wrong_length 0
    before when (room ≡ length words → ⊥) wrong_length 1
    before over_refusals words
