-- Words of ten bits.
use Rattle.std.specs.Prelude.{ℕ, ◌≤◌, List, [], ◌∷◌}
use Rattle.words.specs.Words.{most_word}

pub data Words : List ℕ → Type 0 where
  none : Words []
  more : {w : ℕ} {ws : List ℕ} → w ≤ most_word → Words ws → Words (w ∷ ws)
