-- For private passes: no contract of a public call and no promise cites this file.
-- What a pass over a part of a line has found, of words that are told by their places: so for words and for bytes alike.
use Rattle.std.specs.Prelude.{ℕ, ◌+◌, ◌<◌, ◌≤◌, ◌≡◌, true, false}
use Rattle.words.specs.Words.{most_word}
use Rattle.words.specs.Passes.{Sampled}
use Rattle.system.specs.declared.due.Due.{Due}
use Rattle.words.specs.declared.FillWords.{FillWords}
use Rattle.system.specs.Figures.{active_offset}
use Rattle.line.specs.Offsets.{code_at}
use Rattle.line.specs.Fault.{fault_where, active_space}
use Rattle.line.specs.Samples.{active_length}

-- the fill that is due is of ten bits
pub record Proper (fill : FillWords) : Type 0 where
  pub even : fill.even ≤ most_word
  pub odd : fill.odd ≤ most_word

-- four words have no fault as the timing code of these F, V, H
abbrev pub CodeWell : ℕ → (ℕ → ℕ) → Type 0
CodeWell fvh word = (k : ℕ) → k < 4 → fault_where (code_at fvh k) (word k) ≡ 0

-- "On lines with V = 1 the active part" is a space, and on others samples; of a line whose words are told by their offsets
pub record ActiveWell (due : Due) (word : ℕ → ℕ) : Type 0 where
  pub blank : due.v ≡ true → (active_space due word).number ≡ 0
  pub samples : due.v ≡ false → Sampled (λ k. word (active_offset due.system + k)) active_length
