-- What a pass over words finds, of words that are told by their place: so for words and for bytes alike.
use Rattle.std.specs.Prelude.{ℕ, ◌+◌, ◌*◌, ◌<◌, ◌≤◌, ◌≡◌}
use Rattle.words.specs.Words.{least_sample, most_sample}

-- each of so many pairs of words is these two
abbrev pub Filled : ℕ → ℕ → (ℕ → ℕ) → ℕ → Type 0
Filled first second word pairs = (k : ℕ) → k < pairs → (word (2 * k) ≡ first) × (word (2 * k + 1) ≡ second)

-- each of so many words is a sample
abbrev pub Sampled : (ℕ → ℕ) → ℕ → Type 0
Sampled word n = (k : ℕ) → k < n → (least_sample ≤ word k) × (word k ≤ most_sample)
