-- What stands at each place of a word: a row's samples by their word, its bytes by theirs, and what holds of each holds of all.
-- Assumes nothing.
use Prim.Native.Nat.{ℕ, zero, suc, ◌+◌, ◌*◌, ◌/◌, ◌%◌, ◌<◌}
use mathlib.Core.Path.{◌≡◌, subst, ap₂}
use mathlib.Core.List.{List}
use native.Mathlib.Omega.{arith}
use Rattle.line.specs.Samples.{active_length}
use Rattle.v210.specs.Row.{row_length, row_words, row_word, ten_bits, row_sample, samples_word, eight_bits, row_byte}

-- the part n of the word k, of three and of four
in_thirds : (f : ℕ → ℕ → ℕ) (k n : ℕ) → n < 3 → f ((3 * k + n) / 3) ((3 * k + n) % 3) ≡ f k n
in_thirds f k n h = ap₂ f (omega arith) (omega arith)

in_fourths : (f : ℕ → ℕ → ℕ) (k n : ℕ) → n < 4 → f ((4 * k + n) / 4) ((4 * k + n) % 4) ≡ f k n
in_fourths f k n h = ap₂ f (omega arith) (omega arith)

pub sample_at : (row : List ℕ) (k n : ℕ) → n < 3 → row_sample row (3 * k + n) ≡ ten_bits (row_word row k) n
sample_at row = in_thirds (λ k n. ten_bits (row_word row k) n)

pub byte_at : (samples : List ℕ) (k n : ℕ) → n < 4 → row_byte samples (4 * k + n) ≡ eight_bits (samples_word samples k) n
byte_at samples = in_fourths (λ k n. eight_bits (samples_word samples k) n)

-- what holds of each part of each word holds of every place
pub every_sample : (P : ℕ → Type 0) → ((k : ℕ) → k < row_words → P (3 * k + 0) × P (3 * k + 1) × P (3 * k + 2))
    → (place : ℕ) → place < active_length → P place
every_sample P h place l = part (place % 3) (omega arith) (omega arith)
  where
    parts : P (3 * (place / 3) + 0) × P (3 * (place / 3) + 1) × P (3 * (place / 3) + 2)
    parts = h (place / 3) (omega arith)

    part : (n : ℕ) → 3 * (place / 3) + n ≡ place → n < 3 → P place
    part zero e less = subst P e parts.0
    part (suc zero) e less = subst P e parts.1
    part (suc (suc zero)) e less = subst P e parts.2
    part (suc (suc (suc n))) e less = absurd (omega arith)

pub every_byte : (P : ℕ → Type 0) → ((k : ℕ) → k < row_words → P (4 * k + 0) × P (4 * k + 1) × P (4 * k + 2) × P (4 * k + 3))
    → (place : ℕ) → place < row_length → P place
every_byte P h place l = part (place % 4) (omega arith) (omega arith)
  where
    parts : P (4 * (place / 4) + 0) × P (4 * (place / 4) + 1) × P (4 * (place / 4) + 2) × P (4 * (place / 4) + 3)
    parts = h (place / 4) (omega arith)

    part : (n : ℕ) → 4 * (place / 4) + n ≡ place → n < 4 → P place
    part zero e less = subst P e parts.0
    part (suc zero) e less = subst P e parts.1
    part (suc (suc zero)) e less = subst P e parts.2
    part (suc (suc (suc zero))) e less = subst P e parts.3
    part (suc (suc (suc (suc n)))) e less = absurd (omega arith)
