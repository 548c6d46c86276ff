-- A word is the number of its bytes and of its groups of ten bits, and these are its digits. Assumes nothing.
use Prim.Native.Nat.{ℕ, ◌+◌, ◌*◌, ◌/◌, ◌%◌, ◌<◌, ◌≤◌}
use mathlib.Core.Path.{◌≡◌}
use native.Mathlib.Omega.{arith}
use Rattle.words.specs.Words.{most_word}
use Rattle.v210.specs.Row.{ten_bits, most_row_word, eight_bits}

-- ---- Ten bits: three of them below 2 to the 30.
module _ (first second third : ℕ) (f : first ≤ most_word) (s : second ≤ most_word) (t : third ≤ most_word) where
  pub first_ten : ten_bits (first + 1024 * second + 1048576 * third) 0 ≡ first
  first_ten = omega arith

  pub second_ten : ten_bits (first + 1024 * second + 1048576 * third) 1 ≡ second
  second_ten = omega arith

  pub third_ten : ten_bits (first + 1024 * second + 1048576 * third) 2 ≡ third
  third_ten = omega arith

  pub tens_bounded : first + 1024 * second + 1048576 * third ≤ most_row_word
  tens_bounded = omega arith

pub of_tens : (word : ℕ) → word ≤ most_row_word → ten_bits word 0 + 1024 * ten_bits word 1 + 1048576 * ten_bits word 2 ≡ word
of_tens word h = omega arith

-- ---- Eight bits: four of them below 2 to the 32.
module _ (first second third fourth : ℕ) (f : first < 256) (s : second < 256) (t : third < 256) where
  pub first_eight : eight_bits (first + 256 * second + 65536 * third + 16777216 * fourth) 0 ≡ first
  first_eight = omega arith

  pub second_eight : eight_bits (first + 256 * second + 65536 * third + 16777216 * fourth) 1 ≡ second
  second_eight = omega arith

  pub third_eight : eight_bits (first + 256 * second + 65536 * third + 16777216 * fourth) 2 ≡ third
  third_eight = omega arith

  pub fourth_eight : fourth < 256 → eight_bits (first + 256 * second + 65536 * third + 16777216 * fourth) 3 ≡ fourth
  fourth_eight r = omega arith

-- four digits, each with what is above it
gather : (word first second third fourth from_Second from-third : ℕ) → word ≡ first + 256 * from_Second
    → from_Second ≡ second + 256 * from-third → from-third ≡ third + 256 * fourth
    → first + 256 * second + 65536 * third + 16777216 * fourth ≡ word
gather word first second third fourth from_Second from-third e f g = omega arith

pub of_eights : (word : ℕ) → word < 4294967296
    → eight_bits word 0 + 256 * eight_bits word 1 + 65536 * eight_bits word 2 + 16777216 * eight_bits word 3 ≡ word
of_eights word h =
    gather word (word % 256) (word / 256 % 256) (word / 65536 % 256) (word / 16777216 % 256) (word / 256) (word / 65536) (omega arith)
    (omega arith) (omega arith)
