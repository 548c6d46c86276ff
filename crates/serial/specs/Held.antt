-- For a private pass: no contract of a public call and no promise cites this file.
-- What the private functions work on: the state as it is held between words, and words that were not refused.
use Rattle.std.specs.Prelude.{◌≡◌, List, reverse, ℕ, ◌<◌, ◌≤◌, ◌%◌, length, get_or}
use Rattle.refusal.specs.Answer.{written_by}
use Rattle.words.specs.Words.{most_word}
use Rattle.serial.specs.declared.held.Held.{Held}
use Rattle.serial.specs.Bits.{bits, one?}
use Rattle.serial.specs.declared.State.{State}
use Rattle.serial.specs.Calls.{Answer, answer_of, past_of, state_of, serial_refusal}
use Rattle.serial.specs.Serial.{Past, outs, ends}

-- the past in two numbers: nine scrambled bits, the earliest lowest, and the last channel bit
abbrev pub past_in : ℕ → ℕ → Past
past_in scrambled last = record { scrambled = reverse (bits 9 scrambled); last = one? (last % 2) }

-- the past that is held
abbrev pub past_held : Held → Past
past_held h = past_in h.scrambled h.last

-- words of ten bits, and an output of equal length
pub record Ready (words out : List ℕ) : Type 0 where
  pub small : (i : ℕ) → i < length words → get_or words i 0 ≤ most_word
  pub room : length out ≡ length words

-- what a call answers and leaves in the output, for any step of a word
module _ (out : Past → ℕ → ℕ) (step : Past → ℕ → Past) where
  abbrev pub run_answer : State → List ℕ → List ℕ → Answer
  run_answer s words room =
      answer_of (serial_refusal s words (length room)) s (state_of (ends out step (past_of s) words))

  abbrev pub run_output : State → List ℕ → List ℕ → List ℕ
  run_output s words room = written_by (serial_refusal s words (length room)) (outs out step (past_of s) words) room
