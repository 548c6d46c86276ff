-- What the calls code and decode answer, and what they leave in the output, for every input.
use Rattle.std.specs.Prelude.{not, cond, ◌||◌, List, [], ◌∷◌, ℕ, ◌%◌, length, ltb, eqb, Result, Ok, Err}
use Rattle.refusal.specs.declared.Refusal.{Refusal}
use Rattle.refusal.specs.Numbers.{wrong_length, bad_state}
use Rattle.refusal.specs.Answer.{refuse, written_by, first_of}
use Rattle.refusal.specs.Reasons.{number_of}
use Rattle.words.specs.Words.{over_refusal}
use Rattle.serial.specs.declared.State.{State}
use Rattle.serial.specs.declared.Returned.{Returned}
use Rattle.serial.specs.Bits.{bits, num, digit, one?}
use Rattle.serial.specs.Serial.{Past, code_words, end_coding, decode_words, end_decoding}

-- "the scrambled bits 5 and 9 earlier"
abbrev pub short_delay : ℕ
short_delay = 5

abbrev pub long_delay : ℕ
long_delay = 9

-- what a call answers: 0 and the state after the words, or a refusal and the state as given
pub record Answer : Type 0 where
  pub number : ℕ
  pub place : ℕ
  pub state : State

-- the answer that a call's result tells
abbrev pub told : Result State Returned → Answer
told (Ok after) = record { number = 0; place = 0; state = after }
told (Err returned) =
    record { number = number_of returned.refused.reason; place = returned.refused.place; state = returned.state }

-- "fresh is 0 and 0"
abbrev pub fresh_state : State
fresh_state = record { scrambled = 0; last = 0 }

-- the state's bits, "newest in bit 0", and back
abbrev pub past_of : State → Past
past_of s = record { scrambled = bits 9 s.scrambled; last = one? (s.last % 2) }

abbrev pub state_of : Past → State
state_of s = record { scrambled = num s.scrambled; last = digit s.last }

-- "at most 65,536 words"
abbrev pub most_words : ℕ
most_words = 65536

-- "13 first, then 3 (place 0 for too long, and after it 1 for unequal output), then 5"
unfoldable pub serial_refusal : State → List ℕ → ℕ → Refusal
serial_refusal s words room =
    first_of
    (refuse (ltb 511 s.scrambled || ltb 1 s.last) bad_state 0
    ∷ refuse (ltb most_words (length words)) wrong_length 0
    ∷ refuse (not (eqb room (length words))) wrong_length 1
    ∷ over_refusal words
    ∷ [])

-- a refused call hands the state back; an accepted one the state after the words
abbrev pub answer_of : Refusal → State → State → Answer
answer_of r given after =
    cond (eqb r.number 0) (record { number = 0; place = 0; state = after }) (record { number = r.number; place = r.place; state = given })

unfoldable pub code_answer : State → List ℕ → List ℕ → Answer
code_answer s words out =
    answer_of (serial_refusal s words (length out)) s (state_of (end_coding short_delay long_delay (past_of s) words))

unfoldable pub code_output : State → List ℕ → List ℕ → List ℕ
code_output s words out =
    written_by (serial_refusal s words (length out)) (code_words short_delay long_delay (past_of s) words) out

unfoldable pub decode_answer : State → List ℕ → List ℕ → Answer
decode_answer s words out =
    answer_of (serial_refusal s words (length out)) s (state_of (end_decoding short_delay long_delay (past_of s) words))

unfoldable pub decode_output : State → List ℕ → List ℕ → List ℕ
decode_output s words out =
    written_by (serial_refusal s words (length out)) (decode_words short_delay long_delay (past_of s) words) out
