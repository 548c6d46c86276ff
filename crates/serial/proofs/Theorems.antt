-- The promises of the serial coder and decoder, each of the definitions that the calls' contracts cite. Assumes nothing.
use mathlib.Core.Path.{◌≡◌, refl, sym, ap, ap₂, ◌∙◌}
use mathlib.Core.List.{List, [], ◌∷◌}
use Prim.Native.Nat.{ℕ, ◌≤◌}
use native.Mathlib.Omega.{arith}
use lib.ListN.{length}
use Rattle.refusal.specs.declared.Refusal.{Refusal}
use Rattle.refusal.specs.Answer.{written_by, or_else, first_from}
use Rattle.serial.specs.declared.State.{State}
use Rattle.serial.specs.Serial.{Past, outs, ends, code_word, past_coding}
use Rattle.serial.specs.Calls.{Answer, short_delay, long_delay, fresh_state, past_of, state_of, serial_refusal, answer_of, code_answer, code_output, decode_answer, decode_output}
use Rattle.serial.proofs.Bits.{num_bits, digit_held}
use Rattle.serial.proofs.Steps.{code, after_code, decode, after_decode}
use Rattle.serial.proofs.Run.{outs_length}
use Rattle.serial.proofs.Refusals.{ten_bits, Accepted, accepted, accepts}
use Rattle.serial.proofs.RoundTrip.{codes_small}
use Rattle.serial.proofs.Answers.{refused_call, accepted_call}
-- For any delays, decoding what was coded from the same past gives the words, and ends in the past in which coding ended.
pub use Rattle.serial.proofs.RoundTrip.{words_back, state_back}
-- A call's refusal comes exactly when its condition holds and none earlier in the document's order does, and that leaves one answer only.
pub use Rattle.serial.proofs.Refusals.{serial_exact, serial_decides}

-- what was coded is accepted by the decoder
coded_accepted : (s : State) (words : List ℕ) (room : ℕ) → Accepted s words room
    → (serial_refusal s (outs code after_code (past_of s) words) room).number ≡ 0
coded_accepted s words room a =
    let long = outs_length code after_code (past_of s) words in
    ap (λ (r : Refusal). r.number)
    (accepts s (outs code after_code (past_of s) words) room
    (record {
      nine = a.nine;
      one = a.one;
      short = omega (arith, a.short);
      same = a.same ∙ sym long;
      small = λ i h. codes_small short_delay long_delay (past_of s) words i (rw long at h);
    }))

-- Decoding what an accepted call coded, from the same state and into any buffer of that length, gives the words back, and the answer is
-- the coder's: accepted, with the same state at the end.
pub decode_undoes_code : (s : State) (words out room : List ℕ) → (serial_refusal s words (length out)).number ≡ 0 → length room ≡ length out
    → (decode_output s (code_output s words out) room ≡ words) × (decode_answer s (code_output s words out) room ≡ code_answer s words out)
    × ((code_answer s words out).number ≡ 0)
unfolding code_output code_answer decode_output decode_answer
decode_undoes_code s words out room ok same =
    let a = accepted s words (length out) ok in
    let there = accepted_call code after_code s words out ok in
    let taken = rw (sym same) at (coded_accepted s words (length out) a) in
    let back = accepted_call decode after_decode s (outs code after_code (past_of s) words) room taken in
    let ends-alike = state_back short_delay long_delay (past_of s) words in (
      ap (λ (l : List ℕ). decode_output s l room) there.1 ∙ back.1 ∙ words_back short_delay long_delay (past_of s) (ten_bits words a.small),
      ap (λ (l : List ℕ). decode_answer s l room) there.1 ∙ back.0
          ∙ ap (λ (p : Past). record { number = 0; place = 0; state = state_of p }) ends-alike ∙ sym there.0,
      ap (λ (r : Answer). r.number) there.0,
    )

module _ (s : State) (words out : List ℕ) (r₁ r₂ : Answer) (o₁ o₂ : List ℕ) where
  -- Two results of coding that the contract allows for one input are the same.
  pub code_one_result : r₁ ≡ code_answer s words out → o₁ ≡ code_output s words out
      → r₂ ≡ code_answer s words out → o₂ ≡ code_output s words out → (r₁ ≡ r₂) × (o₁ ≡ o₂)
  code_one_result a b c d = (a ∙ sym c, b ∙ sym d)

  -- Two results of decoding that the contract allows for one input are the same.
  pub decode_one_result : r₁ ≡ decode_answer s words out → o₁ ≡ decode_output s words out
      → r₂ ≡ decode_answer s words out → o₂ ≡ decode_output s words out → (r₁ ≡ r₂) × (o₁ ≡ o₂)
  decode_one_result a b c d = (a ∙ sym c, b ∙ sym d)

-- a valid state is the state of its own bits
state_of_past : (s : State) → s.scrambled ≤ 511 → s.last ≤ 1 → state_of (past_of s) ≡ s
state_of_past s nine one =
    ap₂ (λ (m n : ℕ). record { scrambled = m; last = n }) (num_bits 9 s.scrambled (omega arith)) (digit_held s.last one)

-- for any step of a word
no_words_run : (f : Past → ℕ → ℕ) (g : Past → ℕ → Past) (s : State) → s.scrambled ≤ 511 → s.last ≤ 1
    → answer_of (serial_refusal s [] 0) s (state_of (ends f g (past_of s) [])) ≡ record { number = 0; place = 0; state = s }
no_words_run f g s nine one =
    let empty = accepts s [] 0 (record { nine = nine; one = one; short = omega arith; same = refl; small = λ i h. absurd (omega arith) }) in
    (accepted_call f g s [] [] (ap (λ (r : Refusal). r.number) empty)).0
    ∙ ap (λ (t : State). record { number = 0; place = 0; state = t }) (state_of_past s nine one)

-- No words: the state comes back as given.
pub no_words : (s : State) → s.scrambled ≤ 511 → s.last ≤ 1
    → (code_answer s [] [] ≡ record { number = 0; place = 0; state = s }) × (decode_answer s [] [] ≡ record { number = 0; place = 0; state = s })
unfolding code_answer decode_answer
no_words s nine one = (no_words_run code after_code s nine one, no_words_run decode after_decode s nine one)

-- A refused call hands the state back and leaves the output as it was.
pub refused_keeps : (s : State) (words out : List ℕ) → ((serial_refusal s words (length out)).number ≡ 0 → ⊥)
    → ((code_answer s words out).state ≡ s) × (code_output s words out ≡ out)
    × ((decode_answer s words out).state ≡ s) × (decode_output s words out ≡ out)
unfolding code_answer code_output decode_answer decode_output
refused_keeps s words out n =
    let c = refused_call code after_code s words out n in
    let d = refused_call decode after_decode s words out n in
    (ap (λ (r : Answer). r.state) c.0, c.1, ap (λ (r : Answer). r.state) d.0, d.1)

-- M10: the words 1, 0 coded from fresh.
pub m10 : (a b : ℕ) → code_output fresh_state (1 ∷ 0 ∷ []) (a ∷ b ∷ []) ≡ 543 ∷ 736 ∷ []
unfolding written_by code_output serial_refusal or_else first_from code_word past_coding
m10 a b = refl

-- M11: the serial state after the word 1 alone.
pub m11 : (a : ℕ) → (code_answer fresh_state (1 ∷ []) (a ∷ [])).state ≡ record { scrambled = 17; last = 1 }
unfolding code_answer serial_refusal or_else first_from code_word past_coding
m11 a = refl
