-- Words of any number, coded or decoded in pieces with the state carried from each call to the next, come out as one run over all of
-- them. Assumes nothing.
use mathlib.Core.Path.{◌≡◌, refl, sym, ap, ap₂, ◌∙◌}
use mathlib.Core.Bool.{Bool, true, false}
use mathlib.Core.List.{List, [], ◌∷◌, ◌++◌}
use Prim.Native.Nat.{ℕ, suc, ◌%◌}
use native.Mathlib.Omega.{arith}
use lib.ListN.{length}
use lib.Seq.{length-take-le}
use Rattle.serial.specs.declared.State.{State}
use Rattle.serial.specs.Bits.{bits, num, digit, one?}
use Rattle.serial.specs.Serial.{Past, push, coder_step, decoder_step, after_coding, after_decoding, past_coding, past_decoding, outs, ends, code_words, end_coding, decode_words, end_decoding}
use Rattle.serial.specs.Calls.{Answer, short_delay, long_delay, past_of, state_of, serial_refusal, code_answer, code_output, decode_answer, decode_output}
use Rattle.serial.proofs.Bits.{bits_num}
use Rattle.serial.proofs.Steps.{code, after_code, decode, after_decode}
use Rattle.serial.specs.Held.{run_answer, run_output}
use Rattle.serial.proofs.Answers.{accepted_call}

-- ---- nine scrambled bits stay nine
abbrev Nine : Past → Type 0
Nine p = length p.scrambled ≡ 9

pushed_nine : (p : Past) → Nine p → (x y : Bool) → Nine (push x y p)
pushed_nine p nine x y = ap suc (length-take-le 8 p.scrambled (omega (arith, nine)))

coding_nine : (bs : List Bool) (p : Past) → Nine p → Nine (after_coding short_delay long_delay p bs)
coding_nine [] p nine = nine
coding_nine (b ∷ bs) p nine = coding_nine bs (coder_step short_delay long_delay p b) (pushed_nine p nine false false)

decoding_nine : (bs : List Bool) (p : Past) → Nine p → Nine (after_decoding short_delay long_delay p bs)
decoding_nine [] p nine = nine
decoding_nine (b ∷ bs) p nine = decoding_nine bs (decoder_step short_delay long_delay p b) (pushed_nine p nine false false)

code_nine : (p : Past) (w : ℕ) → Nine p → Nine (after_code p w)
unfolding past_coding
code_nine p w nine = coding_nine (bits 10 w) p nine

decode_nine : (p : Past) (w : ℕ) → Nine p → Nine (after_decode p w)
unfolding past_decoding
decode_nine p w nine = decoding_nine (bits 10 w) p nine

-- ---- a past of nine bits is that of its own state
last_held : (b : Bool) → one? (digit b % 2) ≡ b
last_held false = refl
last_held true = refl

past_of_state : (p : Past) → Nine p → past_of (state_of p) ≡ p
past_of_state p nine =
    ap₂ (λ (bs : List Bool) (b : Bool). record { scrambled = bs; last = b })
    (ap (λ (n : ℕ). bits n (num p.scrambled)) (sym nine) ∙ bits_num p.scrambled) (last_held p.last)

-- ---- for any step of a word that keeps nine bits
module _ (f : Past → ℕ → ℕ) (g : Past → ℕ → Past) (keeps : (p : Past) (w : ℕ) → Nine p → Nine (g p w)) where
  outs_append : (p : Past) (a b : List ℕ) → outs f g p (a ++ b) ≡ outs f g p a ++ outs f g (ends f g p a) b
  outs_append p [] b = refl
  outs_append p (w ∷ a) b = ap (λ (l : List ℕ). f p w ∷ l) (outs_append (g p w) a b)

  ends_append : (p : Past) (a b : List ℕ) → ends f g p (a ++ b) ≡ ends f g (ends f g p a) b
  ends_append p [] b = refl
  ends_append p (w ∷ a) b = ends_append (g p w) a b

  ends_nine : (p : Past) (a : List ℕ) → Nine p → Nine (ends f g p a)
  ends_nine p [] nine = nine
  ends_nine p (w ∷ a) nine = ends_nine (g p w) a (keeps p w nine)

  in_pieces : (s : State) (a b first second : List ℕ) → (serial_refusal s a (length first)).number ≡ 0
      → (serial_refusal (run_answer f g s a first).state b (length second)).number ≡ 0
      → (run_output f g s a first ++ run_output f g (run_answer f g s a first).state b second ≡ outs f g (past_of s) (a ++ b))
      × ((run_answer f g (run_answer f g s a first).state b second).state ≡ state_of (ends f g (past_of s) (a ++ b)))
  in_pieces s a b first second ok ok-too =
      let one = accepted_call f g s a first ok in
      let two = accepted_call f g (run_answer f g s a first).state b second ok-too in
      let held : past_of (run_answer f g s a first).state ≡ ends f g (past_of s) a =
      ap (λ (r : Answer). past_of r.state) one.0 ∙ past_of_state (ends f g (past_of s) a) (ends_nine (past_of s) a refl) in (
        ap₂ ◌++◌ one.1 (two.1 ∙ ap (λ (p : Past). outs f g p b) held) ∙ sym (outs_append (past_of s) a b),
        ap (λ (r : Answer). r.state) two.0 ∙ ap (λ (p : Past). state_of (ends f g p b)) held
            ∙ ap state_of (sym (ends_append (past_of s) a b)),
      )

module _ (s : State) (a b first second : List ℕ) where
  -- Two calls of the coder, each accepted, the second from the state that the first left, give what one run over both pieces gives.
  pub coded_in_pieces : (serial_refusal s a (length first)).number ≡ 0
      → (serial_refusal (code_answer s a first).state b (length second)).number ≡ 0
      → (code_output s a first ++ code_output (code_answer s a first).state b second ≡ code_words short_delay long_delay (past_of s) (a ++ b))
      × ((code_answer (code_answer s a first).state b second).state ≡ state_of (end_coding short_delay long_delay (past_of s) (a ++ b)))
  unfolding code_answer code_output
  coded_in_pieces = in_pieces code after_code code_nine s a b first second

  -- The same of the decoder.
  pub decoded_in_pieces : (serial_refusal s a (length first)).number ≡ 0
      → (serial_refusal (decode_answer s a first).state b (length second)).number ≡ 0
      → (decode_output s a first ++ decode_output (decode_answer s a first).state b second ≡ decode_words short_delay long_delay (past_of s) (a ++ b))
      × ((decode_answer (decode_answer s a first).state b second).state ≡ state_of (end_decoding short_delay long_delay (past_of s) (a ++ b)))
  unfolding decode_answer decode_output
  decoded_in_pieces = in_pieces decode after_decode decode_nine s a b first second
