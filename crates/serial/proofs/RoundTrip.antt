-- Decoding undoes coding, for any two delays: bit by bit the decoder finds the coder's scrambled bit, and so its past and the plain bit.
-- Assumes nothing.
use mathlib.Core.Path.{◌≡◌, refl, ap, ap₂, ◌∙◌}
use mathlib.Core.Bool.{Bool}
use mathlib.Core.List.{List, [], ◌∷◌}
use Prim.Native.Nat.{ℕ, ◌≤◌, ◌<◌}
use native.Mathlib.Omega.{arith}
use native.Mathlib.Nat.{le_of_suc-le-suc}
use lib.ListN.{length, get_or}
use Rattle.serial.specs.Bits.{bits, num}
use Rattle.serial.specs.Serial.{Past, channel_bit, coder_step, plain_bit, decoder_step, coded, after_coding, decoded, after_decoding, code_word, past_coding, decode_word, past_decoding, code_words, end_coding, decode_words, end_decoding}
use Rattle.serial.specs.Words.{Words, none, more}
use Rattle.serial.proofs.Bits.{xor_cancel, bits_num, num_bits, num_lt}
use Rattle.serial.proofs.Run.{outs_at}

module _ (d e : ℕ) where
  bit_back : (s : Past) (p : Bool) → plain_bit d e s (channel_bit d e s p) ≡ p
  bit_back s p = rw xor_cancel (xor_cancel p _)

  past_back : (s : Past) (p : Bool) → decoder_step d e s (channel_bit d e s p) ≡ coder_step d e s p
  past_back s p = rw xor_cancel

  bits_back : (s : Past) (ps : List Bool) → decoded d e s (coded d e s ps) ≡ ps
  bits_back s [] = refl
  bits_back s (p ∷ ps) = ap₂ ◌∷◌ (bit_back s p) (rw (past_back s p) (bits_back (coder_step d e s p) ps))

  pasts_back : (s : Past) (ps : List Bool) → after_decoding d e s (coded d e s ps) ≡ after_coding d e s ps
  pasts_back s [] = refl
  pasts_back s (p ∷ ps) =
      ap (λ (t : Past). after_decoding d e t (coded d e (coder_step d e s p) ps)) (past_back s p)
      ∙ pasts_back (coder_step d e s p) ps

  -- a coded word's bits are the coded bits
  coded_bits : (s : Past) (w : ℕ) → bits 10 (num (coded d e s (bits 10 w))) ≡ coded d e s (bits 10 w)
  coded_bits s w = bits_num (coded d e s (bits 10 w))

  word_back : (s : Past) (w : ℕ) → w ≤ 1023 → decode_word d e s (code_word d e s w) ≡ w
  unfolding code_word decode_word
  word_back s w h =
      ap (λ (bs : List Bool). num (decoded d e s bs)) (coded_bits s w) ∙ ap num (bits_back s (bits 10 w))
      ∙ num_bits 10 w (omega arith)

  step_back : (s : Past) (w : ℕ) → past_decoding d e s (code_word d e s w) ≡ past_coding d e s w
  unfolding code_word past_coding past_decoding
  step_back s w = ap (after_decoding d e s) (coded_bits s w) ∙ pasts_back s (bits 10 w)

  -- a coded word has ten bits
  code_small : (s : Past) (w : ℕ) → code_word d e s w ≤ 1023
  unfolding code_word
  code_small s w = le_of_suc-le-suc (num_lt (coded d e s (bits 10 w)))

  pub codes_small : (s : Past) (ws : List ℕ) (i : ℕ) → i < length ws → get_or (code_words d e s ws) i 0 ≤ 1023
  codes_small s ws i h = rw (outs_at (code_word d e) (past_coding d e) s ws i h) (code_small _ _)

  -- Decoding what was coded from the same past gives the words.
  pub words_back : (s : Past) {ws : List ℕ} → Words ws → decode_words d e s (code_words d e s ws) ≡ ws
  words_back s none = refl
  words_back s (more {w} {ws} h r) = ap₂ ◌∷◌ (word_back s w h) (rw step_back (words_back (past_coding d e s w) r))

  -- It ends in the past in which coding ended.
  pub state_back : (s : Past) (ws : List ℕ) → end_decoding d e s (code_words d e s ws) ≡ end_coding d e s ws
  state_back s [] = refl
  state_back s (w ∷ ws) =
      ap (λ (t : Past). end_decoding d e t (code_words d e (past_coding d e s w) ws)) (step_back s w)
      ∙ state_back (past_coding d e s w) ws
