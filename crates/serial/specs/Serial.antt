-- Document 01, "Serial form": the scrambler and the channel code bit by bit, for any two delays, and the decoder that undoes both.
use Rattle.std.specs.Prelude.{Bool, false, List, [], ◌∷◌, ℕ, ◌-◌, get_or, take}
use Rattle.serial.specs.Bits.{◌⊕◌, bits, num}

-- "the last nine scrambled bits" (here the newest first) "and the last channel bit"
pub record Past : Type 0 where
  pub scrambled : List Bool
  pub last : Bool

-- "the scrambled bit .. earlier" by this delay, 1 being the newest
abbrev pub earlier : List Bool → ℕ → Bool
earlier scrambled delay = get_or scrambled (delay - 1) false

-- the past after the scrambled bit x, sent as the channel bit y
abbrev pub push : Bool → Bool → Past → Past
push x y s = record { scrambled = x ∷ take 8 s.scrambled; last = y }

-- a run over words, for any step of one word: the words that come out, and the past after them
module _ (out : Past → ℕ → ℕ) (step : Past → ℕ → Past) where
  abbrev pub outs : Past → List ℕ → List ℕ
  outs s [] = []
  outs s (w ∷ ws) = out s w ∷ outs (step s w) ws

  abbrev pub ends : Past → List ℕ → Past
  ends s [] = s
  ends s (w ∷ ws) = ends (step s w) ws

module _ (d e : ℕ) where
  -- "The scrambled bit is the plain bit xor the scrambled bits 5 and 9 earlier"
  abbrev pub scrambled_bit : List Bool → Bool → Bool
  scrambled_bit scrambled p = p ⊕ earlier scrambled d ⊕ earlier scrambled e

  -- "the channel bit is that xor the channel bit before"
  abbrev pub channel_bit : Past → Bool → Bool
  channel_bit s p = scrambled_bit s.scrambled p ⊕ s.last

  abbrev pub coder_step : Past → Bool → Past
  coder_step s p = push (scrambled_bit s.scrambled p) (channel_bit s p) s

  -- "The decoder undoes both": the scrambled bit is the channel bit xor the one before, the plain bit that xor the two earlier
  abbrev pub plain_bit : Past → Bool → Bool
  plain_bit s y = scrambled_bit s.scrambled (y ⊕ s.last)

  abbrev pub decoder_step : Past → Bool → Past
  decoder_step s y = push (y ⊕ s.last) y s

  abbrev pub coded : Past → List Bool → List Bool
  coded s [] = []
  coded s (p ∷ ps) = channel_bit s p ∷ coded (coder_step s p) ps

  abbrev pub after_coding : Past → List Bool → Past
  after_coding s [] = s
  after_coding s (p ∷ ps) = after_coding (coder_step s p) ps

  abbrev pub decoded : Past → List Bool → List Bool
  decoded s [] = []
  decoded s (y ∷ ys) = plain_bit s y ∷ decoded (decoder_step s y) ys

  abbrev pub after_decoding : Past → List Bool → Past
  after_decoding s [] = s
  after_decoding s (y ∷ ys) = after_decoding (decoder_step s y) ys

  -- one word of ten bits, "lowest bit of a word first", and the past after it
  unfoldable pub code_word : Past → ℕ → ℕ
  code_word s w = num (coded s (bits 10 w))

  unfoldable pub past_coding : Past → ℕ → Past
  past_coding s w = after_coding s (bits 10 w)

  unfoldable pub decode_word : Past → ℕ → ℕ
  decode_word s w = num (decoded s (bits 10 w))

  unfoldable pub past_decoding : Past → ℕ → Past
  past_decoding s w = after_decoding s (bits 10 w)

  -- words in turn
  abbrev pub code_words : Past → List ℕ → List ℕ
  code_words = outs code_word past_coding

  abbrev pub end_coding : Past → List ℕ → Past
  end_coding = ends code_word past_coding

  abbrev pub decode_words : Past → List ℕ → List ℕ
  decode_words = outs decode_word past_decoding

  abbrev pub end_decoding : Past → List ℕ → Past
  end_decoding = ends decode_word past_decoding
