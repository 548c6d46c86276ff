-- The two steps of a word at the document's delays, each as the word that comes out and the past after it. Assumes nothing.
use Prim.Native.Nat.{ℕ}
use Rattle.serial.specs.Serial.{Past, code_word, past_coding, decode_word, past_decoding}
use Rattle.serial.specs.Calls.{short_delay, long_delay}

abbrev pub code : Past → ℕ → ℕ
code = code_word short_delay long_delay

abbrev pub after_code : Past → ℕ → Past
after_code = past_coding short_delay long_delay

abbrev pub decode : Past → ℕ → ℕ
decode = decode_word short_delay long_delay

abbrev pub after_decode : Past → ℕ → Past
after_decode = past_decoding short_delay long_delay
