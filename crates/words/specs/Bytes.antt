-- Document 01, "The confirming program and the capture process": words as bytes, "two per word, low byte first".
use Rattle.std.specs.Prelude.{ℕ, zero, suc, ◌+◌, ◌*◌, ◌/◌, ◌%◌, ◌≡◌, List, [], ◌∷◌, cond, not, length, get_or, eqb}
use Rattle.refusal.specs.declared.Refusal.{Refusal}
use Rattle.refusal.specs.Numbers.{wrong_length}
use Rattle.refusal.specs.Answer.{refuse}
use Rattle.refusal.specs.Table.{Row, when}
use Rattle.words.specs.Words.{tab}

-- the word of two bytes from an offset of the bytes
abbrev pub word_of_bytes : List ℕ → ℕ → ℕ
word_of_bytes bytes i = get_or bytes i 0 + 256 * get_or bytes (i + 1) 0

-- the words of bytes, as many as are whole
unfoldable pub words_of : List ℕ → List ℕ
words_of bytes = tab (length bytes / 2) (λ k. word_of_bytes bytes (2 * k))

-- the byte at an offset of the bytes of words: of each word the low byte first
abbrev pub byte_of_words : List ℕ → ℕ → ℕ
byte_of_words words i = cond (eqb (i % 2) 0) (get_or words (i / 2) 0 % 256) (get_or words (i / 2) 0 / 256)

-- the bytes of words
unfoldable pub bytes_of : List ℕ → List ℕ
bytes_of words = tab (2 * length words) (byte_of_words words)

-- the number of n bytes from an offset on, low byte first
unfoldable pub number_from : List ℕ → ℕ → ℕ → ℕ
number_from bytes i zero = 0
number_from bytes i (suc n) = get_or bytes i 0 + 256 * number_from bytes (suc i) n

-- the lowest n bytes of a number, low byte first
unfoldable pub number_bytes : ℕ → ℕ → List ℕ
number_bytes zero number = []
number_bytes (suc n) number = number % 256 ∷ number_bytes n (number / 256)

-- where so many bytes are not those of so many words, 3
abbrev pub pairs_refusal : ℕ → ℕ → Refusal
pairs_refusal bytes words = refuse (not (eqb bytes (2 * words))) wrong_length 0

abbrev pub pairs_refusals : ℕ → ℕ → Row
pairs_refusals bytes words = when (bytes ≡ 2 * words → ⊥) wrong_length 0
