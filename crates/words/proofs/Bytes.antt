-- The words of an even number of bytes, and the bytes of words. Assumes nothing.
use Prim.Native.Nat.{ℕ, zero, suc, ◌+◌, ◌*◌, ◌/◌, ◌%◌, ◌<◌}
use mathlib.Core.Path.{◌≡◌, sym, ap, ap₂, ◌∙◌}
use mathlib.Core.Bool.{Bool, cond, not}
use mathlib.Core.List.{List}
use native.Mathlib.Omega.{arith}
use lib.ListN.{length, get_or}
use lib.Seq.{ext_get_or}
use borrow.Author.Tests.{eq-eqb, ne_eqb}
use Rattle.refusal.specs.Numbers.{wrong_length}
use Rattle.refusal.specs.Answer.{none, refuse}
use Rattle.refusal.proofs.Firsts.{length_due}
use Rattle.words.proofs.Tabs.{length_tab, get_d_tab, is_tab}
use Rattle.words.specs.Bytes.{word_of_bytes, words_of, byte_of_words, bytes_of, pairs_refusal}

module _ (bytes : List ℕ) (n : ℕ) (even : length bytes ≡ 2 * n) where
  half : length bytes / 2 ≡ n
  half = omega arith

  pub words_length : length (words_of bytes) ≡ n
  unfolding words_of
  words_length = length_tab _ (length bytes / 2) ∙ half

  pub word_at_is : (k : ℕ) → k < n → get_or (words_of bytes) k 0 ≡ word_of_bytes bytes (2 * k)
  unfolding words_of
  word_at_is k l = get_d_tab _ (length bytes / 2) k (omega (arith, half))

module _ (words : List ℕ) where
  -- a word's low byte stands at an even offset and its high byte behind it
  pub low_of_words : (k : ℕ) → byte_of_words words (2 * k) ≡ get_or words k 0 % 256
  low_of_words k =
      ap (λ (t : Bool). cond t (get_or words (2 * k / 2) 0 % 256) (get_or words (2 * k / 2) 0 / 256)) (eq-eqb (2 * k % 2) 0 (omega arith))
      ∙ ap (λ (i : ℕ). get_or words i 0 % 256) (omega arith)

  pub high_of_words : (k : ℕ) → byte_of_words words (2 * k + 1) ≡ get_or words k 0 / 256
  high_of_words k =
      ap (λ (t : Bool). cond t (get_or words ((2 * k + 1) / 2) 0 % 256) (get_or words ((2 * k + 1) / 2) 0 / 256))
      (ne_eqb ((2 * k + 1) % 2) 0 (λ e. omega arith))
      ∙ ap (λ (i : ℕ). get_or words i 0 / 256) (omega arith)

  pub bytes_length : length (bytes_of words) ≡ 2 * length words
  unfolding bytes_of
  bytes_length = length_tab _ (2 * length words)

  -- what is given as bytes is taken as the same words
  pub words_back : words_of (bytes_of words) ≡ words
  unfolding bytes_of
  words_back =
      let size = words_length (bytes_of words) (length words) bytes_length in
      ext_get_or 0 (words_of (bytes_of words)) words size
      (λ k l.
      word_at_is (bytes_of words) (length words) bytes_length k (omega (arith, l, size))
      ∙ ap₂ (λ (low high : ℕ). low + 256 * high)
      (get_d_tab _ (2 * length words) (2 * k) (omega (arith, l, size)) ∙ low_of_words k)
      (get_d_tab _ (2 * length words) (2 * k + 1) (omega (arith, l, size)) ∙ high_of_words k)
      ∙ omega arith)

module _ (bytes : List ℕ) (n : ℕ) (even : length bytes ≡ 2 * n) (small : (i : ℕ) → i < 2 * n → get_or bytes i 0 < 256) where
  low_back : (k : ℕ) → k < n → byte_of_words (words_of bytes) (2 * k) ≡ get_or bytes (2 * k) 0
  low_back k l =
      low_of_words (words_of bytes) k ∙ ap (λ (w : ℕ). w % 256) (word_at_is bytes n even k l) ∙ omega (arith, small (2 * k) (omega arith))

  high_back : (k : ℕ) → k < n → byte_of_words (words_of bytes) (2 * k + 1) ≡ get_or bytes (2 * k + 1) 0
  high_back k l =
      high_of_words (words_of bytes) k ∙ ap (λ (w : ℕ). w / 256) (word_at_is bytes n even k l) ∙ omega (arith, small (2 * k) (omega arith))

  byte_back : (i k h : ℕ) → i ≡ 2 * k + h → h < 2 → i < 2 * n → get_or bytes i 0 ≡ byte_of_words (words_of bytes) i
  byte_back i k zero e two l =
      let at : i ≡ 2 * k = omega arith in ap (λ (j : ℕ). get_or bytes j 0) at ∙ sym (low_back k (omega arith)) ∙ ap (byte_of_words (words_of bytes)) (sym at)
  byte_back i k (suc h) e two l =
      let at : i ≡ 2 * k + 1 = omega arith in
      ap (λ (j : ℕ). get_or bytes j 0) at ∙ sym (high_back k (omega arith)) ∙ ap (byte_of_words (words_of bytes)) (sym at)

  -- what is taken as words is given as the same bytes
  pub bytes_back : bytes_of (words_of bytes) ≡ bytes
  unfolding bytes_of
  bytes_back =
      let size = words_length bytes n even in
      sym (is_tab (byte_of_words (words_of bytes)) (2 * length (words_of bytes)) bytes (omega (arith, even, size))
      (λ i l. byte_back i (i / 2) (i % 2) (omega arith) (omega arith) (omega (arith, l, size))))

-- so many bytes and so many words: accepted exactly where the bytes are twice the words
module _ (bytes words : ℕ) where
  pub pairs_accepted : bytes ≡ 2 * words → pairs_refusal bytes words ≡ none
  pairs_accepted e = ap (λ (t : Bool). refuse (not t) wrong_length 0) (eq-eqb bytes (2 * words) e)

  pub pairs_refused : (bytes ≡ 2 * words → ⊥) → pairs_refusal bytes words ≡ record { number = wrong_length; place = 0 }
  pairs_refused n = ap (λ (t : Bool). refuse (not t) wrong_length 0) (ne_eqb bytes (2 * words) n)

  pub pairs_fit : (pairs_refusal bytes words).number ≡ 0 → bytes ≡ 2 * words
  pairs_fit = length_due bytes (2 * words) 0
