-- Unpacking undoes packing, and packing undoes unpacking where no spare bit is set: word by word, each digit. Assumes nothing.
use Prim.Native.Nat.{ℕ, ◌+◌, ◌*◌, ◌/◌, ◌%◌, ◌<◌, ◌≤◌}
use mathlib.Core.Path.{◌≡◌, sym, ap, ◌∙◌}
use mathlib.Core.List.{List}
use native.Mathlib.Omega.{arith}
use lib.Dec.{eqb, ltb}
use lib.ListN.{length, get_or, get_or-eq_default}
use borrow.Author.Tests.{ltb-true, ltb-false}
use Rattle.refusal.proofs.Cases.{by_cond, by_test}
use Rattle.words.specs.Words.{most_word}
use Rattle.line.specs.Samples.{active_length}
use Rattle.words.proofs.Tabs.{length_tab, get_d_tab, is_tab}
use Rattle.v210.specs.Row.{row_length, row_words, row_word, most_row_word, ten_bits, row_sample, unpacked_of, samples_word, eight_bits, row_byte, packed_of}
use Rattle.v210.proofs.Digits.{first_ten, second_ten, third_ten, tens_bounded, of_tens, first_eight, second_eight, third_eight, fourth_eight, of_eights}
use Rattle.v210.proofs.Places.{sample_at, byte_at, every_sample, every_byte}

-- ---- What is unpacked: 1440 samples of ten bits.
ten_small : (word n : ℕ) → ten_bits word n ≤ most_word
ten_small word n =
    by_cond (λ v. v ≤ most_word) (eqb n 0) _ _ (λ t. omega arith)
    (λ f. by_cond (λ v. v ≤ most_word) (eqb n 1) _ _ (λ t. omega arith) (λ g. omega arith))

module _ (row : List ℕ) where
  pub unpacked_length : length (unpacked_of row) ≡ active_length
  unfolding unpacked_of
  unpacked_length = length_tab (row_sample row) active_length

  -- the sample n of the word k
  unpacked_at : (k n : ℕ) → k < row_words → n < 3 → get_or (unpacked_of row) (3 * k + n) 0 ≡ ten_bits (row_word row k) n
  unfolding unpacked_of
  unpacked_at k n l h = get_d_tab (row_sample row) active_length (3 * k + n) (omega arith) ∙ sample_at row k n h

  pub unpacked_small : (i : ℕ) → get_or (unpacked_of row) i 0 ≤ most_word
  unfolding unpacked_of
  unpacked_small i =
      by_test (ltb i active_length)
      (λ t. rw (get_d_tab (row_sample row) active_length i (ltb-true i active_length t)) (ten_small (row_word row (i / 3)) (i % 3)))
      (λ f. let past = get_or-eq_default (unpacked_of row) 0 {n = i} (omega (arith, unpacked_length, ltb-false i active_length f)) in omega (arith, past))

-- ---- What is packed: 1920 bytes.
module _ (samples : List ℕ) where
  pub packed_length : length (packed_of samples) ≡ row_length
  unfolding packed_of
  packed_length = length_tab (row_byte samples) row_length

  -- the byte n of the word k
  packed_at : (k n : ℕ) → k < row_words → n < 4 → get_or (packed_of samples) (4 * k + n) 0 ≡ eight_bits (samples_word samples k) n
  unfolding packed_of
  packed_at k n l h = get_d_tab (row_byte samples) row_length (4 * k + n) (omega arith) ∙ byte_at samples k n h

-- ---- Unpacking undoes packing.
module _ (samples : List ℕ) (small : (i : ℕ) → i < active_length → get_or samples i 0 ≤ most_word) where
  module _ (k : ℕ) (l : k < row_words) where
    abbrev first : ℕ
    first = get_or samples (3 * k) 0

    abbrev second : ℕ
    second = get_or samples (3 * k + 1) 0

    abbrev third : ℕ
    third = get_or samples (3 * k + 2) 0

    first_small : first ≤ most_word
    first_small = small (3 * k) (omega arith)

    second_small : second ≤ most_word
    second_small = small (3 * k + 1) (omega arith)

    third_small : third ≤ most_word
    third_small = small (3 * k + 2) (omega arith)

    word_small : samples_word samples k ≤ most_row_word
    word_small = tens_bounded first second third first_small second_small third_small

    -- a packed row's words are the samples' words
    word_packed : row_word (packed_of samples) k ≡ samples_word samples k
    word_packed =
        let start : 4 * k ≡ 4 * k + 0 = omega arith in
        let lowest = ap (λ (i : ℕ). get_or (packed_of samples) i 0) start ∙ packed_at samples k 0 l (omega arith) in
        rw (lowest, packed_at samples k 1 l (omega arith), packed_at samples k 2 l (omega arith), packed_at samples k 3 l (omega arith))
        (of_eights (samples_word samples k) (omega (arith, word_small)))

    -- so no spare bit is set
    pub packed_clear : row_word (packed_of samples) k ≤ most_row_word
    packed_clear = rw word_packed word_small

    -- and the samples of a packed row are the samples of its words
    sample_packed : (n : ℕ) → n < 3 → row_sample (packed_of samples) (3 * k + n) ≡ ten_bits (samples_word samples k) n
    sample_packed n h = sample_at (packed_of samples) k n h ∙ ap (λ (word : ℕ). ten_bits word n) word_packed

  pub samples_unpacked : length samples ≡ active_length → unpacked_of (packed_of samples) ≡ samples
  unfolding unpacked_of
  samples_unpacked long =
      sym (is_tab (row_sample (packed_of samples)) active_length samples long
      (every_sample (λ place. get_or samples place 0 ≡ row_sample (packed_of samples) place)
      (λ k l.
      let start : 3 * k + 0 ≡ 3 * k = omega arith in (
        ap (λ (i : ℕ). get_or samples i 0) start
            ∙ sym (sample_packed k l 0 (omega arith) ∙ first_ten (first k l) (second k l) (third k l) (first_small k l) (second_small k l) (third_small k l)),
        sym (sample_packed k l 1 (omega arith) ∙ second_ten (first k l) (second k l) (third k l) (first_small k l) (second_small k l) (third_small k l)),
        sym (sample_packed k l 2 (omega arith) ∙ third_ten (first k l) (second k l) (third k l) (first_small k l) (second_small k l) (third_small k l)),
      ))))

-- ---- Packing undoes unpacking, where no spare bit is set.
module _ (row : List ℕ) (bytes : (i : ℕ) → i < row_length → get_or row i 0 < 256) (clear : (k : ℕ) → k < row_words → row_word row k ≤ most_row_word) where
  module _ (k : ℕ) (l : k < row_words) where
    -- the word of an unpacked row's samples is the row's word
    word_unpacked : samples_word (unpacked_of row) k ≡ row_word row k
    word_unpacked =
        let start : 3 * k ≡ 3 * k + 0 = omega arith in
        let lowest = ap (λ (i : ℕ). get_or (unpacked_of row) i 0) start ∙ unpacked_at row k 0 l (omega arith) in
        rw (lowest, unpacked_at row k 1 l (omega arith), unpacked_at row k 2 l (omega arith)) (of_tens (row_word row k) (clear k l))

    byte_unpacked : (n : ℕ) → n < 4 → row_byte (unpacked_of row) (4 * k + n) ≡ eight_bits (row_word row k) n
    byte_unpacked n h = byte_at (unpacked_of row) k n h ∙ ap (λ (word : ℕ). eight_bits word n) word_unpacked

    one : get_or row (4 * k) 0 < 256
    one = bytes (4 * k) (omega arith)

    two : get_or row (4 * k + 1) 0 < 256
    two = bytes (4 * k + 1) (omega arith)

    three : get_or row (4 * k + 2) 0 < 256
    three = bytes (4 * k + 2) (omega arith)

    four : get_or row (4 * k + 3) 0 < 256
    four = bytes (4 * k + 3) (omega arith)

  pub row_packed : length row ≡ row_length → packed_of (unpacked_of row) ≡ row
  unfolding packed_of
  row_packed long =
      sym (is_tab (row_byte (unpacked_of row)) row_length row long
      (every_byte (λ place. get_or row place 0 ≡ row_byte (unpacked_of row) place)
      (λ k l.
      let start : 4 * k + 0 ≡ 4 * k = omega arith in (
        ap (λ (i : ℕ). get_or row i 0) start
            ∙ sym (byte_unpacked k l 0 (omega arith) ∙ first_eight _ _ _ (get_or row (4 * k + 3) 0) (one k l) (two k l) (three k l)),
        sym (byte_unpacked k l 1 (omega arith) ∙ second_eight _ _ _ (get_or row (4 * k + 3) 0) (one k l) (two k l) (three k l)),
        sym (byte_unpacked k l 2 (omega arith) ∙ third_eight _ _ _ (get_or row (4 * k + 3) 0) (one k l) (two k l) (three k l)),
        sym (byte_unpacked k l 3 (omega arith) ∙ fourth_eight _ _ _ _ (one k l) (two k l) (three k l) (four k l)),
      ))))
