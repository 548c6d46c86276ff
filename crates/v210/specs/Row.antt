-- A row of v210: "three 10-bit samples to a 32-bit word, lowest bits first, low byte first, in the order CB Y CR Y: exactly the active
-- part's order, 1440 samples = 1920 bytes a line".
use Rattle.std.specs.Prelude.{ℕ, ◌+◌, ◌*◌, ◌/◌, ◌%◌, List, [], ◌∷◌, cond, not, length, get_or, eqb}
use Rattle.refusal.specs.declared.Refusal.{Refusal}
use Rattle.refusal.specs.Numbers.{wrong_length}
use Rattle.refusal.specs.Answer.{refuse, written_by, or_else, first_of, first_from}
use Rattle.words.specs.Words.{tab, fault_over, over_refusal}
use Rattle.line.specs.Samples.{active_length}

-- the bytes of a row
abbrev pub row_length : ℕ
row_length = 1920

-- its 32-bit words
abbrev pub row_words : ℕ
row_words = 480

-- the word with this index, "low byte first"
abbrev pub row_word : List ℕ → ℕ → ℕ
row_word row k =
    get_or row (4 * k) 0 + 256 * get_or row (4 * k + 1) 0 + 65536 * get_or row (4 * k + 2) 0 + 16777216 * get_or row (4 * k + 3) 0

-- the first, second and third ten bits of a word, "lowest bits first"
abbrev pub ten_bits : ℕ → ℕ → ℕ
ten_bits word n = cond (eqb n 0) (word % 1024) (cond (eqb n 1) (word / 1024 % 1024) (word / 1048576 % 1024))

-- the sample at a place of the active part
abbrev pub row_sample : List ℕ → ℕ → ℕ
row_sample row place = ten_bits (row_word row (place / 3)) (place % 3)

-- the samples of a row, in the active part's order
unfoldable pub unpacked_of : List ℕ → List ℕ
unpacked_of row = tab active_length (row_sample row)

-- the word of three samples
abbrev pub samples_word : List ℕ → ℕ → ℕ
samples_word samples k = get_or samples (3 * k) 0 + 1024 * get_or samples (3 * k + 1) 0 + 1048576 * get_or samples (3 * k + 2) 0

-- the bytes of a word, the lowest first
abbrev pub eight_bits : ℕ → ℕ → ℕ
eight_bits word n =
    cond (eqb n 0) (word % 256) (cond (eqb n 1) (word / 256 % 256) (cond (eqb n 2) (word / 65536 % 256) (word / 16777216 % 256)))

abbrev pub row_byte : List ℕ → ℕ → ℕ
row_byte samples i = eight_bits (samples_word samples (i / 4)) (i % 4)

-- the row of an active part's samples
unfoldable pub packed_of : List ℕ → List ℕ
packed_of samples = tab row_length (row_byte samples)

-- "v210's two spare bits of each word 0; set ones are refused": 5 at the index of a word over 30 bits
abbrev pub most_row_word : ℕ
most_row_word = 1073741823

abbrev pub spare_at : List ℕ → ℕ → ℕ
spare_at row k = fault_over most_row_word (row_word row k)

unfoldable pub spare_refusal : List ℕ → Refusal
spare_refusal row = first_from (spare_at row) 0 row_words

-- 3 at 0 where what is read has another length than is due, and at 1 where the room for it has
unfoldable pub lengths_refusal : ℕ → ℕ → ℕ → ℕ → Refusal
lengths_refusal read read_due room room_due =
    or_else (refuse (not (eqb read read_due)) wrong_length 0) (refuse (not (eqb room room_due)) wrong_length 1)

-- unpacking: 3 at 0 for the row and at 1 for the samples, then 5
unfoldable pub unpack_refusal : List ℕ → ℕ → Refusal
unpack_refusal row room =
    first_of
    (refuse (not (eqb (length row) row_length)) wrong_length 0 ∷ refuse (not (eqb room active_length)) wrong_length 1 ∷ spare_refusal row ∷ [])

-- packing: 3 at 0 for the samples and at 1 for the row, then 5
unfoldable pub pack_refusal : List ℕ → ℕ → Refusal
pack_refusal samples room =
    first_of
    (refuse (not (eqb (length samples) active_length)) wrong_length 0
    ∷ refuse (not (eqb room row_length)) wrong_length 1
    ∷ over_refusal samples
    ∷ [])

-- the buffers afterwards: no refusal writes one
unfoldable pub samples_after : List ℕ → List ℕ → List ℕ
samples_after row before = written_by (unpack_refusal row (length before)) (unpacked_of row) before

unfoldable pub row_after : List ℕ → List ℕ → List ℕ
row_after samples before = written_by (pack_refusal samples (length before)) (packed_of samples) before
