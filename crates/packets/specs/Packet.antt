-- Document 02, L6: an ancillary packet, and how a space of a line is written of packets and fill.
use Rattle.std.specs.Prelude.{ℕ, zero, suc, ◌+◌, ◌-◌, ◌*◌, ◌/◌, ◌%◌, ◌<◌, ◌≤◌, ◌≡◌, List, [], ◌∷◌, ◌++◌, cond, eqb, length, get_or}
use Rattle.std.specs.Int.Count.{ones}
use Rattle.words.specs.Words.{most_word, least_sample, most_sample}

-- nine bits as a word: "bit 9 the inverse of bit 8"
abbrev pub inverted : ℕ → ℕ
inverted nine = nine + 512 * (1 - nine / 256)

-- "The three header words have bit 8 as even parity of bits 7 to 0, bit 9 its inverse": the header word of eight bits
unfoldable pub header_of : ℕ → ℕ
header_of byte = inverted (byte + 256 * (ones byte % 2))

-- "Checksum: low nine bits the sum .. modulo 512; bit 9 the inverse of bit 8"
unfoldable pub checksum_of : ℕ → ℕ
checksum_of sum = inverted (sum % 512)

-- a packet: its identifiers, each of eight bits, and its user words
pub record Packet : Type 0 where
  pub did : ℕ
  pub second : ℕ
  pub users : List ℕ

-- "User words are 4 to 1019."
abbrev pub UserWords : List ℕ → Type 0
UserWords users = (j : ℕ) → j < length users → (least_sample ≤ get_or users j 0) × (get_or users j 0 ≤ most_sample)

-- identifiers of eight bits, and "up to 255 user words"
pub record WellFormed (k : Packet) : Type 0 where
  pub did_byte : k.did < 256
  pub second_byte : k.second < 256
  pub count_byte : length k.users ≤ 255
  pub users_inside : UserWords k.users

abbrev pub AllWell : List Packet → Type 0
AllWell [] = Unit
AllWell (k ∷ ks) = WellFormed k × AllWell ks

-- the sum of the low nine bits of words
unfoldable pub sum_of : List ℕ → ℕ
sum_of [] = 0
sum_of (w ∷ ws) = w % 512 + sum_of ws

-- "those from data identifier to last user word"
abbrev pub body_of : Packet → List ℕ
body_of k = header_of k.did ∷ header_of k.second ∷ header_of (length k.users) ∷ k.users

-- "words 0, 1023, 1023, then data identifier, second identifier or block number, count, up to 255 user words, checksum"
unfoldable pub packet_words : Packet → List ℕ
unfolding sum_of
packet_words k = 0 ∷ most_word ∷ most_word ∷ (body_of k ++ checksum_of (sum_of (body_of k)) ∷ [])

-- how many words that are
abbrev pub size_of : Packet → ℕ
size_of k = 7 + length k.users

unfoldable pub sizes_of : List Packet → ℕ
sizes_of [] = 0
sizes_of (k ∷ ks) = size_of k + sizes_of ks

-- "Packets stand one after another": the words of several
unfoldable pub packets_words : List Packet → List ℕ
unfolding packet_words
packets_words [] = []
packets_words (k ∷ ks) = packet_words k ++ packets_words ks

-- fill, by offset in the line
abbrev pub fill_word : ℕ → ℕ → ℕ → ℕ
fill_word even odd i = cond (eqb (i % 2) 0) even odd

unfoldable pub fill_from : ℕ → ℕ → ℕ → ℕ → List ℕ
fill_from even odd i zero = []
fill_from even odd i (suc n) = fill_word even odd i ∷ fill_from even odd (suc i) n

-- "Packets stand one after another from the start of the space ..; fill follows, by offset": the words of a space from start to stop
unfoldable pub space_words : ℕ → ℕ → ℕ → ℕ → List Packet → List ℕ
unfolding packet_words fill_from
space_words even odd start stop [] = fill_from even odd start (stop - start)
space_words even odd start stop (k ∷ ks) = packet_words k ++ space_words even odd (start + size_of k) stop ks

-- the words of this list stand in a line, whose word at an offset is given, from an offset on
abbrev pub Stands : (ℕ → ℕ) → ℕ → List ℕ → Type 0
Stands word from list = (j : ℕ) → j < length list → word (from + j) ≡ get_or list j 0

-- A line whose space from start to stop is the writing of these packets, followed by fill.
pub record Writing (word : ℕ → ℕ) (start stop even odd : ℕ) (ks : List Packet) : Type 0 where
  pub well : AllWell ks
  pub fits : start + sizes_of ks ≤ stop
  pub stands : Stands word start (space_words even odd start stop ks)
