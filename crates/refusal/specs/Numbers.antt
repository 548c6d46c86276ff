-- Document 01, "Refusal numbers": each number by the words of its row. What a number means is said here and nowhere else.
use Rattle.std.specs.Prelude.{ℕ}

-- no number of this document, or of one that follows it, is as large
abbrev pub number_bound : ℕ
number_bound = 256

-- "system is neither 525 nor 625"
abbrev pub no_system : ℕ
no_system = 1

-- "line number outside 1 to 525, or 1 to 625"
abbrev pub no_line : ℕ
no_line = 2

-- "a slice has the wrong length"
abbrev pub wrong_length : ℕ
wrong_length = 3

-- "lines read is 10,000,000 or more, or repairs exceed twice lines read"
abbrev pub bad_counts : ℕ
bad_counts = 4

-- "a word over 1023"
abbrev pub over_ten : ℕ
over_ten = 5

-- "one of the first three words of a timing code is wrong"
abbrev pub no_code : ℕ
no_code = 6

-- "bit 9 of a fourth word is 0"
abbrev pub bit_nine : ℕ
bit_nine = 7

-- "seven bits with no legal pattern within one bit", and, by document 02, L5, "an even number of ones"
abbrev pub hopeless_even : ℕ
hopeless_even = 8

-- "the corrected F, V, H are not those due here"
abbrev pub not_due : ℕ
not_due = 9

-- "fill is due and is not there"
abbrev pub no_fill : ℕ
no_fill = 10

-- "a reserved word where a sample is due"
abbrev pub reserved : ℕ
reserved = 11

-- "sample to be written is outside 4 to 1019"
abbrev pub outside : ℕ
outside = 12

-- "serial state: scrambled bits over 511 or last bit over 1"
abbrev pub bad_state : ℕ
bad_state = 13

-- Document 02, L5: "an odd number that have no legal pattern within one bit"
abbrev pub hopeless_odd : ℕ
hopeless_odd = 14

-- L6: "15 bad header parity"
abbrev pub bad_parity : ℕ
bad_parity = 15

-- "16 bad checksum (at the checksum)"
abbrev pub bad_checksum : ℕ
bad_checksum = 16

-- "17 the user words and checksum run past the space (at the count word)"
abbrev pub packet_past : ℕ
packet_past = 17

-- L10: "19 parts that don't fit, ordinals that do not rise or are not below lines, or repairs other than 1 or 2"
abbrev pub bad_parts : ℕ
bad_parts = 19

-- "20 a range that leaves the file or has a after b"
abbrev pub bad_range : ℕ
bad_range = 20

-- no number of the documents: an entry of a packets file is none, does not rise, or is for a line that is not written
abbrev pub bad_entry : ℕ
bad_entry = 22
