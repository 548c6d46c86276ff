-- Document 02, L10: a finished file's parts, lines, index and trailer. When they fit, and what is answered of lines a to b.
use Rattle.std.specs.Prelude.{ℕ, ◌+◌, ◌*◌, ◌-◌, List, ◌++◌, Bool, false, cond, not, ◌&&◌, ltb, leb, eqb, length, take, drop, Result, Ok, Err}
use Rattle.refusal.specs.declared.Refusal.{Refusal}
use Rattle.refusal.specs.Numbers.{wrong_length, bad_parts, bad_range}
use Rattle.refusal.specs.Answer.{refuse, or_else, written_by}
use Rattle.refusal.specs.declared.Refused.{Refused}
use Rattle.refusal.specs.Reasons.{number_of}
use Rattle.words.specs.Bytes.{number_from, number_bytes}
use Rattle.system.specs.Figures.{line_length, system_of}
use Rattle.system.specs.Walk.{most_lines, named_refusal}
use Rattle.index.specs.declared.entry.Entry.{Entry}
use Rattle.index.specs.declared.trailer.Trailer.{Trailer}
use Rattle.index.specs.Entries.{entry_length, index_of, entry_bytes, index_bytes, entries_of, entries_well, none_within}

-- "a trailer of sixteen bytes ends the file: index offset (8), entries (4), lines (4)"
abbrev pub trailer_length : ℕ
trailer_length = 16

unfoldable pub trailer_bytes : Trailer → List ℕ
trailer_bytes t = number_bytes 8 t.offset ++ (number_bytes 4 t.entries ++ number_bytes 4 t.lines)

abbrev pub offset_in : List ℕ → ℕ
offset_in trailer = number_from trailer 0 8

abbrev pub entries_in : List ℕ → ℕ
entries_in trailer = number_from trailer 8 4

abbrev pub lines_in : List ℕ → ℕ
lines_in trailer = number_from trailer 12 4

-- what a trailer tells; bytes that are not sixteen tell nothing
unfoldable pub trailer_of : List ℕ → Trailer
trailer_of trailer =
    cond (eqb (length trailer) trailer_length)
    (record { offset = offset_in trailer; entries = entries_in trailer; lines = lines_in trailer })
    (record { offset = 0; entries = 0; lines = 0 })

-- the bytes of a line of a system, two for each word
abbrev pub line_size : ℕ → ℕ
line_size system = 2 * line_length (system_of system)

-- ---- The parts of lines with these repairs, each of so many bytes.
abbrev pub index_part : List ℕ → List ℕ
index_part rs = index_bytes (index_of rs)

abbrev pub trailer_part : ℕ → List ℕ → List ℕ
trailer_part size rs =
    trailer_bytes (record { offset = length rs * size; entries = length (index_of rs); lines = length rs })

-- ---- The parts of a file, by its trailer.
abbrev pub trailer_in : List ℕ → List ℕ
trailer_in file = drop (length file - trailer_length) file

abbrev pub index_in : List ℕ → List ℕ
index_in file = take (entry_length * entries_in (trailer_in file)) (drop (offset_in (trailer_in file)) file)

abbrev pub lines_part : List ℕ → List ℕ
lines_part file = take (offset_in (trailer_in file)) file

-- ---- What is refused, and what is answered.
-- "The parts fit when the trailer is sixteen bytes, lines are at most 10,000,000, the index offset is lines times the bytes of a line,
-- the index is six bytes per entry, and offset, index and trailer add up to the file's length." These are whole numbers: nothing wraps.
unfoldable pub parts_fit : ℕ → List ℕ → List ℕ → ℕ → Bool
parts_fit size trailer index file =
    eqb (length trailer) trailer_length && leb (lines_in trailer) most_lines && eqb (offset_in trailer) (lines_in trailer * size)
    && eqb (length index) (entry_length * entries_in trailer)
    && eqb (offset_in trailer + length index + trailer_length) file

-- nothing that 19 refuses
unfoldable pub sound : ℕ → List ℕ → List ℕ → ℕ → Bool
sound size trailer index file = parts_fit size trailer index file && entries_well 0 (lines_in trailer) (entries_of index)

-- a and b are lines of the file, and a is not after b
unfoldable pub in_range : ℕ → ℕ → ℕ → Bool
in_range lines a b = leb a b && ltb b lines

-- "system and start are given by the caller, 1 and 2 first", and then 19
unfoldable pub parts_refusal : ℕ → ℕ → List ℕ → List ℕ → ℕ → Refusal
parts_refusal system start trailer index file =
    or_else (named_refusal system start) (refuse (not (sound (line_size system) trailer index file)) bad_parts 0)

-- "with 20 a range that leaves the file or has a after b, 19 first"
abbrev pub range_refusal : ℕ → ℕ → ℕ → Refusal
range_refusal lines a b = refuse (not (in_range lines a b)) bad_range 0

-- the answer to a question: its number and place, and whether the lines are all clean
pub record Asked : Type 0 where
  pub number : ℕ
  pub place : ℕ
  pub clean : Bool

-- the answer that a result tells: a refusal never says clean
abbrev pub asked_told : Result Bool Refused → Asked
asked_told (Ok clean) = record { number = 0; place = 0; clean = clean }
asked_told (Err refused) = record { number = number_of refused.reason; place = refused.place; clean = false }

-- an answer that this refuses, or nothing: a refusal never says clean
abbrev pub asked_by : Refusal → Bool → Asked
asked_by r clean = record { number = r.number; place = r.place; clean = eqb r.number 0 && clean }

-- the answer from trailer and index
unfoldable pub answer_of : ℕ → ℕ → List ℕ → List ℕ → ℕ → ℕ → ℕ → Asked
answer_of system start trailer index file a b =
    asked_by (or_else (parts_refusal system start trailer index file) (range_refusal (lines_in trailer) a b))
    (none_within a b (entries_of index))

-- ---- Putting an entry, and a trailer: into so many bytes, or 3.
abbrev pub room_refusal : ℕ → ℕ → Refusal
room_refusal due room = refuse (not (eqb room due)) wrong_length 0

unfoldable pub entry_after : Entry → List ℕ → List ℕ
entry_after e before = written_by (room_refusal entry_length (length before)) (entry_bytes e) before

unfoldable pub trailer_after : Trailer → List ℕ → List ℕ
trailer_after t before = written_by (room_refusal trailer_length (length before)) (trailer_bytes t) before
