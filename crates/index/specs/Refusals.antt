-- When a question is refused, in the document's order: the table that the answer keeps to.
use Rattle.std.specs.Prelude.{ℕ, suc, ◌+◌, ◌*◌, ◌<◌, ◌≤◌, ◌≡◌, List, ◌⊎◌, length, get_or}
use Rattle.refusal.specs.Numbers.{wrong_length, bad_parts, bad_range}
use Rattle.refusal.specs.Table.{Row, when, ◌before◌}
use Rattle.system.specs.Walk.{most_lines}
use Rattle.system.specs.Refusals.{named_refusals}
use Rattle.index.specs.declared.entry.Entry.{Entry}
use Rattle.index.specs.Entries.{entry_length, Repairs, entries_of}
use Rattle.index.specs.Parts.{trailer_length, offset_in, entries_in, lines_in, line_size, index_part}

-- "The parts fit when .."
pub record Fits (size : ℕ) (t index : List ℕ) (file : ℕ) : Type 0 where
  pub trailer : length t ≡ trailer_length
  pub few : lines_in t ≤ most_lines
  pub offset : offset_in t ≡ lines_in t * size
  pub entries : length index ≡ entry_length * entries_in t
  pub whole : offset_in t + length index + trailer_length ≡ file

abbrev pub ordinal_at : List Entry → ℕ → ℕ
ordinal_at es j = (get_or es j (record { ordinal = 0; repairs = 0 })).ordinal

abbrev pub repairs_at : List Entry → ℕ → ℕ
repairs_at es j = (get_or es j (record { ordinal = 0; repairs = 0 })).repairs

-- ordinals rise and are below the lines, and repairs are 1 or 2
pub record Rises (lines : ℕ) (es : List Entry) : Type 0 where
  pub rising : (j : ℕ) → suc j < length es → ordinal_at es j < ordinal_at es (suc j)
  pub below : (j : ℕ) → j < length es → ordinal_at es j < lines
  pub repairs : (j : ℕ) → j < length es → (repairs_at es j ≡ 1) ⊎ (repairs_at es j ≡ 2)

-- nothing that 19 refuses
pub record Sound (size : ℕ) (trailer index : List ℕ) (file : ℕ) : Type 0 where
  pub fits : Fits size trailer index file
  pub rises : Rises (lines_in trailer) (entries_of index)

-- lines a to b are lines of the file
pub record Within (lines a b : ℕ) : Type 0 where
  pub order : a ≤ b
  pub last : b < lines

-- the index is that of so many lines with these repairs
pub record IndexOf (index : List ℕ) (lines : ℕ) (rs : List ℕ) : Type 0 where
  pub each : Repairs rs
  pub count : length rs ≡ lines
  pub same : index_part rs ≡ index

-- "1 and 2 first", then 19
abbrev pub parts_refusals : ℕ → ℕ → List ℕ → List ℕ → ℕ → Row
parts_refusals system start trailer index file =
    named_refusals system start before when (Sound (line_size system) trailer index file → ⊥) bad_parts 0

-- and then 20
abbrev pub ask_refusals : ℕ → ℕ → List ℕ → List ℕ → ℕ → ℕ → ℕ → Row
ask_refusals system start trailer index file a b =
    parts_refusals system start trailer index file before when (Within (lines_in trailer) a b → ⊥) bad_range 0

-- an entry, and a trailer, into room of another length
abbrev pub room_refusals : ℕ → ℕ → Row
room_refusals due room = when (room ≡ due → ⊥) wrong_length 0
