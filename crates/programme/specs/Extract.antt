-- A recording's lines into the rows of its programme: the whole answer of extracting one line, and the row afterwards.
use Rattle.std.specs.Prelude.{ℕ, List, Bool, cond, not, ◌&&◌, length, take, drop, eqb}
use Rattle.refusal.specs.declared.Refusal.{Refusal}
use Rattle.refusal.specs.Numbers.{wrong_length}
use Rattle.refusal.specs.Answer.{refuse, or_else}
use Rattle.words.specs.Bytes.{words_of}
use Rattle.system.specs.declared.walk.Walk.{Walk}
use Rattle.system.specs.declared.walk.Judgement.{Judgement}
use Rattle.system.specs.Figures.{active_offset, system_of}
use Rattle.system.specs.Walk.{due_in}
use Rattle.line.specs.Samples.{active_length}
use Rattle.reader.specs.Take.{then_taken}
use Rattle.bytewise.specs.Bytes.{bytes_refusal, judged_bytes}
use Rattle.v210.specs.Row.{row_length, packed_of}

-- what is wrong with the row's length
abbrev pub room_refusal : ℕ → Refusal
room_refusal room = refuse (not (eqb room row_length)) wrong_length 1

-- the byte judge's refusals, then 3 at 1 for the row: a row is taken as samples are
abbrev pub extract_refusal : Walk → List ℕ → ℕ → Refusal
extract_refusal w bytes room = or_else (bytes_refusal w bytes) (room_refusal room)

-- the whole answer
abbrev pub extracted_of : Walk → List ℕ → ℕ → Judgement
extracted_of w bytes room = then_taken w (judged_bytes w bytes) (extract_refusal w bytes room)

-- "the row of each V = 0 line": whether the line that is lent gives a row
unfoldable pub gives_row : Walk → List ℕ → Bool
gives_row w bytes = not (due_in w (words_of bytes)).v

-- the active part of a line as a row
unfoldable pub row_of_line : Walk → List ℕ → List ℕ
row_of_line w bytes = packed_of (take active_length (drop (active_offset (system_of w.system)) (words_of bytes)))

-- the row afterwards: as it was where the line is refused, and on V = 1 lines
unfoldable pub row_after_line : Walk → List ℕ → List ℕ → List ℕ
row_after_line w bytes before =
    cond (eqb (extract_refusal w bytes (length before)).number 0 && gives_row w bytes) (row_of_line w bytes) before
