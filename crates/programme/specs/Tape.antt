-- Recording a programme, whole: rows in turn onto lines, in one recording or in several, each cut between frames. The calls of `Tape` are its
-- steps.
use Rattle.std.specs.Prelude.{ℕ, zero, suc, List, [], ◌∷◌, Bool, cond, ◌&&◌, eqb}
use Rattle.intake.specs.Arrival.{all_pieces}
use Rattle.system.specs.declared.System.TheVariants.{Lines625}
use Rattle.system.specs.Figures.{line_count}
use Rattle.system.specs.Walk.{written_refusal, walk_refusal, fresh_walk, fresh_of, line_bytes}
use Rattle.line.specs.Samples.{Packets, nothing_ready}
use Rattle.v210.specs.Row.{row_length}
use Rattle.programme.specs.declared.tape.Tape.{Tape}
use Rattle.programme.specs.Record.{takes_row, ends_frame, ends_piece, recorded_of, line_bytes_of, line_bytes_after}

-- ---- the steps

-- a tape at its start, in recordings of at most so many lines, V of whose first fields falls at this line: a fresh walk; or the refusal of the
-- numbers, and a walk all zero
unfoldable pub begun_tape : ℕ → ℕ → ℕ → ℕ → Tape
begun_tape system start most fall =
    record {
      walk = cond (eqb (written_refusal system start fall).number 0) (fresh_walk system start) (fresh_walk 0 0);
      most = most;
      fall = fall;
      number = (written_refusal system start fall).number;
      place = (written_refusal system start fall).place;
    }

-- whether a next recording begins before the awaited line
unfoldable pub turns_at : Tape → Bool
turns_at t = ends_piece t.walk t.most

-- the tape at the start of that one, which begins with the awaited line and counts its lines from none
unfoldable pub turned_of : Tape → Tape
turned_of t =
    record { walk = (fresh_of t.walk.system t.walk.line).walk; most = t.most; fall = t.fall; number = t.number; place = t.place }

-- the tape after its awaited line, with a buffer of so many bytes: one that was refused stays as it is
unfoldable pub taped_of : Tape → List ℕ → Packets → ℕ → Tape
taped_of t row k room =
    cond (eqb t.number 0)
    (record {
      walk = (recorded_of t.fall t.walk row k room).walk;
      most = t.most;
      fall = t.fall;
      number = (recorded_of t.fall t.walk row k room).number;
      place = (recorded_of t.fall t.walk row k room).place;
    })
    t

-- that line's bytes afterwards
unfoldable pub line_taped : Tape → List ℕ → Packets → List ℕ → List ℕ
line_taped t row k before = cond (eqb t.number 0) (line_bytes_after t.fall t.walk row k before) before

-- "after the last row those up to the end of its frame", as far as there may be lines
unfoldable pub ends_at : Tape → Bool
ends_at t = eqb t.number 0 && (ends_frame t.fall t.walk && eqb (walk_refusal t.walk).number 0)

-- ---- the whole, of rows alone

-- what is written: the lines of the recording at hand, the recordings behind it, each its start line and its lines, and the tape at the end
pub record Wrote : Type 0 where
  pub lines : List (List ℕ)
  pub more : List (ℕ × List (List ℕ))
  pub tape : Tape

abbrev pub nothing_more : Tape → Wrote
nothing_more t = record { lines = []; more = []; tape = t }

abbrev pub line_then : List ℕ → Wrote → Wrote
line_then line rest = record { lines = line ∷ rest.lines; more = rest.more; tape = rest.tape }

-- what follows goes into a next recording, where one begins here
abbrev pub next_from : Bool → ℕ → Wrote → Wrote
next_from turns start rest = cond turns (record { lines = []; more = (start, rest.lines) ∷ rest.more; tape = rest.tape }) rest

-- the tape at its next line
abbrev pub at_line : Tape → Tape
at_line t = cond (turns_at t) (turned_of t) t

-- the tape after a line without packets
abbrev pub bare_taped : Tape → List ℕ → ℕ → Tape
bare_taped t row room = taped_of t row nothing_ready room

-- One row, by way of a buffer of so many bytes: V = 1 lines as fill up to the line that takes it, at most k in all, and then what follows. "A
-- refusal stops": nothing of that line is written.
unfoldable pub onto : ℕ → ℕ → Tape → List ℕ → (Tape → Wrote) → Wrote
onto room zero t row rest = rest t
onto room (suc k) t row rest =
    next_from (turns_at t) t.walk.line
    (cond (eqb (bare_taped (at_line t) row room).number 0)
    (line_then (line_bytes_of (at_line t).fall (at_line t).walk row nothing_ready)
    (cond (takes_row (at_line t).fall (at_line t).walk) (rest (bare_taped (at_line t) row room)) (onto room k (bare_taped (at_line t) row room) row rest)))
    (nothing_more (bare_taped (at_line t) row room)))

-- the end of the last frame, at most k lines
unfoldable pub end_of : ℕ → ℕ → Tape → Wrote
end_of room zero t = nothing_more t
end_of room (suc k) t = cond (ends_at t) (line_then (line_bytes_of t.fall t.walk [] nothing_ready) (end_of room k (bare_taped t [] room))) (nothing_more t)

-- no frame has more lines in turn without a row
abbrev pub most_turns : ℕ
most_turns = line_count Lines625

-- all rows, in turn
unfoldable pub record_rows : ℕ → Tape → List (List ℕ) → Wrote
record_rows room t [] = end_of room most_turns t
record_rows room t (row ∷ rows) =
    cond (eqb t.number 0) (onto room most_turns t row (λ after. record_rows room after rows)) (nothing_more t)

-- a programme as it comes: its bytes are rows, of which the last may be short
unfoldable pub recorded_programme : ℕ → ℕ → ℕ → ℕ → List ℕ → Wrote
recorded_programme system start most fall bytes =
    record_rows (line_bytes (begun_tape system start most fall).walk) (begun_tape system start most fall) (all_pieces row_length bytes)
