-- Document 02, L10: finishing. What each line adds to the index, what one call makes of the bytes that lie ready, and the whole file.
use Rattle.std.specs.Prelude.{ℕ, zero, suc, ◌+◌, ◌*◌, ◌%◌, ◌^◌, cond, not, List, [], ◌∷◌, ◌++◌, length, take, drop, ◌==◌, nat_lt}
use Rattle.intake.specs.Arrival.{Taking, all_pieces}
use Rattle.timing.specs.Report.{repairs_of}
use Rattle.system.specs.declared.walk.Walk.{Walk}
use Rattle.system.specs.Walk.{walk_refusal, line_bytes}
use Rattle.bytewise.specs.Bytes.{judged_bytes}
use Rattle.confirmation.specs.declared.Run.{Run}
use Rattle.confirmation.specs.Run.{header_length, begun_of, judged_next}
use Rattle.confirmation.specs.Follow.{waits, closed_of}
use Rattle.index.specs.declared.trailer.Trailer.{Trailer}
use Rattle.index.specs.Entries.{entry_bytes}
use Rattle.index.specs.Parts.{trailer_bytes}
use Rattle.finished.specs.declared.Finishing.{Finishing}

-- how many codes of a line were repaired: of a refused line none
abbrev pub line_repairs : Walk → List ℕ → ℕ
line_repairs w line = repairs_of (judged_bytes w line).report

-- what a line adds to the index: an entry where it was not clean
unfoldable pub line_adds : Walk → List ℕ → List ℕ
line_adds w line =
    cond (line_repairs w line == 0) [] (entry_bytes (record { ordinal = w.lines; repairs = line_repairs w line }))

-- and to the count of entries, which is of 32 bits
unfoldable pub counted_in : ℕ → Walk → List ℕ → ℕ
counted_in entries w line = cond (line_repairs w line == 0) entries ((entries + 1) % 2 ^ 32)

-- finishing after these bytes were judged as the next line
unfoldable pub finished_next : Finishing → List ℕ → Finishing
finished_next f line = record { run = judged_next f.run line; entries = counted_in f.entries f.run.walk line }

-- before the first line
abbrev pub fresh_finishing : Run → Finishing
fresh_finishing run = record { run = run; entries = 0 }

-- what a call made of bytes: the state after it, how many bytes were taken, and the bytes of index
pub record Turn : Type 0 where
  pub finishing : Finishing
  pub taken : ℕ
  pub index : List ℕ

abbrev pub stopped : Finishing → ℕ → Turn
stopped f taken = record { finishing = f; taken = taken; index = [] }

abbrev pub behind : List ℕ → Turn → Turn
behind entry m = record { finishing = m.finishing; taken = m.taken; index = entry ++ m.index }

-- At most k lines of the bytes that lie ready, from an offset on, up to the first refusal: as confirming follows them.
unfoldable pub finish_from : ℕ → Finishing → List ℕ → ℕ → Turn
finish_from zero f bytes taken = stopped f taken
finish_from (suc k) f bytes taken =
    cond (waits f.run bytes) (stopped f taken)
    (cond (not ((walk_refusal f.run.walk).number == 0))
    (stopped (record { run = judged_next f.run bytes; entries = f.entries }) taken)
    (cond (nat_lt (length bytes) (line_bytes f.run.walk)) (stopped f taken)
    (behind (line_adds f.run.walk (take (line_bytes f.run.walk) bytes))
    (finish_from k (finished_next f (take (line_bytes f.run.walk) bytes)) (drop (line_bytes f.run.walk) bytes)
    (taken + line_bytes f.run.walk)))))

-- one call, with room for so many entries
abbrev pub made_of : ℕ → Finishing → List ℕ → Turn
made_of k f bytes = finish_from k f bytes 0

-- the room afterwards: the entries, and behind them what was there
unfoldable pub room_after : List ℕ → List ℕ → List ℕ
room_after index before = index ++ drop (length index) before

-- at the end of the input
unfoldable pub finishing_closed : Finishing → List ℕ → Finishing
finishing_closed f bytes = record { run = closed_of f.run bytes; entries = f.entries }

-- "index offset (8), entries (4), lines (4)", of what was finished
unfoldable pub trailer_of_lines : Finishing → Trailer
trailer_of_lines f =
    record { offset = f.run.walk.lines * line_bytes f.run.walk; entries = f.entries; lines = f.run.walk.lines }

-- ---- The whole.
-- what was made of lines so far: the state, and the bytes of index
pub record Making : Type 0 where
  pub finishing : Finishing
  pub index : List ℕ

abbrev pub fresh_making : Run → Making
fresh_making run = record { finishing = fresh_finishing run; index = [] }

-- with a line more
abbrev pub with_line : Making → List ℕ → Making
with_line m line =
    record { finishing = finished_next m.finishing line; index = m.index ++ line_adds m.finishing.run.walk line }

-- line after line, up to the first refusal
unfoldable pub make_through : Making → List (List ℕ) → Making
make_through m [] = m
make_through m (line ∷ rest) = cond (m.finishing.run.number == 0) (make_through (with_line m line) rest) m

-- of bytes cut into lines, of which the last may be short
unfoldable pub make_body : Making → List ℕ → Making
make_body m bytes = make_through m (all_pieces (line_bytes m.finishing.run.walk) bytes)

-- the same of input that arrives in pieces, with room for an entry of every line
abbrev pub making : Taking Making ℕ
making =
    record {
      after =
          λ m bytes.
          record {
            finishing = (made_of (length bytes) m.finishing bytes).finishing;
            index = m.index ++ (made_of (length bytes) m.finishing bytes).index;
          };
      taken = λ m bytes. (made_of (length bytes) m.finishing bytes).taken;
      closed = λ m bytes. record { finishing = finishing_closed m.finishing bytes; index = m.index };
    }

-- the file: "lines are header-free", behind them their index, and the trailer
unfoldable pub file_of : Making → List ℕ → List ℕ
file_of m lines = lines ++ (m.index ++ trailer_bytes (trailer_of_lines m.finishing))

-- what finishing makes of a recording
unfoldable pub finished_of : List ℕ → List ℕ
finished_of recording =
    file_of (make_body (fresh_making (begun_of recording)) (drop header_length recording)) (drop header_length recording)
