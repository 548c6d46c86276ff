-- Document 02, L10: the full check of a finished file: "that all lines are accepted and the index is theirs".
use Rattle.std.specs.Prelude.{◌≡◌, ℕ, ◌*◌, Bool, true, false, cond, not, ◌&&◌, List, [], ◌∷◌, length, take, drop, ◌==◌, nat_lt}
use Rattle.refusal.specs.declared.Refusal.{Refusal}
use Rattle.confirmation.specs.declared.Run.{Run}
use Rattle.confirmation.specs.Run.{fresh_run}
use Rattle.index.specs.declared.entry.Entry.{Entry}
use Rattle.index.specs.Entries.{entry_length, entries_of}
use Rattle.index.specs.Parts.{trailer_in, index_in, lines_part, parts_refusal}
use Rattle.finished.specs.declared.meeting.Meeting.{Meeting}
use Rattle.finished.specs.Finish.{Making, fresh_making, make_body}

-- no difference so far
abbrev pub no_difference : Meeting
no_difference = record { differs = false; ordinal = 0 }

abbrev pub differs_at : ℕ → Meeting
differs_at ordinal = record { differs = true; ordinal = ordinal }

abbrev pub lower : ℕ → ℕ → ℕ
lower a b = cond (nat_lt b a) b a

abbrev pub same_entry : Entry → Entry → Bool
same_entry e f = e.ordinal == f.ordinal && e.repairs == f.repairs

-- where entries of lines and those of an index differ first: the lower ordinal of the first two that are not the same, or that of the first
-- which has none beside it
unfoldable pub differing : List Entry → List Entry → Meeting
differing [] [] = no_difference
differing [] (f ∷ fs) = differs_at f.ordinal
differing (e ∷ es) [] = differs_at e.ordinal
differing (e ∷ es) (f ∷ fs) = cond (same_entry e f) (differing es fs) (differs_at (lower e.ordinal f.ordinal))

-- bytes of index more, those of the lines and those that stand in their place; a difference stays
unfoldable pub met_of : Meeting → List ℕ → List ℕ → Meeting
met_of m ours theirs = cond m.differs m (differing (entries_of ours) (entries_of theirs))

-- some bytes of index are a whole number of entries
pub record Entire (bytes : List ℕ) : Type 0 where
  pub count : ℕ
  pub long : length bytes ≡ entry_length * count

abbrev pub AllEntire : List (List ℕ) → Type 0
AllEntire [] = Unit {0}
AllEntire (piece ∷ rest) = Entire piece × AllEntire rest

-- all that lines add, piece by piece, beside as many bytes of the index; and at the end what is left of it
unfoldable pub met_all : Meeting → List (List ℕ) → List ℕ → Meeting
met_all m [] index = met_of m [] index
met_all m (ours ∷ rest) index = met_all (met_of m ours (take (length ours) index)) rest (drop (length ours) index)

-- all lines were accepted, and the index is theirs
unfoldable pub is_theirs : Run → Meeting → Bool
is_theirs run m = run.number == 0 && not m.differs

-- of a file that is not theirs, what is told: the index, where it differs at an ordinal before that of the refused line
unfoldable pub differs_before : Run → Meeting → Bool
differs_before run m = cond (run.number == 0) m.differs (m.differs && nat_lt m.ordinal run.walk.lines)

-- what reading every line of a file makes
abbrev pub making_in : ℕ → ℕ → List ℕ → Making
making_in system start file = make_body (fresh_making (fresh_run system start)) (lines_part file)

-- where its index differs
abbrev pub meeting_in : ℕ → ℕ → List ℕ → Meeting
meeting_in system start file = differing (entries_of (making_in system start file).index) (entries_of (index_in file))

-- what refuses the file: 1, 2, 19
abbrev pub file_refusal : ℕ → ℕ → List ℕ → Refusal
file_refusal system start file = parts_refusal system start (trailer_in file) (index_in file) (length file)

-- the full check's yes or no, of a file that is not refused
abbrev pub checked_of : ℕ → ℕ → List ℕ → Bool
checked_of system start file = is_theirs (making_in system start file).finishing.run (meeting_in system start file)
