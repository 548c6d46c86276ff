-- What is promised of finished files. Each is proved under the name given here, in proofs/Promise and, of steps, in proofs/Steps.
use Rattle.std.specs.Prelude.{◌≡◌, ℕ, ◌<◌, true, false, List, [], ◌++◌, length, drop, ◌≢◌, slice_index, slice_index_or}
use mathlib.Core.List.{flatten}
use Rattle.refusal.specs.Answer.{none}
use Rattle.timing.specs.declared.Report.{Report}
use Rattle.system.specs.Walk.{fresh_walk, named_refusal}
use Rattle.intake.specs.Arrival.{all_pieces, fed_by}
use Rattle.confirmation.specs.Run.{header_length, header_system, header_start, fresh_run, begun_of, confirmed_of}
use Rattle.index.specs.Parts.{Asked}
use Rattle.index.specs.Entries.{Bytes, entries_of, repairs_from}
use Rattle.index.specs.Parts.{line_size, trailer_in, index_in, lines_in, lines_part, index_part, answer_of}
use Rattle.index.specs.Asking as question
use Rattle.index.specs.Refusals.{Sound, Within}
use Rattle.finished.specs.Reading.{reports_of, AllAccepted, repairs_of_all, AllClean}
use Rattle.finished.specs.Finish.{fresh_making, making, file_of, finished_of}
use Rattle.finished.specs.Check.{no_difference, AllEntire, met_all, is_theirs, meeting_in, file_refusal, checked_of}

-- the lines of a finished file, and what reading every one of them tells
abbrev pub lines_of : ℕ → List ℕ → List (List ℕ)
lines_of system file = all_pieces (line_size system) (lines_part file)

abbrev pub reports_in : ℕ → ℕ → List ℕ → List Report
reports_in system start file = reports_of (fresh_walk system start) (lines_of system file)

-- "given that all lines are accepted and the index is theirs"
pub record Theirs (system start : ℕ) (file : List ℕ) : Type 0 where
  pub accepted : AllAccepted (fresh_walk system start) (lines_of system file)
  pub index : index_in file ≡ index_part (repairs_of_all (reports_in system start file))

-- the answer from a file's trailer and index
abbrev pub answer_in : ℕ → ℕ → List ℕ → ℕ → ℕ → Asked
answer_in system start file a b = answer_of system start (trailer_in file) (index_in file) (length file) a b

-- `answered`: "the answer from trailer and index equals the one from reading every line, given that all lines are accepted and the index is
-- theirs": there are as many reports as lines, and of lines that the file has, clean is answered exactly where all of them are clean.
pub record Answered (system start : ℕ) (file : List ℕ) (a b : ℕ) : Type 0 where
  pub lines : length (reports_in system start file) ≡ lines_in (trailer_in file)
  pub number : (answer_in system start file a b).number ≡ 0
  pub says_clean : (answer_in system start file a b).clean ≡ true → AllClean a b (reports_in system start file)
  pub is_clean : AllClean a b (reports_in system start file) → (answer_in system start file a b).clean ≡ true

abbrev pub AnswersAsReading : Type 0
AnswersAsReading =
    (system start : ℕ) (file : List ℕ) (a b : ℕ) → file_refusal system start file ≡ none → Theirs system start file
    → Within (lines_in (trailer_in file)) a b → Answered system start file a b

-- `check-decides`: "a separate full check decides that premise"
abbrev pub CheckDecides : Type 0
CheckDecides =
    (system start : ℕ) (file : List ℕ) → Bytes file → file_refusal system start file ≡ none
    → (checked_of system start file ≡ true → Theirs system start file) × (Theirs system start file → checked_of system start file ≡ true)

-- `theirs-unrefused`: where the system, the start line and the trailer are not refused, what the full check says yes to is refused nothing, so
-- that the index need not be looked at for 19 first
abbrev pub TheirsUnrefused : Type 0
TheirsUnrefused =
    (system start : ℕ) (file : List ℕ) → named_refusal system start ≡ none
    → (question.begun_of system start (trailer_in file) (length file) 0 0).wrong ≡ false → checked_of system start file ≡ true
    → file_refusal system start file ≡ none

-- `finished-checks`: what finishing writes of a recording that is confirmed is always what the full check accepts
abbrev pub FinishedChecks : Type 0
FinishedChecks =
    (recording : List ℕ) → (confirmed_of recording).number ≡ 0
    → (file_refusal (header_system recording) (header_start recording) (finished_of recording) ≡ none)
    × (checked_of (header_system recording) (header_start recording) (finished_of recording) ≡ true)

-- `theirs-met`: so the premise is met, by every recording that is confirmed
abbrev pub TheirsMet : Type 0
TheirsMet =
    (recording : List ℕ) → (confirmed_of recording).number ≡ 0
    → Theirs (header_system recording) (header_start recording) (finished_of recording)

-- `finish-in-steps`: finishing in steps makes the same file, however the lines behind the header are cut
abbrev pub FinishInSteps : Type 0
FinishInSteps =
    (header : List ℕ) (pieces : List (List ℕ)) → length header ≡ header_length
    → file_of (fed_by making (fresh_making (begun_of header)) [] pieces) (flatten pieces) ≡ finished_of (header ++ flatten pieces)

-- `check-in-steps`: so does the full check in steps say what it says of the whole, however the lines are cut, and in whatever pieces their
-- entries meet the index
abbrev pub CheckInSteps : Type 0
CheckInSteps =
    (system start : ℕ) (file : List ℕ) (pieces ours : List (List ℕ)) → file_refusal system start file ≡ none → flatten pieces ≡ lines_part file
    → AllEntire ours → flatten ours ≡ (fed_by making (fresh_making (fresh_run system start)) [] pieces).index
    → is_theirs (fed_by making (fresh_making (fresh_run system start)) [] pieces).finishing.run (met_all no_difference ours (index_in file))
    ≡ checked_of system start file

-- `lines-back`: and its lines are the recording's
abbrev pub LinesBack : Type 0
LinesBack = (recording : List ℕ) → (confirmed_of recording).number ≡ 0 → lines_part (finished_of recording) ≡ drop header_length recording

-- `unfit-unanswered`: nothing is ever answered from parts that do not fit
abbrev pub UnfitUnanswered : Type 0
UnfitUnanswered =
    (system start : ℕ) (trailer index : List ℕ) (file a b : ℕ)
    → (((answer_of system start trailer index file a b).number ≡ 0) → Sound (line_size system) trailer index file × Within (lines_in trailer) a b)
    × (((answer_of system start trailer index file a b).number ≢ 0) → (answer_of system start trailer index file a b).clean ≡ false)

-- what the index of a file tells of each of its lines
abbrev pub told_in : List ℕ → List ℕ
told_in file = repairs_from (lines_in (trailer_in file)) 0 (entries_of (index_in file))

-- the first of some lines of which two lists tell not the same
pub record FirstDifference (told read : List ℕ) (i : ℕ) : Type 0 where
  pub there : i < length read
  pub same : (j : ℕ) → j < i → slice_index told j ≡ slice_index read j
  pub differs : slice_index_or told i 0 ≡ slice_index read i → ⊥

-- `differs-first`: where all lines are accepted and the index is not theirs, the ordinal is the first of which the index tells other repairs
-- than reading the line does
abbrev pub DiffersFirst : Type 0
DiffersFirst =
    (system start : ℕ) (file : List ℕ) → file_refusal system start file ≡ none
    → AllAccepted (fresh_walk system start) (lines_of system file) → (meeting_in system start file).differs ≡ true
    → FirstDifference (told_in file) (repairs_of_all (reports_in system start file)) (meeting_in system start file).ordinal
