-- What one turn over lines makes of the bytes in its buffer and of what a read told; what the verbs come to. What the system answers comes in.
use Rattle.std.specs.Prelude.{ℕ, ◌+◌, ◌-◌, ◌*◌, ◌/◌, ◌%◌, ◌^◌, ◌≤◌, Bool, true, false, cond, not, ◌&&◌, List, [], length, ◌==◌, Result, Ok, Err}
use Rattle.intake.specs.declared.Told.{Told}
use Rattle.intake.specs.declared.Told.TheVariants.{Failed, Ended, Bytes}
use Rattle.intake.specs.declared.Filled.{Filled}
use Rattle.intake.specs.Arrival.{part}
use Rattle.confirmation.specs.declared.Run.{Run}
use Rattle.index.specs.Parts.{Asked}
use Rattle.index.specs.declared.question.Question.{Question}
use Rattle.index.specs.Entries.{entry_length}
use Rattle.index.specs.Asking.{refusal_of}
use Rattle.finished.specs.declared.Finishing.{Finishing}
use Rattle.finished.specs.declared.meeting.Meeting.{Meeting}
use Rattle.finished.specs.Finish.{Turn, made_of, finishing_closed}
use Rattle.finished.specs.Check.{lower, no_difference, met_of, is_theirs}
use Rattle.console.specs.declared.Status.{Status}
use Rattle.console.specs.declared.Status.TheVariants.{Unread, Shortened}
use Rattle.console.specs.Status.{code_of}
use Rattle.retention.specs.declared.sink.Index.{Index}
use Rattle.retention.specs.declared.sink.Sink.{Sink}
use Rattle.retention.specs.declared.sink.Sink.TheVariants.{Finishing as Finishes, Checking}
use Rattle.retention.specs.declared.carrying.Carried.{Carried}
use Rattle.retention.specs.declared.pieces.Parts.{Parts}
use Rattle.retention.specs.Pieces.{filled_status, written_status}

-- ---- where judged lines go

-- what the system answered: whether all was written, how reading an index went, and the bytes that were read of it
pub record Answers : Type 0 where
  pub written : Bool
  pub filled : Filled
  pub theirs : List ℕ

-- the entries of as many lines as the buffer holds
abbrev pub entries_room : ℕ
entries_room = 48 * entry_length

-- how many bytes of the index are read beside entries of at most so many
abbrev pub due_beside : Index → ℕ → ℕ
due_beside i most = lower (lower entries_room most) i.left

-- the index behind entries that met so many bytes of it
abbrev pub behind_of : Index → ℕ → Meeting → Index
behind_of i due meeting =
    record { file = i.file; offset = (i.offset + due) % 2 ^ 64; left = i.left - due; meeting = meeting }

-- entries meet the bytes of the index that were read in their place; where these could not be read they meet nothing
abbrev pub met_as : Index → List ℕ → ℕ → Result (Unit {0}) Status → List ℕ → Result Index Status
met_as i entries due (Ok read) theirs = Ok (behind_of i due (met_of i.meeting entries theirs))
met_as i entries due (Err status) theirs = Err status

unfoldable pub met_by : Index → List ℕ → ℕ → Answers → Result Index Status
met_by i entries due answers = met_as i entries due (filled_status answers.filled due) answers.theirs

-- those of some lines, where they have any
unfoldable pub met_some : Index → List ℕ → Answers → Result Index Status
met_some i entries answers =
    cond (length entries == 0) (Ok i) (met_by i entries (due_beside i (length entries)) answers)

-- lines are checked, so that the input has to have all of them
abbrev pub checks : Sink → Bool
checks (Finishes file beside) = false
checks (Checking index) = true

-- the index differs from that of the lines so far
abbrev pub differs : Sink → Bool
differs (Finishes file beside) = false
differs (Checking index) = index.meeting.differs

-- a sink whose index met entries
abbrev pub taken_as : Result Index Status → Result Sink Status
taken_as (Ok index) = Ok (Checking index)
taken_as (Err status) = Err status

-- a sink whose lines were written
abbrev pub put_as : Sink → Result (Unit {0}) Status → Result Sink Status
put_as s (Ok written) = Ok s
put_as s (Err status) = Err status

-- lines and their entries: those of a file that is checked meet its index, those of one that is finished are written
abbrev pub taken_by : Sink → List ℕ → Answers → Result Sink Status
taken_by (Finishes file beside) entries answers = put_as (Finishes file beside) (written_status answers.written)
taken_by (Checking index) entries answers = taken_as (met_some index entries answers)

-- how an index met
abbrev pub meeting_as : Result Index Status → Result Meeting Status
meeting_as (Ok index) = Ok index.meeting
meeting_as (Err status) = Err status

-- behind the last line: what is left of the index
abbrev pub end_by : Sink → Answers → Result Meeting Status
end_by (Finishes file beside) answers = Ok no_difference
end_by (Checking index) answers = meeting_as (met_by index [] (due_beside index entry_length) answers)

-- ---- a turn

-- the bytes at..have that lines still have to take lie in the buffer
abbrev pub Ready : Carried → List ℕ → Type 0
Ready c buffer = (c.at ≤ c.have) × (c.have ≤ length buffer)

-- lines behind a turn: whether they go on, or what the system failed in
pub record Turned : Type 0 where
  pub carried : Carried
  pub goes_on : Result Bool Status

-- the same lines, where a turn comes to this
abbrev pub stands_of : Carried → Finishing → Result Bool Status → Turned
stands_of c finishing goes_on =
    record {
      carried = record { finishing = finishing; sink = c.sink; at = c.at; have = c.have; left = c.left };
      goes_on = goes_on;
    }

-- The end of the input closes the run over exactly the bytes that are left; but where lines are checked and some are still due, the file
-- became shorter.
unfoldable pub closed_turn : Carried → List ℕ → Turned
closed_turn c buffer =
    cond (checks c.sink && not (c.left == 0)) (stands_of c c.finishing (Err Shortened))
    (stands_of c (finishing_closed c.finishing (part c.at c.have buffer)) (Ok false))

-- the sink behind what it was to take
abbrev pub sink_after : Sink → Result Sink Status → Sink
sink_after s (Ok next) = next
sink_after s (Err status) = s

-- lines go on where none was refused and the index does not differ
abbrev pub going_on : Finishing → Result Sink Status → Result Bool Status
going_on finishing (Ok sink) = Ok (finishing.run.number == 0 && not (differs sink))
going_on finishing (Err status) = Err status

-- lines behind so many bytes more that a sink took so, with the bytes at..have of the buffer not taken yet
abbrev pub moved_of : Carried → Finishing → Result Sink Status → ℕ → ℕ → ℕ → Turned
moved_of c finishing taken count at have =
    record {
      carried = record { finishing = finishing; sink = sink_after c.sink taken; at = at; have = have; left = c.left - count };
      goes_on = going_on finishing taken;
    }

-- where lines stand of which a call made this: a buffer that was taken to its end is filled from its start again
abbrev pub reached_by : Carried → Turn → ℕ → ℕ → Result Sink Status → Turned
reached_by c made count size taken =
    moved_of c made.finishing taken count (cond (c.at + made.taken == size) 0 (c.at + made.taken))
    (cond (c.at + made.taken == size) 0 (c.have + count))

-- what a call makes of the bytes that lie ready, with so many more and so much room
abbrev pub made_by : Carried → ℕ → List ℕ → ℕ → Turn
made_by c count buffer room = made_of (room / entry_length) c.finishing (part c.at (c.have + count) buffer)

-- bytes that came are judged with those before them, and the entries of exactly these lines are handed on
unfoldable pub reached_of : Carried → ℕ → List ℕ → ℕ → Answers → Turned
reached_of c count buffer room answers =
    reached_by c (made_by c count buffer room) count (length buffer) (taken_by c.sink (made_by c count buffer room).index answers)

-- A turn: a failed read is no end of the input.
abbrev pub turn_of : Carried → Told → List ℕ → ℕ → Answers → Turned
turn_of c Failed buffer room answers = stands_of c c.finishing (Err Unread)
turn_of c Ended buffer room answers = closed_turn c buffer
turn_of c (Bytes count) buffer room answers = reached_of c count buffer room answers

-- ---- exit statuses

-- of what the system failed in: its own, and never 0, so that no failure is told as a success
abbrev pub failure_of : Status → ℕ
failure_of status = cond (code_of status == 0) 2 (code_of status)

-- of what came to one, or of what the system failed in
abbrev pub exit_of : Result ℕ Status → ℕ
exit_of (Ok exit) = exit
exit_of (Err status) = failure_of status

-- of what was finished, or was not
abbrev pub status_of : Result Finishing ℕ → ℕ
status_of (Ok finishing) = 0
status_of (Err exit) = exit

-- 0, or what the system failed in
abbrev pub ends_of : Result (Unit {0}) Status → ℕ
ends_of (Ok ended) = 0
ends_of (Err status) = failure_of status

-- of `finish`, given how its index and trailer were written: a failed read and a refused line come before that
abbrev pub finished_status : Result Carried Status → Result (Unit {0}) Status → ℕ
finished_status (Ok c) ends = cond (not (c.finishing.run.number == 0)) 1 (ends_of ends)
finished_status (Err status) ends = failure_of status

-- of `ask`: 0 for all clean, 1 for not, 2 for no answer
unfoldable pub asked_status : Asked → Bool → ℕ
asked_status asked written = cond (not (asked.number == 0)) 2 (cond (not written) 2 (cond asked.clean 0 1))

-- of `check`: 0 where all lines are accepted and the index is theirs, 1 where not
unfoldable pub found_status : Run → Meeting → Bool → ℕ
found_status run meeting written = cond (not written) 2 (cond (is_theirs run meeting) 0 1)

-- of a file that is not theirs, whose whole index was read: where that is none, the file is refused
unfoldable pub no_status : Run → Meeting → Question → Bool → ℕ
no_status run meeting question written =
    cond (not ((refusal_of question).number == 0)) 2 (found_status run meeting written)

-- the same where it may not have been read
abbrev pub read_status : Run → Meeting → Result Parts Status → Bool → ℕ
read_status run meeting (Ok parts) written = no_status run meeting parts.question written
read_status run meeting (Err status) written = failure_of status

-- the same behind the last line, where the rest of the index met so, or could not be read
abbrev pub checked_as : Carried → Result Meeting Status → Result Parts Status → Bool → ℕ
checked_as c (Ok meeting) parts written =
    cond (is_theirs c.finishing.run meeting) (found_status c.finishing.run meeting written)
    (read_status c.finishing.run meeting parts written)
checked_as c (Err status) parts written = failure_of status

abbrev pub checked_status : Carried → Result Parts Status → Answers → ℕ
checked_status c parts answers = checked_as c (end_by c.sink answers) parts answers.written
