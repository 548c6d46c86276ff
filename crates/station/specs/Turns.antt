-- What one turn of each filter makes of the bytes that it was given. What the system answers to a write comes in as `written`.
use Rattle.std.specs.Prelude.{◌≡◌, ℕ, zero, suc, ◌+◌, ◌%◌, ◌^◌, Bool, true, false, cond, not, ◌&&◌, ◌||◌, List, [], take, ◌==◌, ◌≢◌, Result, Ok, Err, IfOk, IfErr}
use Rattle.refusal.specs.Numbers.{bad_entry}
use Rattle.intake.specs.declared.Filled.{Filled}
use Rattle.system.specs.declared.walk.PacketWords.{PacketWords}
use Rattle.system.specs.Walk.{walk_refusal}
use Rattle.line.specs.Samples.{Packets}
use Rattle.programme.specs.declared.extractor.Extraction.{Extraction}
use Rattle.programme.specs.declared.tape.Tape.{Tape}
use Rattle.programme.specs.Record.{takes_row}
use Rattle.programme.specs.Extraction.{extraction_of}
use Rattle.programme.specs.Tape.{turns_at, taped_of, ends_at, at_line}
use Rattle.console.specs.declared.Read.{Read}
use Rattle.console.specs.declared.Status.{Status}
use Rattle.console.specs.declared.Status.TheVariants.{Done, Refused, Unread, Unwritten, Failed}
use Rattle.console.specs.Status.{code_of, unread_of}
use Rattle.station.specs.declared.coder.End.{End}
use Rattle.station.specs.declared.coder.End.TheVariants.{Input, Over, Half, Unread as NotRead, Unwritten as NotWritten}
use Rattle.station.specs.declared.entries.Entries.{Entries}
use Rattle.station.specs.declared.extractor.Extracting.{Extracting}
use Rattle.station.specs.declared.sidecar.Kept.{Kept}
use Rattle.station.specs.declared.sidecar.Kept.TheVariants.{Counted, Written, Listed}
use Rattle.station.specs.declared.sidecar.Sidecar.{Sidecar}
use Rattle.station.specs.declared.taping.Output.{Output}
use Rattle.station.specs.declared.taping.Taping.{Taping}
use Rattle.station.specs.declared.turning.Ended.{Ended}
use Rattle.station.specs.Entries.{is_lost}

-- how a turn ends that came to a refusal of this number, with or without something to write
abbrev pub status_of : ℕ → Bool → Bool → Status
status_of number writes written =
    cond (not (number == 0)) Refused (cond (writes && not written) Unwritten Done)

-- and whether the filter goes on behind it
abbrev pub goes_on : ℕ → Bool → Bool → Bool
goes_on number writes written = number == 0 && not (writes && not written)

-- a filter that ended so
abbrev pub ended_of : {T S : Type 0} → T → S → Ended T S
ended_of at how = record { at = at; how = how }

-- ---- coding

-- how a stream of words ends: a failed read is not the end of its input
abbrev pub coded_status : End → Status
coded_status Input = Done
coded_status Over = Refused
coded_status Half = Refused
coded_status NotRead = Unread
coded_status NotWritten = Unwritten

-- ---- extracting

-- a line has packets
abbrev pub has_packets : PacketWords → Bool
has_packets p = not (p.between == 0 && p.active == 0)

-- what is kept beside the rows, behind a line with so many packet words
unfoldable pub behind_line : Sidecar → PacketWords → Sidecar
behind_line s p =
    record {
      kept = s.kept;
      ordinal = (s.ordinal + 1) % 2 ^ 64;
      lines = cond (has_packets p) ((s.lines + 1) % 2 ^ 64) s.lines;
    }

-- packets are listed for people
abbrev pub are_listed : Kept → Bool
are_listed Counted = false
are_listed (Written file) = false
are_listed Listed = true

-- a line's row is written where it gives one, and not where packets are listed
abbrev pub writes_row : Extraction → Sidecar → Bool
writes_row e s = e.gives && not (are_listed s.kept)

-- how extracting ends where packets were not put: of a file, which is said with its name, or of the output
abbrev pub unpacked : Sidecar → Status
unpacked s = cond (are_listed s.kept) Unwritten Failed

-- a row is written where it is to be
abbrev pub row_turn : Extracting → Bool → Bool → Result Extracting (Ended Extracting Status)
row_turn at writes written = cond (writes && not written) (Err (ended_of at Unwritten)) (Ok at)

-- A turn of extracting with a line's bytes: the library's step; then its packets are put, `packed` where the system took all; then its row is
-- written.
abbrev pub extracted_turn : Extraction → Sidecar → Bool → Bool → Result Extracting (Ended Extracting Status)
extracted_turn e s packed written =
    cond (not (e.run.number == 0)) (Err (ended_of (record { run = e.run; sidecar = s }) Refused))
    (cond (not packed) (Err (ended_of (record { run = e.run; sidecar = behind_line s e.packets }) (unpacked s)))
    (row_turn (record { run = e.run; sidecar = behind_line s e.packets }) (writes_row e s) written))

-- A turn of extracting: a failed read is no end of the input, and the end leaves the run as it is; otherwise the bytes that were filled are
-- the next line.
unfoldable pub extract_turn : Extracting → Filled → List ℕ → ℕ → Bool → Bool → Result Extracting (Ended Extracting Status)
extract_turn at filled line room packed written =
    cond filled.failed (Err (ended_of at Unread))
    (cond (filled.have == 0) (Err (ended_of at Done))
    (extracted_turn (extraction_of at.run (take filled.have line) room) at.sidecar packed written))

-- what extracting comes to: unread where reading did not come to an end
abbrev pub extracted_read : Result Extracting (Ended Extracting Status) → Read
extracted_read (Ok at) = unread_of at.run
extracted_read (Err e) = record { run = e.at.run; status = e.how }

-- ---- recording

-- a turn of recording with a line: the library's step, and then the line is written
abbrev pub taped_turn : Tape → Output → Entries → Bool → Result Taping (Ended Taping Status)
taped_turn t output e written =
    cond (goes_on t.number true written) (Ok (record { tape = t; output = output; entries = e }))
    (Err (ended_of (record { tape = t; output = output; entries = e }) (status_of t.number true written)))

-- A taping that goes on with this tape and these packets, or ended otherwise than well.
pub record Goes (t : Tape) (entries : Entries) (r : Result Taping (Ended Taping Status)) : Type 0 where
  pub on : IfOk r (λ at. (at.tape ≡ t) × (at.entries ≡ entries))
  pub ended : IfErr r (λ e. code_of e.how ≢ 0)

-- One that goes on behind a line: the library's step with some packets.
pub record OnLine (at : Taping) (row : List ℕ) (room : ℕ) (r : Result Taping (Ended Taping Status)) : Type 0 where
  pub on : IfOk r (λ next. (k : Packets) × (next.tape ≡ taped_of at.tape row k room))
  pub ended : IfErr r (λ e. code_of e.how ≢ 0)

-- Lines up to the one that takes the row, at most n in all, each by the library's step with some packets: from a tape to the one behind them.
pub data Onto (room : ℕ) (row : List ℕ) : ℕ → Tape → Tape → Type 0 where
  no_line_left : {t : Tape} → Onto room row zero t t
  row_taken : {n : ℕ} {t u : Tape} (k : Packets) → takes_row (at_line t).fall (at_line t).walk ≡ true → u ≡ taped_of (at_line t) row k room → Onto room row (suc n) t u
  row_passed : {n : ℕ} {t u v : Tape} (k : Packets) → takes_row (at_line t).fall (at_line t).walk ≡ false → u ≡ taped_of (at_line t) row k room → Onto room row n u v
      → Onto room row (suc n) t v

-- Lines to the end of a frame, at most n, each by the library's step with some packets: from a tape to the one that is not inside a frame.
pub data FrameEnd (room : ℕ) : ℕ → Tape → Tape → Type 0 where
  no_line_more : {t : Tape} → FrameEnd room zero t t
  frame_over : {n : ℕ} {t : Tape} → ends_at t ≡ false → FrameEnd room n t t
  frame_goes_on : {n : ℕ} {t u v : Tape} (k : Packets) → ends_at t ≡ true → u ≡ taped_of t [] k room → FrameEnd room n u v → FrameEnd room (suc n) t v

-- a tape whose next entry is refused
abbrev pub refused_entry : Taping → Taping
refused_entry at =
    record {
      tape = record { walk = at.tape.walk; most = at.tape.most; fall = at.tape.fall; number = bad_entry; place = 0 };
      output = at.output;
      entries = at.entries;
    }

-- A tape that its packets file ends: where a read failed it is unread, and otherwise what comes next there is refused.
abbrev pub halted_of : Taping → Ended Taping Status
halted_of at = cond (is_lost at.entries.next) (ended_of at Unread) (ended_of (refused_entry at) Refused)

-- the awaited line may be written though no row is left
abbrev pub may_follow : Tape → Bool
may_follow t = t.number == 0 && (not (takes_row t.fall t.walk) && (turns_at t || (walk_refusal t.walk).number == 0))
