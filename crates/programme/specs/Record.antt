-- A programme's rows and packets into the lines of a recording: the whole answer of recording one line, and the bytes afterwards.
use Rattle.std.specs.Prelude.{ℕ, ◌+◌, ◌*◌, ◌≡◌, List, Bool, true, cond, not, ◌&&◌, length, ltb, eqb}
use Rattle.refusal.specs.declared.Refusal.{Refusal}
use Rattle.refusal.specs.Numbers.{wrong_length}
use Rattle.refusal.specs.Answer.{none, refuse, written_by, or_else}
use Rattle.words.specs.Bytes.{bytes_of}
use Rattle.timing.specs.Report.{clean_report}
use Rattle.system.specs.declared.System.{System}
use Rattle.system.specs.declared.due.Due.{Due}
use Rattle.system.specs.declared.walk.Walk.{Walk}
use Rattle.system.specs.declared.walk.PacketWords.{PacketWords}
use Rattle.system.specs.declared.walk.Judgement.{Judgement}
use Rattle.system.specs.Figures.{line_count, system_of, is_fall}
use Rattle.system.specs.Due.{due_of}
use Rattle.system.specs.Walk.{most_lines, written_refusal, walk_refusal, line_bytes, standing_refusal}
use Rattle.system.specs.Judgement.{judgement_of}
use Rattle.line.specs.Samples.{Samples, Packets, Content, part_samples, line_of}
use Rattle.line.specs.Fit.{Carried}
use Rattle.writer.specs.Write.{packets_refusal, sample_refusal}
use Rattle.v210.specs.Row.{row_length, unpacked_of, spare_refusal}

-- what is due in the line that a walk awaits, where it is written and V of the first field falls at this line
abbrev pub due_at_walk : ℕ → Walk → Due
due_at_walk fall w = due_of (system_of w.system) w.line fall

-- "v210 rows of the V = 0 lines": whether the awaited line takes a row
unfoldable pub takes_row : ℕ → Walk → Bool
takes_row fall w = not (due_at_walk fall w).v

-- "after the last row those up to the end of its frame": whether the awaited line, of V = 1, still belongs to a frame that has begun
unfoldable pub ends_frame : ℕ → Walk → Bool
ends_frame fall w = ltb 0 w.lines && ltb 1 w.line && not (takes_row fall w)

-- the lines of so many frames
abbrev pub frames_lines : System → ℕ → ℕ
frames_lines s frames = line_count s * frames

-- the most lines of a recording that is to have so many frames at most: "never over the limit"
unfoldable pub piece_lines : ℕ → ℕ → ℕ
piece_lines number frames =
    cond (ltb (frames_lines (system_of number) frames) most_lines) (frames_lines (system_of number) frames) most_lines

-- "cut between frames, never over the limit": whether a recording of at most so many lines ends before the awaited line, since that begins
-- a frame for which it has no room
unfoldable pub ends_piece : Walk → ℕ → Bool
ends_piece w most =
    eqb w.line 1 && (ltb 0 w.lines && ltb most (w.lines + line_count (system_of w.system)))

-- a row's samples as the writer takes them
abbrev pub row_samples : List ℕ → Samples
row_samples row = part_samples (unpacked_of row)

-- what refuses a row before its samples are looked at: "a short last row is 3", and set spare bits 5
unfoldable pub unpacked_refusal : List ℕ → Refusal
unpacked_refusal row = or_else (refuse (not (eqb (length row) row_length)) wrong_length 1) (spare_refusal row)

-- what refuses what a line is to carry: the row itself, where one is due; the writer's refusals of ready packet words; and "a sample outside 4
-- to 1019 is 12 with its place"
unfoldable pub row_refusal : ℕ → Walk → List ℕ → Packets → Refusal
row_refusal fall w row k =
    or_else (cond (takes_row fall w) (unpacked_refusal row) none)
    (or_else (packets_refusal (due_at_walk fall w) k) (sample_refusal (due_at_walk fall w) (row_samples row)))

-- what refuses before that: the numbers of the line and of the fall line, 1 and 2; the walk's refusals, among them "a row past 10,000,000 lines
-- is 4"; 3 at 0 for the line's bytes
unfoldable pub record_standing : ℕ → Walk → ℕ → Refusal
record_standing fall w room = or_else (written_refusal w.system w.line fall) (standing_refusal w room (line_bytes w))

-- all that refuses a line: that first, then what refuses what it is to carry
unfoldable pub record_refusal : ℕ → Walk → List ℕ → Packets → ℕ → Refusal
record_refusal fall w row k room = or_else (record_standing fall w room) (row_refusal fall w row k)

-- how many words ready packets are
abbrev pub ready_counts : Packets → PacketWords
ready_counts k = record { between = length k.between; active = length k.active }

-- the whole answer: a line that is written is clean, and has its packets
unfoldable pub recorded_of : ℕ → Walk → List ℕ → Packets → ℕ → Judgement
recorded_of fall w row k room = judgement_of (record_refusal fall w row k room) w (due_at_walk fall w) clean_report (ready_counts k)

-- what the line carries of a row and ready packets
abbrev pub row_content : List ℕ → Packets → Content
row_content row k = record { samples = row_samples row; packets = k }

-- the line as bytes; "V = 1 lines are written as fill", whatever the row, behind their packets
unfoldable pub line_bytes_of : ℕ → Walk → List ℕ → Packets → List ℕ
line_bytes_of fall w row k = bytes_of (line_of (due_at_walk fall w) (row_content row k))

-- the line's bytes afterwards: "nothing of that line is written" where it is refused
unfoldable pub line_bytes_after : ℕ → Walk → List ℕ → Packets → List ℕ → List ℕ
line_bytes_after fall w row k before = written_by (record_refusal fall w row k (length before)) (line_bytes_of fall w row k) before

-- what a line that is recorded was given
pub record Recordable (fall : ℕ) (w : Walk) (row : List ℕ) (k : Packets) (room : ℕ) : Type 0 where
  pub walk : (walk_refusal w).number ≡ 0
  pub falls : is_fall (system_of w.system) fall ≡ true
  pub whole : room ≡ line_bytes w
  pub long : takes_row fall w ≡ true → length row ≡ row_length
  pub spare : takes_row fall w ≡ true → (spare_refusal row).number ≡ 0
  pub packets : Carried (due_at_walk fall w) k
  pub samples : takes_row fall w ≡ true → (sample_refusal (due_at_walk fall w) (row_samples row)).number ≡ 0
