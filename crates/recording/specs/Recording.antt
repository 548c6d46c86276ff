-- A recording that was written by the rules, packets and all, damaged within one bit of each code.
use Rattle.std.specs.Prelude.{ℕ, ◌+◌, ◌<◌, ◌≤◌, ◌≡◌, List, [], ◌∷◌, map, Bool, cond, eqb, length, get_or}
use Rattle.timing.specs.Code.{legal_of, seven_of, distance_of, bit_of}
use Rattle.system.specs.Figures.{sav_offset, active_offset, system_of, next_line, v_written}
use Rattle.system.specs.Due.{due_with, due_of}
use Rattle.system.specs.Walk.{MayHave, fallen_by}
use Rattle.line.specs.Samples.{Samples, Packets, Content, line_of}
use Rattle.line.specs.Damage.{Damaged, DamagedUpTo, struck}
use Rattle.writer.specs.Write.{due_refusal, write_refusal, line_after}

-- Lines in turn from a line number on, with one fall line. Each is what the writer's call leaves in a buffer for samples and packets that it
-- accepts, read with at most one of the seven bits of each code inverted and low bits at will, the packets undamaged. Told are what the lines
-- carry, the lines as read, and how many codes of each are altered.
pub data Recording (system fall : ℕ) : ℕ → List Content → List (List ℕ) → List ℕ → Type 0 where
  end : {line : ℕ} → Recording system fall line [] [] []
  next : {line eav sav : ℕ} {altered : List ℕ} {c : Content} {read : List ℕ} {cs : List Content} {reads : List (List ℕ)} (buffer : List ℕ)
      → (write_refusal system line fall c (length buffer)).number ≡ 0
      → Damaged (due_of (system_of system) line fall) (line_after system line fall c buffer) read eav sav
      → eav ≤ 1 → sav ≤ 1 → Recording system fall (next_line (system_of system) line) cs reads altered
      → Recording system fall line (c ∷ cs) (read ∷ reads) ((eav + sav) ∷ altered)

-- no code of any line altered
abbrev pub unaltered : List Content → List ℕ
unaltered cs = map (λ (c : Content). 0) cs

-- a line that is written: its V, and what it carries
pub record Line : Type 0 where
  pub v : Bool
  pub content : Content

-- the lines of a recording
abbrev pub lines_of : ℕ → ℕ → ℕ → List Content → List Line
lines_of system fall line [] = []
lines_of system fall line (c ∷ cs) =
    record { v = v_written (system_of system) line fall; content = c } ∷ lines_of system fall (next_line (system_of system) line) cs

-- the V of lines
abbrev pub vs_of : List Line → List Bool
vs_of ls = map (λ (l : Line). l.v) ls

-- the samples of the V = 0 lines
abbrev pub pictures_of : List Line → List Samples
pictures_of [] = []
pictures_of (l ∷ ls) = cond l.v (pictures_of ls) (l.content.samples ∷ pictures_of ls)

-- the packets of every line
abbrev pub packets_in : List Line → List Packets
packets_in ls = map (λ (l : Line). l.content.packets) ls

-- the line awaited after lines
abbrev pub line_after_all : ℕ → ℕ → List Line → ℕ
line_after_all system line [] = line
line_after_all system line (l ∷ ls) = line_after_all system (next_line (system_of system) line) ls

-- the walk's record after lines: whether V was 0 in the last of them, and where there is none as it was
abbrev pub fallen_after : ℕ → List Line → ℕ
fallen_after fallen [] = fallen
fallen_after fallen (l ∷ ls) = fallen_after (fallen_by l.v) ls

-- Lines in turn from a line number and a record on, each written with a V that is due there: V of a field may fall where it will. Each is the line
-- in which that is due, for samples and packets that are accepted for it, read as above; told are the lines, and the same as of a recording.
pub data Image (system : ℕ) : ℕ → ℕ → List Line → List (List ℕ) → List ℕ → Type 0 where
  no_line : {line fallen : ℕ} → Image system line fallen [] [] []
  line_more : {line fallen eav sav : ℕ} {altered : List ℕ} {l : Line} {read : List ℕ} {ls : List Line} {reads : List (List ℕ)} (room : ℕ)
      → MayHave (system_of system) line fallen l.v
      → (due_refusal (due_with (system_of system) line l.v) l.content room).number ≡ 0
      → Damaged (due_with (system_of system) line l.v) (line_of (due_with (system_of system) line l.v) l.content) read eav sav
      → eav ≤ 1 → sav ≤ 1 → Image system (next_line (system_of system) line) (fallen_by l.v) ls reads altered
      → Image system line fallen (l ∷ ls) (read ∷ reads) ((eav + sav) ∷ altered)

-- what is to be told of a fourth word that is read where these F, V, H were written, as one number: 0, or the bit that differs, 2 to 8
abbrev pub inverted_bit : ℕ → ℕ → ℕ
inverted_bit fvh read =
    cond (eqb (distance_of (seven_of read) (legal_of fvh)) 0) 0 (bit_of (seven_of read) (legal_of fvh))

-- the line that the writer leaves, struck: the bits of a mask inverted among the seven of each code, low bits of timing words as told
abbrev pub struck_line : ℕ → ℕ → ℕ → Content → List ℕ → ℕ → ℕ → (ℕ → ℕ) → List ℕ
struck_line system line fall c buffer eav sav low = struck (due_of (system_of system) line fall) eav sav low (line_after system line fall c buffer)

-- two lines have the same words before an offset
abbrev pub AgreeUpTo : ℕ → List ℕ → List ℕ → Type 0
AgreeUpTo offset one other = (i : ℕ) → i < offset → get_or one i 0 ≡ get_or other i 0

-- A line of which a code has exactly two of the seven bits inverted, and no earlier code of the line more than one, with the offset of
-- that code's fourth word. What follows that code in the line is anything.
pub data TwoInverted (system fall line : ℕ) (c : Content) (read : List ℕ) : ℕ → Type 0 where
  in_eav : {sav : ℕ} (buffer : List ℕ)
      → (write_refusal system line fall c (length buffer)).number ≡ 0
      → DamagedUpTo 4 (due_of (system_of system) line fall) (line_after system line fall c buffer) read 2 sav
      → TwoInverted system fall line c read 3
  in_sav : {eav : ℕ} (buffer : List ℕ)
      → (write_refusal system line fall c (length buffer)).number ≡ 0
      → DamagedUpTo (active_offset (system_of system)) (due_of (system_of system) line fall) (line_after system line fall c buffer) read eav 2
      → eav ≤ 1 → TwoInverted system fall line c read (sav_offset (system_of system) + 3)
