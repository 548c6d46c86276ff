-- Demand 3 as statements: what the product exists for. Each is proved under the name that stands behind it.
use Rattle.std.specs.Prelude.{ℕ, ◌+◌, ◌*◌, ◌<◌, ◌≤◌, ◌≡◌, false, List, [], ◌∷◌, ◌++◌, map, length}
use Rattle.std.specs.Int.Count.{ones}
use Rattle.system.specs.declared.System.TheVariants.{Lines525}
use Rattle.system.specs.declared.walk.Walk.{Walk}
use Rattle.system.specs.Figures.{system_number, line_length, sav_offset, active_offset, system_of, next_line}
use Rattle.system.specs.Due.{due_with}
use Rattle.system.specs.Walk.{most_lines, fresh_of, MayHave, fallen_by}
use Rattle.system.specs.Tally.{sum, field_repairs, passed_from}
use Rattle.line.specs.Samples.{Samples, Content, line_of}
use Rattle.line.specs.Damage.{struck}
use Rattle.line.specs.Fit.{Measured}
use Rattle.writer.specs.Write.{due_refusal, write_refusal, line_after}
use Rattle.words.specs.Bytes.{words_of}
use Rattle.confirmation.specs.declared.Run.{Run}
use Rattle.confirmation.specs.Run.{header_system, header_start, confirmed_of}
use Rattle.recording.specs.Recording.{Recording, Line, lines_of, vs_of, pictures_of, packets_in, line_after_all, fallen_after, Image, TwoInverted, AgreeUpTo, struck_line}
use Rattle.recording.specs.Play.{Played, play}
use Rattle.recording.specs.Confirmed.{Holds}

-- the walk after lines, with so many altered codes in each: repairs are all of them, and the tally is what its sentence says of them
abbrev pub walk_behind : ℕ → ℕ → List Line → List ℕ → Walk
walk_behind system start ls altered =
    record {
      system = system;
      line = line_after_all system start ls;
      lines = length ls;
      repairs = sum altered;
      fallen = fallen_after 0 ls;
      tally = field_repairs (system_of system) (passed_from (system_of system) start altered);
    }

-- what playing lines gives that are accepted to their end
abbrev pub played_through : ℕ → ℕ → List Line → List ℕ → Played
played_through system start ls altered =
    record { vs = vs_of ls; pictures = pictures_of ls; packets = packets_in ls; number = 0; place = 0; walk = walk_behind system start ls altered }

-- A (`reads-back`). Reading a recording of at most 10,000,000 lines, of whatever fall line, each code altered in at most one of its seven bits,
-- from a fresh walk and with buffers of the right lengths: accepted to its end, every written sample of every line written with V = 0 returned
-- and the packets of every line, repairs the altered codes.
abbrev pub ReadsBack : Type 0
ReadsBack =
    (system fall start : ℕ) (altered : List ℕ) (cs : List Content) (reads : List (List ℕ)) (buffers : Samples)
    → (fresh_of system start).number ≡ 0 → Measured buffers
    → Recording system fall start cs reads altered → length cs ≤ most_lines
    → play (fresh_of system start).walk buffers reads ≡ played_through system start (lines_of system fall start cs) altered

-- B (`never-coincide`). Where two such recordings, of whatever fall lines, are read as the same lines, the same lines had V = 0, and the same
-- samples and packets were written.
abbrev pub NeverCoincide : Type 0
NeverCoincide =
    (system fall other start : ℕ) (k l : List ℕ) (cs es : List Content) (reads : List (List ℕ)) → (fresh_of system start).number ≡ 0
    → Recording system fall start cs reads k → Recording system other start es reads l → length cs ≤ most_lines → length es ≤ most_lines
    → (vs_of (lines_of system fall start cs) ≡ vs_of (lines_of system other start es))
    × (pictures_of (lines_of system fall start cs) ≡ pictures_of (lines_of system other start es))
    × (packets_in (lines_of system fall start cs) ≡ packets_in (lines_of system other start es))

-- C (`two-inverted-stops`). Where a code then has exactly two of the seven inverted, and no earlier code more than one: the lines before are
-- returned, that code is refused with 8 in its place, and the walk stands, whatever follows.
abbrev pub TwoInvertedStops : Type 0
TwoInvertedStops =
    (system fall start place : ℕ) (altered : List ℕ) (cs : List Content) (reads : List (List ℕ)) (c : Content) (read : List ℕ)
    (rest : List (List ℕ)) (buffers : Samples) → (fresh_of system start).number ≡ 0 → Measured buffers
    → Recording system fall start cs reads altered → length cs < most_lines
    → TwoInverted system fall (line_after_all system start (lines_of system fall start cs)) c read place
    → ◌≡◌ {A = Played} (play (fresh_of system start).walk buffers (reads ++ (read ∷ rest)))
    (record {
      vs = vs_of (lines_of system fall start cs);
      pictures = pictures_of (lines_of system fall start cs);
      packets = packets_in (lines_of system fall start cs);
      number = 8;
      place = place;
      walk = walk_behind system start (lines_of system fall start cs) altered;
    })

-- What C asks for can be met (`two-inverted-met`): every line that can be written, struck in two bits of its EAV, or in two bits of its SAV
-- and at most one of its EAV, any low bits, and anything behind that code.
abbrev pub TwoInvertedMet : Type 0
TwoInvertedMet =
    (system fall line : ℕ) (c : Content) (buffer : List ℕ) (eav sav : ℕ) (low : ℕ → ℕ) (read : List ℕ)
    → (write_refusal system line fall c (length buffer)).number ≡ 0 → eav < 128 → sav < 128 → ((i : ℕ) → low i < 4)
    → length read ≡ length (line_after system line fall c buffer)
    → (ones eav ≡ 2 → AgreeUpTo 4 read (struck_line system line fall c buffer eav sav low) → TwoInverted system fall line c read 3)
    × (ones eav ≤ 1 → ones sav ≡ 2 → AgreeUpTo (active_offset (system_of system)) read (struck_line system line fall c buffer eav sav low)
    → TwoInverted system fall line c read (sav_offset (system_of system) + 3))

-- What A asks for can be met (`recording-met`): a recording goes on with every line that can be written, struck in at most one bit of each
-- code, any low bits, before it.
abbrev pub RecordingMet : Type 0
RecordingMet =
    (system fall line : ℕ) (altered : List ℕ) (c : Content) (cs : List Content) (reads : List (List ℕ)) (buffer : List ℕ) (eav sav : ℕ) (low : ℕ → ℕ)
    → (write_refusal system line fall c (length buffer)).number ≡ 0 → eav < 128 → sav < 128 → ((i : ℕ) → low i < 4) → ones eav ≤ 1 → ones sav ≤ 1
    → Recording system fall (next_line (system_of system) line) cs reads altered
    → Recording system fall line (c ∷ cs) (struck_line system line fall c buffer eav sav low ∷ reads) ((ones eav + ones sav) ∷ altered)

-- A of lines each written with a V that is due (`image-reads-back`): V of a field may fall where it will.
abbrev pub ImageReadsBack : Type 0
ImageReadsBack =
    (system start : ℕ) (altered : List ℕ) (ls : List Line) (reads : List (List ℕ)) (buffers : Samples)
    → (fresh_of system start).number ≡ 0 → Measured buffers → Image system start 0 ls reads altered → length ls ≤ most_lines
    → play (fresh_of system start).walk buffers reads ≡ played_through system start ls altered

-- What that asks for can be met (`image-met`): an image goes on with every line of a V that may stand there, struck in at most one bit of each
-- code, any low bits, before it.
abbrev pub ImageMet : Type 0
ImageMet =
    (system line fallen : ℕ) (altered : List ℕ) (l : Line) (ls : List Line) (reads : List (List ℕ)) (room eav sav : ℕ) (low : ℕ → ℕ)
    → MayHave (system_of system) line fallen l.v → (due_refusal (due_with (system_of system) line l.v) l.content room).number ≡ 0
    → eav < 128 → sav < 128 → ((i : ℕ) → low i < 4) → ones eav ≤ 1 → ones sav ≤ 1
    → Image system (next_line (system_of system) line) (fallen_by l.v) ls reads altered
    → Image system line fallen (l ∷ ls)
    (struck (due_with (system_of system) line l.v) eav sav low (line_of (due_with (system_of system) line l.v) l.content) ∷ reads)
    ((ones eav + ones sav) ∷ altered)

-- "Once 0 it stays 0 until line 264 or line 1" (`stays-down`): of two lines of an image, one behind the other in 525, the second has V = 0 where
-- the first has, unless it is line 264 or line 1.
abbrev pub StaysDown : Type 0
StaysDown =
    (line fallen : ℕ) (altered : List ℕ) (l m : Line) (ls : List Line) (reads : List (List ℕ))
    → Image (system_number Lines525) line fallen (l ∷ m ∷ ls) reads altered
    → (next_line Lines525 line ≡ 264 → ⊥) → (next_line Lines525 line ≡ 1 → ⊥) → l.v ≡ false → m.v ≡ false

-- D (`nothing-else`). Lines that are read through are such an image, of the lines returned: each of them written with a V that was due at its
-- walk, of at most 10,000,000 lines, and repairs are its altered codes.
abbrev pub NothingElse : Type 0
NothingElse =
    (system start : ℕ) (reads : List (List ℕ)) (buffers : Samples) → (fresh_of system start).number ≡ 0 → Measured buffers
    → (play (fresh_of system start).walk buffers reads).number ≡ 0
    → (ls : List Line) × (altered : List ℕ) × Image system start 0 ls reads altered × (length ls ≤ most_lines)
    × (play (fresh_of system start).walk buffers reads ≡ played_through system start ls altered)

-- A of the confirming program (`confirms`).
abbrev pub Confirms : Type 0
Confirms =
    (bytes : List ℕ) (system fall start : ℕ) (altered : List ℕ) (cs : List Content) (lines : List (List ℕ)) → (fresh_of system start).number ≡ 0
    → Holds bytes system start lines [] → Recording system fall start cs (map words_of lines) altered → length cs ≤ most_lines
    → ◌≡◌ {A = Run} (confirmed_of bytes)
    (record { system = system; start = start; walk = walk_behind system start (lines_of system fall start cs) altered; number = 0; place = 0 })

-- The same of such an image (`confirms-image`).
abbrev pub ConfirmsImage : Type 0
ConfirmsImage =
    (bytes : List ℕ) (system start : ℕ) (altered : List ℕ) (ls : List Line) (lines : List (List ℕ)) → (fresh_of system start).number ≡ 0
    → Holds bytes system start lines [] → Image system start 0 ls (map words_of lines) altered → length ls ≤ most_lines
    → ◌≡◌ {A = Run} (confirmed_of bytes)
    (record { system = system; start = start; walk = walk_behind system start ls altered; number = 0; place = 0 })

-- C of the confirming program (`refuses-two-inverted`).
abbrev pub RefusesTwoInverted : Type 0
RefusesTwoInverted =
    (bytes rest bad : List ℕ) (system fall start place : ℕ) (altered : List ℕ) (cs : List Content) (c : Content) (lines : List (List ℕ))
    → (fresh_of system start).number ≡ 0 → Holds bytes system start (lines ++ (bad ∷ [])) rest
    → Recording system fall start cs (map words_of lines) altered → length cs < most_lines
    → TwoInverted system fall (line_after_all system start (lines_of system fall start cs)) c (words_of bad) place
    → ◌≡◌ {A = Run} (confirmed_of bytes)
    (record { system = system; start = start; walk = walk_behind system start (lines_of system fall start cs) altered; number = 8; place = place })

-- D of the confirming program (`confirms-nothing-else`): whatever bytes it confirms hold such an image, header, lines and no more, and its
-- walk is the one behind them.
abbrev pub ConfirmsNothingElse : Type 0
ConfirmsNothingElse =
    (bytes : List ℕ) → (confirmed_of bytes).number ≡ 0
    → ((fresh_of (header_system bytes) (header_start bytes)).number ≡ 0)
    × (lines : List (List ℕ)) × Holds bytes (header_system bytes) (header_start bytes) lines []
    × (ls : List Line) × (altered : List ℕ) × Image (header_system bytes) (header_start bytes) 0 ls (map words_of lines) altered
    × (length ls ≤ most_lines) × ((confirmed_of bytes).walk ≡ walk_behind (header_system bytes) (header_start bytes) ls altered)

-- "Trailing bytes short of a line, or of a word, are refusal 3, place 0", with what was read before (`trailing-bytes-refused`).
abbrev pub TrailingBytes : Type 0
TrailingBytes =
    (bytes rest : List ℕ) (system fall start : ℕ) (altered : List ℕ) (cs : List Content) (lines : List (List ℕ)) → (fresh_of system start).number ≡ 0
    → Holds bytes system start lines rest → Recording system fall start cs (map words_of lines) altered → length cs < most_lines
    → 0 < length rest → length rest < 2 * line_length (system_of system)
    → ◌≡◌ {A = Run} (confirmed_of bytes)
    (record { system = system; start = start; walk = walk_behind system start (lines_of system fall start cs) altered; number = 3; place = 0 })

-- "but any byte after 10,000,000 lines is refusal 4" (`byte-past-limit-refused`).
abbrev pub BytePastLimit : Type 0
BytePastLimit =
    (bytes rest : List ℕ) (system fall start : ℕ) (altered : List ℕ) (cs : List Content) (lines : List (List ℕ)) → (fresh_of system start).number ≡ 0
    → Holds bytes system start lines rest → Recording system fall start cs (map words_of lines) altered → length cs ≡ most_lines
    → 0 < length rest
    → ◌≡◌ {A = Run} (confirmed_of bytes)
    (record { system = system; start = start; walk = walk_behind system start (lines_of system fall start cs) altered; number = 4; place = 0 })
