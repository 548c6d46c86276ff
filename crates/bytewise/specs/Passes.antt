-- For a private pass: no contract of a public call and no promise cites this file.
-- What the functions of the fast pass ask for, and what each says of the words that it passed.
use Rattle.std.specs.Prelude.{◌≡◌, ℕ, ◌+◌, ◌*◌, ◌<◌, ◌≤◌, List, length, ℤ, pos, negsuc}
use Rattle.words.specs.Bytes.{word_of_bytes}
use Rattle.timing.specs.Code.{correction_of}
use Rattle.system.specs.declared.due.Due.{Due}
use Rattle.system.specs.Figures.{line_length, sav_offset}
use Rattle.system.specs.declared.walk.PacketWords.{PacketWords}
use Rattle.line.specs.Fault.{fault_of, packets_in}
use Rattle.line.specs.Parts.{Proper, ActiveWell}
use Rattle.bytewise.specs.declared.pass.Codes.{Codes}

-- the bytes are as many as those of a line, and the fill that is due is of ten bits
pub record LineBytes (due : Due) (bytes : List ℕ) : Type 0 where
  pub fill : Proper due.fill
  pub size : length bytes ≡ 2 * line_length due.system

-- the key of a sample: one of the 1016 lowest signed numbers of 16 bits, those below -31752
unfoldable pub SampleKey : ℤ → Type 0
SampleKey (pos n) = ⊥
SampleKey (negsuc n) = 31752 ≤ n

-- the corrections are those of a line's two fourth words
pub record Corrected (due : Due) (bytes : List ℕ) (codes : Codes) : Type 0 where
  pub eav : codes.eav ≡ correction_of (word_of_bytes bytes 6)
  pub sav : codes.sav ≡ correction_of (word_of_bytes bytes (2 * sav_offset due.system + 6))

-- the word of a line at an offset
abbrev pub line_word : List ℕ → ℕ → ℕ
line_word bytes i = word_of_bytes bytes (2 * i)

-- the active part has no packets and no fault: fill where V is 1, and samples where it is 0
pub record PlainActive (due : Due) (word : ℕ → ℕ) : Type 0 where
  pub well : ActiveWell due word
  pub counted : (packets_in due word).active ≡ 0

-- a line has no fault, and so many words of its spaces are packets
pub record LineWell (due : Due) (bytes : List ℕ) (packets : PacketWords) : Type 0 where
  pub well : (k : ℕ) → k < line_length due.system → fault_of due (line_word bytes) k ≡ 0
  pub counted : packets ≡ packets_in due (line_word bytes)
