-- For private passes: no contract of a public call and no promise cites this file.
-- What the quick pass and the scan over a line speak of: that all is well, and where its parts start.
use Rattle.std.specs.Prelude.{ℕ, ◌+◌, ◌<◌, ◌≡◌, List, Bool, true, false, cond, eqb}
use Rattle.refusal.specs.declared.Refusal.{Refusal}
use Rattle.packets.specs.Fault.{word_at, space_to}
use Rattle.system.specs.declared.System.{System}
use Rattle.system.specs.declared.due.Due.{Due}
use Rattle.system.specs.declared.walk.PacketWords.{PacketWords}
use Rattle.system.specs.Figures.{line_length, sav_offset, active_offset}
use Rattle.line.specs.Fault.{fault_at, packets_in, counts_of}
use Rattle.line.specs.Parts.{ActiveWell}

-- the active part is well, and so many of its words are packets
pub record ActivePassed (d : Due) (word : ℕ → ℕ) (packets : ℕ) : Type 0 where
  pub well : ActiveWell d word
  pub counted : packets ≡ (packets_in d word).active

-- a line has no fault, and so many words of its spaces are packets
pub record Passed (d : Due) (words : List ℕ) (packets : PacketWords) : Type 0 where
  pub well : (i : ℕ) → i < line_length d.system → fault_at d words i ≡ 0
  pub counted : packets ≡ counts_of d words

-- "EAV, blanking between, SAV, active part", from 0; the fifth is where the line ends
abbrev pub part_start : System → ℕ → ℕ
part_start s part =
    cond (eqb part 0) 0
    (cond (eqb part 1) 4 (cond (eqb part 2) (sav_offset s) (cond (eqb part 3) (active_offset s) (line_length s))))

-- whether a part is a space
abbrev pub part_is_space : Due → ℕ → Bool
part_is_space d part = cond (eqb part 1) true (cond (eqb part 3) d.v false)

-- the answer to a part as a space
abbrev pub part_space : Due → ℕ → List ℕ → Refusal
part_space d part words =
    let space = space_to (word_at words) (part_start d.system part) (part_start d.system (part + 1)) d.fill.even d.fill.odd in
    record { number = space.number; place = space.place }

-- where a part's words are looked at one by one: a space is judged whole
abbrev pub words_start : Due → ℕ → ℕ
words_start d part = cond (part_is_space d part) (part_start d.system (part + 1)) (part_start d.system part)
