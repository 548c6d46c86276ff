-- Document 01, "Refusal numbers", and document 02, L6: what is wrong with the words of a line, and how many of them are packets.
use Rattle.std.specs.Prelude.{ℕ, List, Bool, cond, ◌&&◌, ◌||◌, length, ltb, leb, eqb}
use Rattle.refusal.specs.declared.Refusal.{Refusal}
use Rattle.refusal.specs.Numbers.{over_ten, no_code, no_fill, reserved}
use Rattle.refusal.specs.Answer.{first_from}
use Rattle.words.specs.Words.{most_word, least_sample, most_sample}
use Rattle.packets.specs.declared.due.What as packet
use Rattle.packets.specs.Due as spaceDue
use Rattle.packets.specs.Fault as spaceFault
use Rattle.packets.specs.Fault.{Space, word_at, space_to}
use Rattle.timing.specs.Code.{correction_of}
use Rattle.timing.specs.Report.{number_where}
use Rattle.system.specs.declared.due.Due.{Due}
use Rattle.system.specs.declared.walk.PacketWords.{PacketWords}
use Rattle.system.specs.Figures.{line_length, sav_offset, active_offset}
use Rattle.line.specs.declared.What.{What}
use Rattle.line.specs.declared.What.TheVariants.{Ones, Zeros, Fourth, Fill, Sample}
use Rattle.line.specs.Offsets.{due_at}

-- "1020 to 1023 count as the first, 0 to 3 as the second and third" word of a timing code
abbrev pub least_ones : ℕ
least_ones = 1020

abbrev pub most_zeros : ℕ
most_zeros = 3

-- the number of what is wrong with a word of ten bits, by what is due, or 0
abbrev pub wrong_where : What → ℕ → ℕ
wrong_where Ones w = cond (ltb w least_ones) no_code 0
wrong_where Zeros w = cond (ltb most_zeros w) no_code 0
wrong_where (Fourth fvh) w = number_where fvh (correction_of w)
wrong_where (Fill word) w = cond (eqb w word) 0 no_fill
wrong_where Sample w = cond (ltb w least_sample || ltb most_sample w) reserved 0

-- "at one offset 5 comes before 6 to 11"
unfoldable pub fault_where : What → ℕ → ℕ
fault_where due w = cond (ltb most_word w) over_ten (wrong_where due w)

-- where the space between EAV and SAV starts
abbrev pub between_offset : ℕ
between_offset = 4

-- whether an offset lies in a space: "the space between EAV and SAV, or .. the active part on V = 1 lines"
abbrev pub in_space : Due → ℕ → Bool
in_space d i = (leb between_offset i && ltb i (sav_offset d.system)) || (leb (active_offset d.system) i && d.v)

-- where that space starts, and where it ends
abbrev pub space_start : Due → ℕ → ℕ
space_start d i = cond (ltb i (sav_offset d.system)) between_offset (active_offset d.system)

abbrev pub space_stop : Due → ℕ → ℕ
space_stop d i = cond (ltb i (sav_offset d.system)) (sav_offset d.system) (line_length d.system)

-- What is due at an offset of a line with these words: in a space what its packets leave due, and elsewhere what the offset alone says.
pub data Wanted : Type 0 where
  within : packet.What → Wanted
  apart : What → Wanted

unfoldable pub wanted_at : Due → (ℕ → ℕ) → ℕ → Wanted
wanted_at d word i =
    cond (in_space d i) (within (spaceDue.due_at word (space_start d i) (space_stop d i) d.fill.even d.fill.odd i)) (apart (due_at d i))

-- what is wrong with a word there
abbrev pub fault_wanted : Wanted → ℕ → ℕ
fault_wanted (within due) w = spaceFault.fault_where due w
fault_wanted (apart due) w = fault_where due w

-- the fault at an offset of a line, whose words are told by their offsets
unfoldable pub fault_of : Due → (ℕ → ℕ) → ℕ → ℕ
unfolding wanted_at
fault_of d word i = fault_wanted (wanted_at d word i) (word i)

abbrev pub fault_at : Due → List ℕ → ℕ → ℕ
fault_at d words i = fault_of d (word_at words) i

-- "then the lowest offset with any fault"
unfoldable pub word_refusal : Due → List ℕ → Refusal
unfolding fault_of
word_refusal d words = first_from (fault_at d words) 0 (length words)

-- the answers to the two spaces of a line
abbrev pub between_space : Due → (ℕ → ℕ) → Space
between_space d word = space_to word between_offset (sav_offset d.system) d.fill.even d.fill.odd

abbrev pub active_space : Due → (ℕ → ℕ) → Space
active_space d word = space_to word (active_offset d.system) (line_length d.system) d.fill.even d.fill.odd

-- "how many words of each space are packets": with V = 0 the active part is no space
unfoldable pub packets_in : Due → (ℕ → ℕ) → PacketWords
packets_in d word = record { between = (between_space d word).packets; active = cond d.v (active_space d word).packets 0 }

abbrev pub counts_of : Due → List ℕ → PacketWords
counts_of d words = packets_in d (word_at words)
