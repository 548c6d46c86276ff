-- The hypotheses can be met: the parts of three lines of 525, with no, one and two repairs, byte by byte. Assumes nothing.
use Prim.Native.Nat.{ℕ}
use mathlib.Core.Path.{◌≡◌, refl}
use mathlib.Core.List.{List, [], ◌∷◌}
use mathlib.Core.Bool.{true, false}
use Rattle.words.specs.Bytes.{number_from, number_bytes}
use Rattle.system.specs.declared.System.TheVariants.{Lines525}
use Rattle.system.specs.Figures.{system_number, is_system, system_of}
use Rattle.system.specs.Walk.{is_line, named_refusal}
use Rattle.refusal.specs.Answer.{none, or_else}
use Rattle.index.specs.Entries.{index_from, entry_bytes, index_bytes, entry_of, entries_of, entry_well, entries_well, none_within}
use Rattle.index.specs.Parts.{trailer_bytes, line_size, index_part, trailer_part, parts_fit, sound, in_range, parts_refusal, answer_of}
use Rattle.index.specs.Refusals.{Sound}
use Rattle.index.proofs.Conditions.{sound_conditions}

abbrev System : ℕ
System = system_number Lines525

abbrev Lines : List ℕ
Lines = 0 ∷ 1 ∷ 2 ∷ []

abbrev Index : List ℕ
Index = 1 ∷ 0 ∷ 0 ∷ 0 ∷ 1 ∷ 0 ∷ 2 ∷ 0 ∷ 0 ∷ 0 ∷ 2 ∷ 0 ∷ []

-- three lines of 3,432 bytes are 10,296, which is 56 and 40 times 256
abbrev End : List ℕ
End = 56 ∷ 40 ∷ 0 ∷ 0 ∷ 0 ∷ 0 ∷ 0 ∷ 0 ∷ 2 ∷ 0 ∷ 0 ∷ 0 ∷ 3 ∷ 0 ∷ 0 ∷ 0 ∷ []

pub index_met : index_part Lines ≡ Index
unfolding index_bytes index_from entry_bytes number_bytes
index_met = refl

pub trailer_met : trailer_part (line_size System) Lines ≡ End
unfolding trailer_bytes index_from number_bytes system_of
trailer_met = refl

pub sound_met : Sound (line_size System) End Index 10324
unfolding sound parts_fit entries_well entry_well entries_of entry_of number_from system_of
sound_met = sound_conditions (line_size System) End Index 10324 refl

pub named_met : named_refusal System 1 ≡ none
unfolding named_refusal is_system is_line system_of or_else
named_met = refl

-- the first line is clean, and the first two are not both
pub clean_met : answer_of System 1 End Index 10324 0 0 ≡ record { number = 0; place = 0; clean = true }
unfolding answer_of parts_refusal named_refusal is_system is_line system_of or_else sound parts_fit in_range entries_well entry_well none_within entries_of entry_of number_from
clean_met = refl

pub unclean_met : answer_of System 1 End Index 10324 0 1 ≡ record { number = 0; place = 0; clean = false }
unfolding answer_of parts_refusal named_refusal is_system is_line system_of or_else sound parts_fit in_range entries_well entry_well none_within entries_of entry_of number_from
unclean_met = refl
