-- When correction refuses, in the document's order: the table that its answer keeps to.
use Rattle.std.specs.Prelude.{ℕ, ◌/◌, ◌%◌, ◌<◌, ◌≡◌, ◌⊎◌}
use Rattle.std.specs.Int.Count.{ones}
use Rattle.refusal.specs.declared.Refusal.{Refusal}
use Rattle.refusal.specs.Numbers.{over_ten, bit_nine, hopeless_even, hopeless_odd, not_due}
use Rattle.refusal.specs.Table.{Row, when, ◌before◌}
use Rattle.words.specs.Words.{most_word}
use Rattle.timing.specs.declared.Correction.{Correction}
use Rattle.timing.specs.Code.{legal_of, seven_of, distance_of}
use Rattle.timing.specs.Report.{number_of}

-- "seven bits with no legal pattern within one bit"
abbrev pub NoneWithinOne : ℕ → Type 0
NoneWithinOne pattern = (fvh : ℕ) → fvh < 8 → 1 < distance_of pattern (legal_of fvh)

-- "beyond correction", which by document 02, L5, "then reads 8 or 14"
abbrev pub BeyondCorrection : ℕ → Type 0
BeyondCorrection number = (number ≡ hopeless_even) ⊎ (number ≡ hopeless_odd)

-- "Refusal 8 stays for the 56 patterns with an even number of ones that are not legal"
pub record EvenNotLegal (pattern : ℕ) : Type 0 where
  pub even : ones pattern % 2 ≡ 0
  pub other : (fvh : ℕ) → fvh < 8 → pattern ≡ legal_of fvh → ⊥

-- "a new 14 takes the 8 patterns with an odd number that have no legal pattern within one bit"
pub record OddNoneWithinOne (pattern : ℕ) : Type 0 where
  pub odd : ones pattern % 2 ≡ 1
  pub none : NoneWithinOne pattern

-- "Correction refuses with 5, 7, 8 in that order, place 0", 14 where 8 stands
abbrev pub correction_refusals : ℕ → Row
correction_refusals word =
    when (most_word < word) over_ten 0
    before when (word / 512 % 2 ≡ 0) bit_nine 0
    before when (EvenNotLegal (seven_of word)) hopeless_even 0
    before when (OddNoneWithinOne (seven_of word)) hopeless_odd 0

-- "7, 8, 9 in that order", 14 where 8 stands, for a word of ten bits that stands at this place where the fourth word of these F, V, H is due:
-- "the corrected F, V, H are not those due here" when theirs is not the pattern within one bit
abbrev pub fourth_refusals : ℕ → ℕ → ℕ → Row
fourth_refusals fvh word place =
    when (word / 512 % 2 ≡ 0) bit_nine place
    before when (EvenNotLegal (seven_of word)) hopeless_even place
    before when (OddNoneWithinOne (seven_of word)) hopeless_odd place
    before when (1 < distance_of (seven_of word) (legal_of fvh)) not_due place

-- the refusal that a correction stands for
abbrev pub refusal_of : Correction → Refusal
refusal_of c = record { number = number_of c; place = 0 }
