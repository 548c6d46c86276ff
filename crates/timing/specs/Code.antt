-- Document 01, "Numbers and layout" (the fourth word) and "Correction"; document 02, L5.
use Rattle.std.specs.Prelude.{ℕ, zero, suc, ◌+◌, ◌*◌, ◌/◌, ◌%◌, cond, ltb, eqb, Option, Some, None, Result, MatchResult, ◌≡◌}
use Rattle.std.specs.Int.Bits.{bit_xor}
use Rattle.std.specs.Int.Count.{ones, count_trailing_zeros}
use Rattle.refusal.specs.declared.Reason.{Reason}
use Rattle.refusal.specs.Reasons.{number_of}
use Rattle.refusal.specs.Numbers.{over_ten, bit_nine, hopeless_even, hopeless_odd}
use Rattle.words.specs.Words.{most_word}
use Rattle.timing.specs.declared.Correction.{Correction}
use Rattle.timing.specs.declared.Correction.TheVariants.{Clean, Repaired, Refused}

-- F, V and H of a number from 0 to 7, as in "FVH 000 to 111"
abbrev pub f_bit : ℕ → ℕ
f_bit fvh = fvh / 4 % 2

abbrev pub v_bit : ℕ → ℕ
v_bit fvh = fvh / 2 % 2

abbrev pub h_bit : ℕ → ℕ
h_bit fvh = fvh % 2

-- "F, V, H, P3, P2, P1, P0", with "P3 = V xor H, P2 = F xor H, P1 = F xor V, P0 = F xor V xor H"
abbrev pub seven_bits : ℕ → ℕ → ℕ → ℕ
seven_bits f v h =
    f * 64 + v * 32 + h * 16 + bit_xor v h * 8 + bit_xor f h * 4 + bit_xor f v * 2 + bit_xor (bit_xor f v) h

-- the legal pattern of F, V, H
unfoldable pub legal_of : ℕ → ℕ
legal_of fvh = seven_bits (f_bit fvh) (v_bit fvh) (h_bit fvh)

-- "bit 9 is 1, then F, V, H, P3, P2, P1, P0 in bits 8 to 2, then two low bits", which the writer sets to 0
unfoldable pub fourth_of : ℕ → ℕ
unfolding legal_of
fourth_of fvh = 512 + 4 * legal_of fvh

-- bits 8 to 2 of a word
abbrev pub seven_of : ℕ → ℕ
seven_of word = word / 4 % 128

-- "The distance of two patterns is the number of ones in their difference."
unfoldable pub distance_of : ℕ → ℕ → ℕ
unfolding ones
distance_of p q = ones (bit_xor p q)

-- "the bit's number (2 to 8)": the place in the word of the lowest bit in which two patterns differ
unfoldable pub bit_of : ℕ → ℕ → ℕ
unfolding count_trailing_zeros
bit_of p q = count_trailing_zeros 32 (bit_xor p q) + 2

-- what one legal pattern says of a pattern at this distance: clean, repaired, or others decide
abbrev pub by_distance : ℕ → Correction → Correction → Correction → Correction
by_distance distance clean repaired others = cond (eqb distance 0) clean (cond (eqb distance 1) repaired others)

-- what the legal pattern of F, V, H alone says of seven bits: nothing, where it is further away than one bit
unfoldable pub said_by : ℕ → ℕ → Option Correction
unfolding legal_of distance_of bit_of
said_by fvh p =
    cond (eqb (distance_of p (legal_of fvh)) 0) (Some (Clean fvh))
    (cond (eqb (distance_of p (legal_of fvh)) 1) (Some (Repaired fvh (bit_of p (legal_of fvh)))) None)

-- "the two kinds of hopeless code": 8 with "an even number of ones", 14 with "an odd number"
unfoldable pub hopeless_of : ℕ → ℕ
unfolding ones
hopeless_of p = cond (eqb (ones p % 2) 0) hopeless_even hopeless_odd

-- what the legal patterns of FVH below n say of seven bits
unfoldable pub correction_below : ℕ → ℕ → Correction
unfolding legal_of distance_of bit_of hopeless_of
correction_below zero p = Refused (hopeless_of p)
correction_below (suc k) p =
    by_distance (distance_of p (legal_of k)) (Clean k) (Repaired k (bit_of p (legal_of k))) (correction_below k p)

-- what all eight legal patterns say
abbrev pub pattern_correction : ℕ → Correction
pattern_correction p = correction_below 8 p

-- the correction of a word: "5, 7, 8 in that order", 14 where 8 stands, or F, V, H and the repaired bit
unfoldable pub correction_of : ℕ → Correction
unfolding correction_below
correction_of word =
    cond (ltb most_word word) (Refused over_ten) (cond (eqb (word / 512 % 2) 0) (Refused bit_nine) (pattern_correction (seven_of word)))

-- the seven bits of a word that is corrected by them, or why it is not
abbrev pub Bits : ℕ → Result ℕ Reason → Type 0
Bits word r = MatchResult r (λ seven. (word / 512 ≡ 1) × (seven ≡ seven_of word)) (λ reason. correction_of word ≡ Refused (number_of reason))
