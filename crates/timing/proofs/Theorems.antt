-- The promises on timing codes, each of the definitions that the calls' contracts cite. Assumes nothing.
use Prim.Native.Nat.{ℕ, ◌+◌, ◌-◌, ◌*◌, ◌/◌, ◌%◌, ◌^◌, ◌<◌, ◌≤◌}
use mathlib.Core.Path.{◌≡◌, refl, sym, ap, subst, ◌∙◌}
use mathlib.Core.Bool.{Bool, true, false, cond, not}
use mathlib.Core.Logic.{◌⊎◌, inl, inr, ⊎_elim}
use native.Mathlib.Omega.{arith}
use lib.Dec.{T, T_not, not_T, ltb, leb, eqb, eqb→eq, ltb→lt, leb→le, le→leb, lt→ltb}
use lib.Bits.{bit_xor}
use lib.Count.{ones_in, ones, count_trailing_zeros}
use borrow.Author.Tests.{lt-ltb, le-ltb, ltb-true, ltb-false, eqb-true, eq-eqb, ne_eqb}
use Rattle.refusal.specs.Table.{Decides, Keeps}
use Rattle.refusal.proofs.Cases.{by_cond, by_test}
use Rattle.refusal.proofs.Tables.{Numbers, keeps_number, numbers_when, numbers_before, decides_when, decides_before}
use Rattle.timing.specs.declared.Correction.{Correction}
use Rattle.timing.specs.declared.Correction.TheVariants.{Clean, Repaired, Refused}
use Rattle.timing.specs.Code.{legal_of, fourth_of, seven_of, distance_of, bit_of, hopeless_of, correction_below, pattern_correction, correction_of}
use Rattle.timing.specs.Report.{number_of, number_where, values_of}
use Rattle.timing.specs.Refusals.{NoneWithinOne, BeyondCorrection, EvenNotLegal, OddNoneWithinOne, fourth_refusals, correction_refusals, refusal_of}
use Rattle.timing.proofs.Every.{both, both_left, both_right, implies, meet, every, count_below, joined, lift, lift2, lift3, gather}
use Rattle.timing.proofs.Same.{same, same_to_eq}
use Rattle.timing.proofs.Laws.{by_pattern, Bounded, bounded}

-- ---- What was written is found again.

-- A legal word with its low bits at will is clean.
pub legal_is_clean : (fvh low : ℕ) → fvh < 8 → low < 4 → correction_of (fourth_of fvh + low) ≡ Clean fvh
unfolding fourth_of correction_of
legal_is_clean fvh low hk hl = same_to_eq _ _ (lift2 8 4 (λ fvh low. same (correction_of (fourth_of fvh + low)) (Clean fvh)) tt fvh low hk hl)

one_flip : ℕ → ℕ → ℕ → Bool
one_flip fvh bit low = implies (leb 2 bit) (same (correction_of (bit_xor (fourth_of fvh) (2 ^ bit) + low)) (Repaired fvh bit))

-- With one of the bits 2 to 8 inverted, and low bits at will, it corrects to that code and that bit is reported.
pub one_flip_corrected : (fvh bit low : ℕ) → fvh < 8 → 2 ≤ bit → bit < 9 → low < 4
    → correction_of (bit_xor (fourth_of fvh) (2 ^ bit) + low) ≡ Repaired fvh bit
unfolding fourth_of correction_of one_flip
one_flip_corrected fvh bit low hk two nine hl =
    same_to_eq _ _ (meet (leb 2 bit) _ (lift3 8 9 4 one_flip tt fvh bit low hk nine hl) (le→leb 2 bit two))

two_flips : ℕ → ℕ → ℕ → ℕ → Bool
two_flips fvh a b low =
    implies (leb 2 a) (implies (ltb a b) (same (correction_of (bit_xor (bit_xor (fourth_of fvh) (2 ^ a)) (2 ^ b) + low)) (Refused 8)))

-- With exactly two of them inverted it is refused with 8.
pub two_flips_refused : (fvh a b low : ℕ) → fvh < 8 → 2 ≤ a → a < b → b < 9 → low < 4
    → correction_of (bit_xor (bit_xor (fourth_of fvh) (2 ^ a)) (2 ^ b) + low) ≡ (Refused 8)
unfolding fourth_of correction_of two_flips
two_flips_refused fvh a b low hk two less nine hl =
    same_to_eq _ _
    (meet (ltb a b) _
    (meet (leb 2 a) _ (lift 4 (two_flips fvh a b) (lift3 8 9 9 (λ fvh a b. every 4 (two_flips fvh a b)) tt fvh a b hk (omega arith) nine) low hl)
    (le→leb 2 a two)) (lt→ltb a b less))

-- The same in the document's values: a number, F, V, H, and the repaired bit or 0.
pub legal_values : (fvh low : ℕ) → fvh < 8 → low < 4 → values_of (correction_of (fourth_of fvh + low)) ≡ record { number = 0; fvh = fvh; bit = 0 }
legal_values fvh low hk hl = ap values_of (legal_is_clean fvh low hk hl)

pub one_flip_values : (fvh bit low : ℕ) → fvh < 8 → 2 ≤ bit → bit < 9 → low < 4
    → values_of (correction_of (bit_xor (fourth_of fvh) (2 ^ bit) + low)) ≡ record { number = 0; fvh = fvh; bit = bit }
one_flip_values fvh bit low hk two nine hl = ap values_of (one_flip_corrected fvh bit low hk two nine hl)

pub two_flips_values : (fvh a b low : ℕ) → fvh < 8 → 2 ≤ a → a < b → b < 9 → low < 4
    → values_of (correction_of (bit_xor (bit_xor (fourth_of fvh) (2 ^ a)) (2 ^ b) + low)) ≡ record { number = 8; fvh = 0; bit = 0 }
two_flips_values fvh a b low hk two less nine hl = ap values_of (two_flips_refused fvh a b low hk two less nine hl)

-- A bit that is told as repaired is one of the bits 2 to 8, whatever the word.
pub repaired_bit : (w fvh bit : ℕ) → correction_of w ≡ Repaired fvh bit → (2 ≤ bit) × (bit ≤ 8)
repaired_bit w fvh bit e = let b = subst Bounded e (bounded w) in (b.2, omega (arith, b.1))

-- The low bits 1 and 0 of a word never matter.
pub low_bits_ignored : (w low : ℕ) → low < 4 → correction_of (w / 4 * 4 + low) ≡ correction_of w
unfolding correction_of
low_bits_ignored w low h =
    let high : (w / 4 * 4 + low) / 512 ≡ w / 512 = omega arith in
    let seven : (w / 4 * 4 + low) / 4 ≡ w / 4 = omega arith in
    rw (high, seven, over)
  where
    over : ltb 1023 (w / 4 * 4 + low) ≡ ltb 1023 w
    over =
        by_test (ltb 1023 w)
        (λ e. let l = ltb-true 1023 w e in lt-ltb 1023 (w / 4 * 4 + low) (omega arith) ∙ sym e)
        (λ e. let l = ltb-false 1023 w e in le-ltb 1023 (w / 4 * 4 + low) (omega arith) ∙ sym e)

-- ---- Refused as beyond correction exactly when no legal pattern lies within one inverted bit.

either : Bool → Bool → Bool
either true b = true
either false b = b

split : (a b : Bool) → T (either a b) → T a ⊎ T b
unfolding either
split true b t = inl tt
split false b t = inr t

-- the tests: no legal pattern is near; an even number of ones, and not legal; an odd number of ones, and none near
far : ℕ → Bool
far p = every 8 (λ k. ltb 1 (distance_of p (legal_of k)))

even_far : ℕ → Bool
even_far p = both (eqb (ones p % 2) 0) (every 8 (λ k. not (eqb p (legal_of k))))

odd_far : ℕ → Bool
odd_far p = both (eqb (ones p % 2) 1) (far p)

T_true : (t : Bool) → T t → t ≡ true
T_true true h = refl
T_true false h = absurd h

true_T : (t : Bool) → t ≡ true → T t
true_T t e = subst T (sym e) tt

far_only : (p : ℕ) → far p ≡ true → NoneWithinOne p
unfolding far
far_only p e k h = ltb→lt 1 (distance_of p (legal_of k)) (lift 8 (λ k. ltb 1 (distance_of p (legal_of k))) (true_T (far p) e) k h)

far_back : (p : ℕ) → NoneWithinOne p → far p ≡ true
unfolding far
far_back p none = T_true (far p) (gather 8 (λ k. ltb 1 (distance_of p (legal_of k))) (λ k h. lt→ltb 1 (distance_of p (legal_of k)) (none k h)))

even_only : (p : ℕ) → even_far p ≡ true → EvenNotLegal p
unfolding even_far
even_only p e =
    let t = true_T (even_far p) e in
    let others = both_right (eqb (ones p % 2) 0) (every 8 (λ k. not (eqb p (legal_of k)))) t in
    record {
      even = eqb→eq _ 0 (both_left (eqb (ones p % 2) 0) _ t);
      other = λ k h q. T_not (eqb p (legal_of k)) (lift 8 (λ k. not (eqb p (legal_of k))) others k h) (true_T _ (eq-eqb _ _ q));
    }

even_back : (p : ℕ) → EvenNotLegal p → even_far p ≡ true
unfolding even_far
even_back p kind =
    T_true (even_far p)
    (joined (eqb (ones p % 2) 0) (every 8 (λ k. not (eqb p (legal_of k)))) (true_T _ (eq-eqb _ 0 kind.even))
    (gather 8 (λ k. not (eqb p (legal_of k))) (λ k h. not_T (eqb p (legal_of k)) (λ t. kind.other k h (eqb→eq _ _ t)))))

odd_only : (p : ℕ) → odd_far p ≡ true → OddNoneWithinOne p
unfolding odd_far
odd_only p e =
    let t = true_T (odd_far p) e in
    record {
      odd = eqb→eq _ 1 (both_left (eqb (ones p % 2) 1) (far p) t);
      none = far_only p (T_true (far p) (both_right (eqb (ones p % 2) 1) (far p) t));
    }

odd_back : (p : ℕ) → OddNoneWithinOne p → odd_far p ≡ true
unfolding odd_far
odd_back p kind = T_true (odd_far p) (joined (eqb (ones p % 2) 1) (far p) (true_T _ (eq-eqb _ 1 kind.odd)) (true_T (far p) (far_back p kind.none)))

-- the number of seven bits is 0 where a legal pattern is near, and otherwise by the number of ones; and so it is by the two kinds
pattern_number : (p : ℕ) → p < 128 → number_of (pattern_correction p) ≡ cond (far p) (hopeless_of p) 0
unfolding correction_below far
pattern_number p h = eqb→eq _ _ (lift 128 (λ p. eqb (number_of (pattern_correction p)) (cond (far p) (hopeless_of p) 0)) tt p h)

abbrev of_kind : Bool → Bool → ℕ → ℕ
of_kind even odd others = cond even 8 (cond odd 14 others)

by_kind : ℕ → ℕ → ℕ
by_kind p others = of_kind (even_far p) (odd_far p) others

pattern_kind : (p : ℕ) → p < 128 → number_of (pattern_correction p) ≡ by_kind p 0
unfolding correction_below far even_far odd_far by_kind
pattern_kind p h = eqb→eq _ _ (lift 128 (λ p. eqb (number_of (pattern_correction p)) (by_kind p 0)) tt p h)

-- of a ten-bit fourth word with bit 9 set
module _ (w : ℕ) (high : w / 512 ≡ 1) where
  number_here : number_of (correction_of w) ≡ cond (far (seven_of w)) (hopeless_of (seven_of w)) 0
  number_here = ap number_of (by_pattern w high) ∙ pattern_number (seven_of w) (omega arith)

  kind_here : number_of (correction_of w) ≡ by_kind (seven_of w) 0
  kind_here = ap number_of (by_pattern w high) ∙ pattern_kind (seven_of w) (omega arith)

  none_here : NoneWithinOne (seven_of w) → number_of (correction_of w) ≡ hopeless_of (seven_of w)
  none_here none = number_here ∙ ap (λ (t : Bool). cond t (hopeless_of (seven_of w)) 0) (far_back (seven_of w) none)

  -- Demand 2: beyond correction, 8 or 14, exactly when no legal pattern lies within one inverted bit.
  pub beyond_correction : NoneWithinOne (seven_of w) → BeyondCorrection (number_of (correction_of w))
  unfolding hopeless_of
  beyond_correction none =
      subst BeyondCorrection (sym (none_here none))
      (by_cond BeyondCorrection (eqb (ones (seven_of w) % 2) 0) 8 14 (λ e. inl refl) (λ e. inr refl))

  pub only_beyond_correction : (number_of (correction_of w) ≡ 0 → ⊥) → NoneWithinOne (seven_of w)
  only_beyond_correction refused =
      by_test (far (seven_of w)) (far_only (seven_of w))
      (λ e. absurd (refused (number_here ∙ ap (λ (t : Bool). cond t (hopeless_of (seven_of w)) 0) e)))

  -- 14 exactly when the number of ones is odd besides; 8 exactly when it is even and the pattern is not legal.
  pub odd_is_14 : OddNoneWithinOne (seven_of w) → number_of (correction_of w) ≡ 14
  unfolding hopeless_of
  odd_is_14 kind =
      let odd = kind.odd in
      none_here kind.none ∙ ap (λ (t : Bool). cond t 8 14) (ne_eqb (ones (seven_of w) % 2) 0 (λ e. omega arith))

  pub only_odd_is_14 : number_of (correction_of w) ≡ 14 → OddNoneWithinOne (seven_of w)
  unfolding by_kind
  only_odd_is_14 e = odd_only (seven_of w) (picked (even_far (seven_of w)) (odd_far (seven_of w)) (sym kind_here ∙ e))
    where
      picked : (even odd : Bool) → of_kind even odd 0 ≡ 14 → odd ≡ true
      picked true odd q = absurd (omega arith)
      picked false true q = refl
      picked false false q = absurd (omega arith)

  pub even_is_8 : EvenNotLegal (seven_of w) → number_of (correction_of w) ≡ 8
  unfolding by_kind
  even_is_8 kind = kind_here ∙ ap (λ (even : Bool). of_kind even (odd_far (seven_of w)) 0) (even_back (seven_of w) kind)

  pub only_even_is_8 : number_of (correction_of w) ≡ 8 → EvenNotLegal (seven_of w)
  unfolding by_kind
  only_even_is_8 e = even_only (seven_of w) (picked (even_far (seven_of w)) (odd_far (seven_of w)) (sym kind_here ∙ e))
    where
      picked : (even odd : Bool) → of_kind even odd 0 ≡ 8 → even ≡ true
      picked true odd q = refl
      picked false true q = absurd (omega arith)
      picked false false q = absurd (omega arith)

-- There are words of both kinds: 632, and 904, which is 628 with all seven bits inverted.
pub both_kinds_met : EvenNotLegal (seven_of 632) × OddNoneWithinOne (seven_of 904)
unfolding correction_of
both_kinds_met = (only_even_is_8 632 refl refl, only_odd_is_14 904 refl refl)

-- So at least two bits are wrong where a code is refused with 8, and with 14 at least three: every legal pattern is that far away.
away_by_number : ℕ → ℕ → Bool
away_by_number p k = implies (eqb (number_of (pattern_correction p)) 14) (leb 3 (distance_of p (legal_of k)))

pub three_wrong_at_14 : (p fvh : ℕ) → p < 128 → fvh < 8 → number_of (pattern_correction p) ≡ 14 → 3 ≤ distance_of p (legal_of fvh)
unfolding correction_below away_by_number
three_wrong_at_14 p fvh hp hk e =
    leb→le 3 _ (meet (eqb (number_of (pattern_correction p)) 14) _ (lift2 128 8 away_by_number tt p fvh hp hk) (true_T _ (eq-eqb _ 14 e)))

-- A pattern is within one inverted bit of a legal one exactly when it is that one, or that one with one of the seven bits inverted.
one_inverted : ℕ → ℕ → Bool
one_inverted p k =
    implies (leb (distance_of p (legal_of k)) 1)
    (either (eqb p (legal_of k)) (both (ltb (bit_of p (legal_of k) - 2) 7) (eqb p (bit_xor (legal_of k) (2 ^ (bit_of p (legal_of k) - 2))))))

pub within_one_is_one_inverted : (p k : ℕ) → p < 128 → k < 8 → distance_of p (legal_of k) ≤ 1
    → (p ≡ legal_of k) ⊎ ((b : ℕ) × (b < 7) × (p ≡ bit_xor (legal_of k) (2 ^ b)))
unfolding ones_in ones count_trailing_zeros legal_of distance_of bit_of one_inverted either
within_one_is_one_inverted p k hp hk h =
    let b : ℕ = bit_of p (legal_of k) - 2 in
    let equal = eqb p (bit_xor (legal_of k) (2 ^ b)) in
    ⊎_elim (λ t. inl (eqb→eq p (legal_of k) t))
    (λ t. inr (b, ltb→lt b 7 (both_left (ltb b 7) equal t), eqb→eq p (bit_xor (legal_of k) (2 ^ b)) (both_right (ltb b 7) equal t)))
    (split (eqb p (legal_of k)) (both (ltb b 7) equal)
    (meet (leb (distance_of p (legal_of k)) 1) _ (lift2 128 8 one_inverted tt p k hp hk) (le→leb _ 1 h)))

pub one_inverted_is_within_one : (k b : ℕ) → k < 8 → b < 7 → distance_of (bit_xor (legal_of k) (2 ^ b)) (legal_of k) ≡ 1
unfolding legal_of distance_of
one_inverted_is_within_one k b hk hb =
    eqb→eq _ _ (lift2 8 7 (λ k b. eqb (distance_of (bit_xor (legal_of k) (2 ^ b)) (legal_of k)) 1) tt k b hk hb)

-- Of the 128 patterns 8 are legal, 56 are repaired, 56 are refused with 8 and 8 with 14.
abbrev pub kind_of : Correction → ℕ
kind_of (Clean fvh) = 0
kind_of (Repaired fvh bit) = 1
kind_of (Refused number) = number

pub pattern_counts :
    (count_below 128 (λ p. eqb (kind_of (pattern_correction p)) 0) ≡ 8)
    × (count_below 128 (λ p. eqb (kind_of (pattern_correction p)) 1) ≡ 56)
    × (count_below 128 (λ p. eqb (kind_of (pattern_correction p)) 8) ≡ 56)
    × (count_below 128 (λ p. eqb (kind_of (pattern_correction p)) 14) ≡ 8)
unfolding correction_below
pattern_counts = (refl, refl, refl, refl)

-- A pattern that is not refused lies within one bit of exactly one legal pattern, and a refused one of none.
pub one_legal_pattern : (p : ℕ) → p < 128
    → count_below 8 (λ k. leb (distance_of p (legal_of k)) 1) ≡ cond (eqb (number_of (pattern_correction p)) 0) 1 0
unfolding correction_below
one_legal_pattern p h =
    eqb→eq _ _
    (lift 128 (λ p. eqb (count_below 8 (λ k. leb (distance_of p (legal_of k)) 1)) (cond (eqb (number_of (pattern_correction p)) 0) 1 0)) tt p h)

-- ---- Each refusal comes exactly when its condition holds and none earlier does.

-- the number of seven bits where F, V, H are due
where_due : ℕ → ℕ → ℕ
where_due due p = by_kind p (cond (ltb 1 (distance_of p (legal_of due))) 9 0)

pattern_where : (due p : ℕ) → due < 8 → p < 128 → number_where due (pattern_correction p) ≡ where_due due p
unfolding correction_below far even_far odd_far by_kind where_due
pattern_where due p hd hp =
    eqb→eq _ _ (lift2 8 128 (λ due p. eqb (number_where due (pattern_correction p)) (where_due due p)) tt due p hd hp)

-- what a test on the word picks is the number of what it picks
pub number_picked : (g : Correction → ℕ) (t : Bool) (a b : Correction) → g (cond t a b) ≡ cond t (g a) (g b)
number_picked g true a b = refl
number_picked g false a b = refl

-- The numbers of correction keep to its table.
pub correction_exact : (w : ℕ) → Keeps (correction_refusals w) (refusal_of (correction_of w))
unfolding correction_of by_kind
correction_exact w =
    let p : ℕ = seven_of w in
    keeps_number (correction_refusals w) (number_of (correction_of w))
    (rw (number_picked number_of (ltb 1023 w), number_picked number_of (eqb (w / 512 % 2) 0), pattern_kind p (omega arith))
    (numbers_before (ltb 1023 w) (1023 < w) 5 0 _ _ (ltb-true 1023 w) (lt-ltb 1023 w) (λ z. omega arith)
    (numbers_before (eqb (w / 512 % 2) 0) (w / 512 % 2 ≡ 0) 7 0 _ _ (eqb-true _ 0) (eq-eqb _ 0) (λ z. omega arith)
    (numbers_before (even_far p) (EvenNotLegal p) 8 0 _ _ (even_only p) (even_back p) (λ z. omega arith)
    (numbers_when (odd_far p) (OddNoneWithinOne p) 14 0 (odd_only p) (odd_back p) (λ z. omega arith))))))

pub correction_decides : (w : ℕ) → Decides (correction_refusals w)
correction_decides w =
    decides_before _ _ (decides_when (1023 < w) 5 0)
    (decides_before _ _ (decides_when (w / 512 % 2 ≡ 0) 7 0)
    (decides_before _ _ (decides_when (EvenNotLegal (seven_of w)) 8 0) (decides_when (OddNoneWithinOne (seven_of w)) 14 0)))

-- So do those of a fourth word in its place, where F, V, H are due.
pub fourth_numbers : (due w place : ℕ) → due < 8 → w ≤ 1023 → Numbers (fourth_refusals due w place) (number_where due (correction_of w)) place
unfolding correction_of by_kind where_due
fourth_numbers due w place hd ten =
    let p : ℕ = seven_of w in
    rw (le-ltb 1023 w ten, number_picked (number_where due) (eqb (w / 512 % 2) 0), pattern_where due p hd (omega arith))
    (numbers_before (eqb (w / 512 % 2) 0) (w / 512 % 2 ≡ 0) 7 place _ _ (eqb-true _ 0) (eq-eqb _ 0) (λ z. omega arith)
    (numbers_before (even_far p) (EvenNotLegal p) 8 place _ _ (even_only p) (even_back p) (λ z. omega arith)
    (numbers_before (odd_far p) (OddNoneWithinOne p) 14 place _ _ (odd_only p) (odd_back p) (λ z. omega arith)
    (numbers_when (ltb 1 (distance_of p (legal_of due))) (1 < distance_of p (legal_of due)) 9 place (ltb-true 1 _) (lt-ltb 1 _) (λ z. omega arith)))))

pub fourth_decides : (due w place : ℕ) → Decides (fourth_refusals due w place)
fourth_decides due w place =
    decides_before _ _ (decides_when (w / 512 % 2 ≡ 0) 7 place)
    (decides_before _ _ (decides_when (EvenNotLegal (seven_of w)) 8 place)
    (decides_before _ _ (decides_when (OddNoneWithinOne (seven_of w)) 14 place) (decides_when (1 < distance_of (seven_of w) (legal_of due)) 9 place)))

-- ---- Two results allowed for one word are the same.
pub correct_one_result : (w : ℕ) (r s : Correction) → r ≡ correction_of w → s ≡ correction_of w → r ≡ s
correct_one_result w r s e f = e ∙ sym f
