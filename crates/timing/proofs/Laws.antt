-- Laws of the definitions that other proofs cite, each computed over all patterns and lifted. Assumes nothing.
use Prim.Native.Nat.{ℕ, zero, suc, ◌/◌, ◌%◌, ◌<◌, ◌≤◌}
use mathlib.Core.Path.{◌≡◌, refl, sym, ap, subst, ◌∙◌}
use mathlib.Core.Bool.{Bool, true, false}
use Rattle.std.proofs.lemmas.Bool.{false≢true}
use native.Mathlib.Omega.{arith}
use lib.Dec.{T, ltb, leb, eqb, eqb→eq, ltb→lt, leb→le, le→leb, lit<}
use borrow.Author.Tests.{lt-ltb, le-ltb, ltb-true, ltb-false, eq-eqb, ne_eqb}
use Rattle.std.specs.Prelude.{Option, Some}
use Rattle.std.specs.Option.{unwrap_or}
use Rattle.refusal.specs.Numbers.{number_bound}
use Rattle.refusal.proofs.Cases.{by_cond, by_test}
use Rattle.timing.specs.declared.Correction.{Correction}
use Rattle.timing.specs.declared.Correction.TheVariants.{Clean, Repaired, Refused}
use Rattle.timing.specs.Code.{seven_bits, legal_of, fourth_of, seven_of, distance_of, bit_of, said_by, hopeless_of, correction_below, pattern_correction, correction_of}
use Rattle.timing.specs.declared.CodeReport.{CodeReport}
use Rattle.timing.specs.declared.CodeReport.TheVariants as report
use Rattle.timing.specs.Report.{number_of, number_where, code_report_of, repairs_in}
use Rattle.timing.proofs.Every.{both, both_left, both_right, implies, meet, every, lift, lift2, lift3}
use Rattle.timing.proofs.Same.{same, same_to_eq}

-- ---- bounds
pub seven_bits_below : (f v h : ℕ) → f < 2 → v < 2 → h < 2 → seven_bits f v h < 128
seven_bits_below f v h hf hv hh = ltb→lt _ 128 (lift3 2 2 2 (λ f v h. ltb (seven_bits f v h) 128) tt f v h hf hv hh)

pub legal_below : (k : ℕ) → legal_of k < 128
unfolding legal_of
legal_below k = seven_bits_below (k / 4 % 2) (k / 2 % 2) (k % 2) (omega arith) (omega arith) (omega arith)

pub fourth_below : (k : ℕ) → fourth_of k < 1024
unfolding fourth_of
fourth_below k = omega (arith, legal_below k)

pub fourth_high : (k : ℕ) → fourth_of k / 512 ≡ 1
unfolding fourth_of
fourth_high k = omega (arith, legal_below k)

pub fourth_seven : (k : ℕ) → seven_of (fourth_of k) ≡ legal_of k
unfolding fourth_of
fourth_seven k = omega (arith, legal_below k)

-- ---- a word of ten bits with bit 9 set is corrected by its seven bits
pub by_pattern : (w : ℕ) → w / 512 ≡ 1 → correction_of w ≡ pattern_correction (seven_of w)
unfolding correction_of
by_pattern w h =
    let ten : w ≤ 1023 = omega arith in
    let nine : (w / 512 % 2 ≡ 0 → ⊥) = λ e. omega arith in
    simp (le-ltb _ _ ten, ne_eqb _ _ nine)

-- the words that are refused before their seven bits are looked at
pub over_is_5 : (w : ℕ) → 1023 < w → correction_of w ≡ (Refused 5)
unfolding correction_of
over_is_5 w h = simp (lt-ltb _ _ h)

pub clear_is_7 : (w : ℕ) → w < 512 → correction_of w ≡ (Refused 7)
unfolding correction_of
clear_is_7 w h =
    let ten : w ≤ 1023 = omega arith in
    simp (le-ltb _ _ ten, eq-eqb (w / 512 % 2) 0 (omega arith))

-- ---- why seven bits are refused
is_refused : Correction → Bool
is_refused (Clean fvh) = false
is_refused (Repaired fvh bit) = false
is_refused (Refused number) = true

refused_below : (k p n : ℕ) → correction_below k p ≡ Refused n → hopeless_of p ≡ n
unfolding correction_below is_refused
refused_below zero p n e = ap number_of e
refused_below (suc k) p n e =
    by_test (eqb (distance_of p (legal_of k)) 0)
    (λ t. absurd (false≢true (ap is_refused (rw t at e))))
    (λ f. by_test (eqb (distance_of p (legal_of k)) 1)
    (λ t. absurd (false≢true (ap is_refused (rw (f, t) at e))))
    (λ g. refused_below k p n (rw (f, g) at e)))

pub refused_as : (w p n : ℕ) → w / 512 ≡ 1 → p ≡ seven_of w → correction_of w ≡ Refused n → hopeless_of p ≡ n
refused_as w p n h seven e = refused_below 8 p n (ap pattern_correction seven ∙ sym (by_pattern w h) ∙ e)

-- ---- what one legal pattern says: it, or those below it, decide;
pub said_below : (j k p : ℕ) → j ≡ suc k → correction_below j p ≡ unwrap_or (said_by k p) (correction_below k p)
unfolding correction_below said_by
said_below j k p e =
    ap (λ (n : ℕ). correction_below n p) e
    ∙ by_test (eqb (distance_of p (legal_of k)) 0) (λ t. simp t)
    (λ f. by_test (eqb (distance_of p (legal_of k)) 1) (λ t. simp (f, t)) (λ g. simp (f, g)))

-- and so each of the eight is right where it says something
right : ℕ → ℕ → Bool
right k p = same (unwrap_or (said_by k p) (pattern_correction p)) (pattern_correction p)

right_all : T (every 8 (λ k. every 128 (right k)))
unfolding right said_by correction_below
right_all = tt

pub said_right : (k w p : ℕ) (c : Correction) → k < 8 → w / 512 ≡ 1 → p ≡ seven_of w → Some c ≡ said_by k p → c ≡ correction_of w
unfolding right
said_right k w p c hk hw seven said =
    ap (λ (o : Option Correction). unwrap_or o (pattern_correction (seven_of w))) (said ∙ ap (said_by k) seven)
    ∙ same_to_eq _ _ (lift2 8 128 right right_all k (seven_of w) hk (omega arith)) ∙ sym (by_pattern w hw)

-- ---- what is found of seven bits that lie at a distance from the legal pattern of F, V, H
abbrev pub found : ℕ → ℕ → ℕ → Correction
found fvh p zero = Clean fvh
found fvh p (suc zero) = Repaired fvh (bit_of p (legal_of fvh))
found fvh p (suc (suc n)) = Refused 8

finds : ℕ → ℕ → Bool
finds fvh p = implies (leb (distance_of p (legal_of fvh)) 2) (same (pattern_correction p) (found fvh p (distance_of p (legal_of fvh))))

finds_all : T (every 8 (λ fvh. every 128 (finds fvh)))
unfolding finds correction_below
finds_all = tt

-- at distance 0 clean, at 1 repaired, at 2 refused with 8
pub at_distance : (fvh w n : ℕ) → fvh < 8 → w / 512 ≡ 1 → distance_of (seven_of w) (legal_of fvh) ≡ n → n ≤ 2
    → correction_of w ≡ found fvh (seven_of w) n
unfolding finds
at_distance fvh w n hk hw hn l =
    let near : distance_of (seven_of w) (legal_of fvh) ≤ 2 = omega arith in
    by_pattern w hw
    ∙ rw (← hn)
    (same_to_eq _ _
    (meet (leb (distance_of (seven_of w) (legal_of fvh)) 2) _ (lift2 8 128 finds finds_all fvh (seven_of w) hk (omega arith)) (le→leb _ 2 near)))

-- at most one bit away: no refusal where F, V, H are due, and as many repairs as inverted bits
pub found_accepted : (fvh p n : ℕ) → n ≤ 1 → number_where fvh (found fvh p n) ≡ 0
found_accepted fvh p zero l = simp (eq-eqb fvh fvh refl)
found_accepted fvh p (suc zero) l = simp (eq-eqb fvh fvh refl)
found_accepted fvh p (suc (suc n)) l = absurd (omega arith)

pub found_repairs : (fvh p n : ℕ) → n ≤ 1 → repairs_in (code_report_of (found fvh p n)) ≡ n
found_repairs fvh p zero l = refl
found_repairs fvh p (suc zero) l = refl
found_repairs fvh p (suc (suc n)) l = absurd (omega arith)

-- and the other way round: where F, V, H are due and nothing is refused, the word lies as many bits away as it has repairs
due_away : ℕ → ℕ → Bool
due_away fvh p =
    implies (eqb (number_where fvh (pattern_correction p)) 0)
    (eqb (distance_of p (legal_of fvh)) (repairs_in (code_report_of (pattern_correction p))))

due_away_all : T (every 8 (λ fvh. every 128 (due_away fvh)))
unfolding due_away correction_below
due_away_all = tt

pub accepted_away : (fvh w : ℕ) → fvh < 8 → number_where fvh (correction_of w) ≡ 0
    → (w / 512 ≡ 1) × (distance_of (seven_of w) (legal_of fvh) ≡ repairs_in (code_report_of (correction_of w)))
unfolding due_away
accepted_away fvh w hk e =
    by_test (ltb 1023 w)
    (λ t. absurd (never 5 (λ z. omega arith) (ap (number_where fvh) (over_is_5 w (ltb-true _ _ t)))))
    (λ t. by_test (ltb w 512)
    (λ u. absurd (never 7 (λ z. omega arith) (ap (number_where fvh) (clear_is_7 w (ltb-true _ _ u)))))
    (λ u. high (ltb-false _ _ t) (ltb-false _ _ u)))
  where
    never : (n : ℕ) → (n ≡ 0 → ⊥) → number_where fvh (correction_of w) ≡ n → ⊥
    never n positive q = positive (sym q ∙ e)

    high : w ≤ 1023 → 512 ≤ w → (w / 512 ≡ 1) × (distance_of (seven_of w) (legal_of fvh) ≡ repairs_in (code_report_of (correction_of w)))
    high ten nine =
        let h : w / 512 ≡ 1 = omega arith in
        let p = by_pattern w h in
        let z : number_where fvh (pattern_correction (seven_of w)) ≡ 0 = ap (number_where fvh) (sym p) ∙ e in (
          h,
          eqb→eq _ _
              (meet (eqb (number_where fvh (pattern_correction (seven_of w))) 0) _ (lift2 8 128 due_away due_away_all fvh (seven_of w) hk (omega arith))
              (subst T (sym (eq-eqb _ 0 z)) tt))
              ∙ ap (λ (c : Correction). repairs_in (code_report_of c)) (sym p),
        )

-- a code has one repair at the most
pub one_repair : (r : CodeReport) → repairs_in r ≤ 1
one_repair (report.Clean) = omega arith
one_repair (report.Repaired bit) = omega arith

-- ---- a correction's numbers are in range
abbrev pub Bounded : Correction → Type 0
Bounded (Clean fvh) = fvh < 8
Bounded (Repaired fvh bit) = (fvh < 8) × (bit < 9) × (2 ≤ bit)
Bounded (Refused number) = number < number_bound

bounded? : Correction → Bool
bounded? (Clean fvh) = ltb fvh 8
bounded? (Repaired fvh bit) = both (ltb fvh 8) (both (ltb bit 9) (leb 2 bit))
bounded? (Refused number) = ltb number number_bound

to_bounded : (c : Correction) → T (bounded? c) → Bounded c
unfolding bounded?
to_bounded (Clean fvh) t = ltb→lt fvh 8 t
to_bounded (Repaired fvh bit) t =
    let bits = both_right (ltb fvh 8) (both (ltb bit 9) (leb 2 bit)) t in
    (ltb→lt fvh 8 (both_left (ltb fvh 8) _ t), ltb→lt bit 9 (both_left (ltb bit 9) (leb 2 bit) bits), leb→le 2 bit (both_right (ltb bit 9) (leb 2 bit) bits))
to_bounded (Refused number) t = ltb→lt number number_bound t

pattern_bounded : (p : ℕ) → p < 128 → Bounded (pattern_correction p)
unfolding correction_below bounded?
pattern_bounded p h = to_bounded (pattern_correction p) (lift 128 (λ p. bounded? (pattern_correction p)) tt p h)

pub bounded : (w : ℕ) → Bounded (correction_of w)
unfolding correction_of
bounded w =
    by_cond Bounded (ltb 1023 w) (Refused 5) _ (λ e. lit< tt)
    (λ e. by_cond Bounded (eqb (w / 512 % 2) 0) (Refused 7) _ (λ f. lit< tt) (λ f. pattern_bounded (seven_of w) (omega arith)))
