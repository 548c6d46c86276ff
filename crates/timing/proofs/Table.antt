-- The rule of the table behind correction: a test that computes over a row, and laws that turn it into the rule at each entry. Assumes nothing.
use Prim.Native.Nat.{ℕ, ◌+◌, ◌*◌, ◌/◌, ◌%◌, ◌^◌, ◌<◌}
use mathlib.Core.Path.{◌≡◌, ap, ◌∙◌}
use mathlib.Core.Bool.{Bool, cond}
use native.Mathlib.Omega.{arith}
use lib.Dec.{T, ltb, eqb, eqb→eq}
use Rattle.timing.specs.declared.Correction.{Correction}
use Rattle.timing.specs.declared.Correction.TheVariants.{Clean, Repaired, Refused}
use Rattle.timing.specs.Code.{correction_below, pattern_correction}
use Rattle.timing.specs.Report.{Values, values_of}
use Rattle.timing.proofs.Every.{every, lift}
use Rattle.timing.proofs.Same.{same, same_to_eq}

-- ---- the table's entry for seven bits: what document 01 tells of them, in one number
unfoldable pub entry_of : ℕ → ℕ
unfolding correction_below
entry_of p = let told : Values = values_of (pattern_correction p) in told.number + told.fvh + 16 * told.bit

-- a row of the table holds the entries of the eight F, V, H that may stand before these protection bits
unfoldable pub row_right : ℕ → ℕ → Bool
unfolding entry_of
row_right protection row = every 8 (λ fvh. eqb (row / 2 ^ (fvh * 8) % 256) (entry_of (16 * fvh + protection)))

-- so the entry of a pattern stands in the row of its protection bits, at its F, V, H
pub in_row : (protection row p : ℕ) → T (row_right protection row) → p % 16 ≡ protection
    → row / 2 ^ (p / 16 % 8 * 8) % 256 ≡ entry_of (p % 128)
unfolding row_right
in_row protection row p right is =
    let seven : 16 * (p / 16 % 8) + protection ≡ p % 128 = omega arith in
    eqb→eq _ _ (lift 8 (λ fvh. eqb (row / 2 ^ (fvh * 8) % 256) (entry_of (16 * fvh + protection))) right (p / 16 % 8) (omega arith))
    ∙ ap entry_of seven

-- ---- what an entry says
unfoldable pub entry_says : ℕ → Correction
entry_says e = cond (ltb 15 e) (Repaired (e % 16) (e / 16)) (cond (ltb 7 e) (Refused e) (Clean e))

entry_right : (p : ℕ) → p < 128 → entry_says (entry_of p) ≡ pattern_correction p
unfolding entry_of entry_says
entry_right p h = same_to_eq _ _ (lift 128 (λ p. same (entry_says (entry_of p)) (pattern_correction p)) tt p h)

-- the entry that is read of a row says what the seven bits do
pub read_right : (row p : ℕ) → p < 128 → row / 2 ^ (p / 16 % 8 * 8) % 256 ≡ entry_of (p % 128)
    → entry_says (row / 2 ^ (p / 16 * 8) % 256) ≡ pattern_correction p
read_right row p h is =
    let column : p / 16 ≡ p / 16 % 8 = omega arith in
    let seven : p % 128 ≡ p = omega arith in
    ap (λ (k : ℕ). entry_says (row / 2 ^ (k * 8) % 256)) column ∙ ap entry_says is ∙ ap (λ (k : ℕ). entry_says (entry_of k)) seven
    ∙ entry_right p h
