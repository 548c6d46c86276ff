-- The refusal of a serial call keeps to its table, the table decides, and what acceptance says of the input. Assumes nothing.
use mathlib.Core.Path.{◌≡◌, sym}
use mathlib.Core.Bool.{◌||◌}
use mathlib.Core.Logic.{◌⊎◌, inl, inr, ⊎_elim}
use mathlib.Core.List.{List, [], ◌∷◌}
use Prim.Native.Nat.{ℕ, suc, ◌<◌, ◌≤◌}
use native.Mathlib.Omega.{arith}
use lib.ListN.{length, get_or}
use lib.Dec.{ltb}
use borrow.Author.Tests.{lt-ltb, le-ltb, ltb-true, ltb-false, eq-eqb}
use Rattle.refusal.specs.Numbers.{wrong_length, bad_state}
use Rattle.refusal.specs.Answer.{none, or_else}
use Rattle.refusal.specs.Table.{Decides, Keeps}
use Rattle.refusal.proofs.Cases.{or_either, or_neither, or_left, or_right}
use Rattle.refusal.proofs.Firsts.{or_else_none, not_made, length_due}
use Rattle.refusal.proofs.Tables.{keeps_when, keeps_unequal, keeps_before, keeps_last, alone, decides_when, decides_before}
use Rattle.words.specs.Words.{most_word, over_refusal}
use Rattle.words.proofs.Over.{none_over, all_within}
use Rattle.words.proofs.Theorems.{over_exact, over_decides}
use Rattle.serial.specs.declared.State.{State}
use Rattle.serial.specs.Words.{Words, more}
use Rattle.serial.specs.Words as words
use Rattle.serial.specs.Calls.{most_words, serial_refusal}
use Rattle.serial.specs.Refusals.{serial_refusals}

-- words that are none over 1023 are words of ten bits
pub ten_bits : (words : List ℕ) → ((i : ℕ) → i < length words → get_or words i 0 ≤ most_word) → Words words
ten_bits [] h = words.none
ten_bits (w ∷ ws) h = more (h 0 (omega arith)) (ten_bits ws (λ i l. h (suc i) (omega arith)))

-- the refusal that stands last in the row
pub over_alone : (words : List ℕ) → or_else (over_refusal words) none ≡ over_refusal words
over_alone words = alone _ _ (over_exact words)

module _ (s : State) (words : List ℕ) (room : ℕ) where
  -- Each refusal comes exactly when its condition holds and none earlier in the document's order does.
  pub serial_exact : Keeps (serial_refusals s words room) (serial_refusal s words room)
  unfolding serial_refusal
  serial_exact =
      keeps_before _ _ _ _
      (keeps_when (ltb 511 s.scrambled || ltb 1 s.last) ((511 < s.scrambled) ⊎ (1 < s.last)) bad_state 0
      (λ t. ⊎_elim (λ u. inl (ltb-true _ _ u)) (λ u. inr (ltb-true _ _ u)) (or_either (ltb 511 s.scrambled) (ltb 1 s.last) t))
      (λ h. ⊎_elim (λ u. or_left _ _ (lt-ltb _ _ u)) (λ u. or_right (ltb 511 s.scrambled) _ (lt-ltb _ _ u)) h)
      (λ z. omega arith))
      (keeps_before _ _ _ _
      (keeps_when (ltb most_words (length words)) (most_words < length words) wrong_length 0 (ltb-true _ _) (lt-ltb _ _) (λ z. omega arith))
      (keeps_before _ _ _ _
      (keeps_unequal room (length words) 1)
      (keeps_last _ (over_refusal words) (over_exact words))))

  -- The table leaves one answer only.
  pub serial_decides : Decides (serial_refusals s words room)
  serial_decides =
      decides_before _ _ (decides_when _ bad_state 0)
      (decides_before _ _ (decides_when _ wrong_length 0)
      (decides_before _ _ (decides_when _ wrong_length 1) (over_decides words)))

  -- what the input of an accepted call is
  pub record Accepted : Type 0 where
    pub nine : s.scrambled ≤ 511
    pub one : s.last ≤ 1
    pub short : length words ≤ most_words
    pub same : room ≡ length words
    pub small : (i : ℕ) → i < length words → get_or words i 0 ≤ most_word

  pub accepted : (serial_refusal s words room).number ≡ 0 → Accepted
  unfolding serial_refusal
  accepted e =
      let state = or_else_none _ _ e in
      let long = or_else_none _ _ state.1 in
      let unequal = or_else_none _ _ long.1 in
      let over = or_else_none _ _ unequal.1 in
      let valid = or_neither (ltb 511 s.scrambled) (ltb 1 s.last) (not_made _ bad_state 0 (λ z. omega arith) state.0) in
      record {
        nine = ltb-false _ _ valid.0;
        one = ltb-false _ _ valid.1;
        short = ltb-false _ _ (not_made _ wrong_length 0 (λ z. omega arith) long.0);
        same = length_due room (length words) 1 unequal.0;
        small = all_within most_word (λ i. get_or words i 0) (length words) over.0;
      }

  pub accepts : Accepted → serial_refusal s words room ≡ none
  unfolding serial_refusal or_else
  accepts a =
      simp (
        le-ltb 511 s.scrambled a.nine,
        le-ltb 1 s.last a.one,
        le-ltb most_words (length words) a.short,
        eq-eqb room (length words) a.same,
        sym (none_over most_word (λ i. get_or words i 0) (length words) a.small),
      )
