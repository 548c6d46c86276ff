-- The refusals of unpacking and packing keep to their tables, the tables decide, and what acceptance says of the input. Assumes nothing.
use mathlib.Core.Path.{◌≡◌, sym, ap, ◌∙◌}
use mathlib.Core.Bool.{not}
use mathlib.Core.List.{List}
use Prim.Native.Nat.{ℕ, ◌<◌, ◌≤◌}
use native.Mathlib.Omega.{arith}
use lib.ListN.{length, get_or}
use lib.Dec.{eqb}
use Rattle.std.specs.Prelude.{Result, IsErr}
use Rattle.refusal.specs.declared.Refusal.{Refusal}
use Rattle.refusal.specs.declared.Refused.{Refused}
use Rattle.refusal.specs.Reasons.{answered}
use Rattle.refusal.specs.Numbers.{wrong_length}
use Rattle.refusal.specs.Answer.{none, refuse, or_else, written_by}
use Rattle.refusal.specs.Table.{Row, when, ◌before◌, Decides, Keeps}
use Rattle.refusal.proofs.Firsts.{or_else_grouped, or_else_none, same_number, written_accepted, length_due}
use Rattle.refusal.proofs.Results.{err_first, err_stays}
use borrow.Author.Tests.{eq-eqb}
use Rattle.refusal.proofs.Tables.{keeps_unequal, keeps_before, keeps_last, alone, decides_when, decides_before}
use Rattle.words.specs.Words.{most_word, over_refusal}
use Rattle.words.proofs.Over.{none_over, all_within, most_exact, most_decides}
use Rattle.words.proofs.Theorems.{over_exact, over_decides}
use Rattle.line.specs.Samples.{active_length}
use Rattle.v210.specs.Row.{row_length, row_words, row_word, most_row_word, spare_refusal, lengths_refusal, unpacked_of, packed_of, unpack_refusal, pack_refusal, samples_after, row_after}
use Rattle.v210.specs.Refusals.{spare_refusals, unpack_refusals, pack_refusals}

-- ---- Both calls test two lengths, 3 at 0 and 3 at 1, and then look for a number over its most.
module _ (a b : ℕ) (a-due b-due : ℕ) (last : Refusal) where
  abbrev answer : Refusal
  answer = or_else (refuse (not (eqb a a-due)) wrong_length 0) (or_else (refuse (not (eqb b b-due)) wrong_length 1) (or_else last none))

  lengths_exact : (table : Row) → Keeps table last
      → Keeps (when (a ≡ a-due → ⊥) wrong_length 0 before when (b ≡ b-due → ⊥) wrong_length 1 before table) answer
  lengths_exact table k =
      keeps_before _ _ (refuse (not (eqb a a-due)) wrong_length 0) _
      (keeps_unequal a a-due 0)
      (keeps_before _ _ (refuse (not (eqb b b-due)) wrong_length 1) _
      (keeps_unequal b b-due 1)
      (keeps_last _ last k))

  lengths_decide : (table : Row) → Decides table → Decides (when (a ≡ a-due → ⊥) wrong_length 0 before when (b ≡ b-due → ⊥) wrong_length 1 before table)
  lengths_decide table d = decides_before _ _ (decides_when _ wrong_length 0) (decides_before _ _ (decides_when _ wrong_length 1) d)

  -- a length that is not right is refused first, and where both are right only what comes last can refuse
  length_first : {A : Type 0} (r : Result A Refused) → IsErr r → answered r ≡ lengths_refusal a a-due b b-due → answered r ≡ answer
  unfolding lengths_refusal
  length_first r i e = err_first r _ (or_else last none) i e ∙ sym (or_else_grouped _ _ (or_else last none))

  lengths_right : none ≡ lengths_refusal a a-due b b-due → (a ≡ a-due) × (b ≡ b-due)
  unfolding lengths_refusal
  lengths_right e =
      let each = or_else_none _ _ (sym (same_number e)) in (length_due a a-due 0 each.0, length_due b b-due 1 each.1)

  only_last : (table : Row) → Keeps table last → a ≡ a-due → b ≡ b-due → answer ≡ last
  unfolding or_else
  only_last table k e f = simp (eq-eqb a a-due e, eq-eqb b b-due f) (alone table last k)

  -- what is accepted has the right lengths, and what comes last accepts it
  all_right : answer.number ≡ 0 → (a ≡ a-due) × (b ≡ b-due) × (last.number ≡ 0)
  all_right e =
      let first = or_else_none _ _ e in
      let second = or_else_none _ _ first.1 in
      let third = or_else_none last none second.1 in (
        length_due a a-due 0 first.0,
        length_due b b-due 1 second.0,
        third.0,
      )

-- ---- Unpacking.
module _ (row : List ℕ) where
  pub spare_exact : Keeps (spare_refusals row) (spare_refusal row)
  unfolding spare_refusal
  spare_exact = most_exact most_row_word (row_word row) row_words

  -- no spare bit is set
  pub spare_clear : (spare_refusal row).number ≡ 0 → (k : ℕ) → k < row_words → row_word row k ≤ most_row_word
  unfolding spare_refusal
  spare_clear e = all_within most_row_word (row_word row) row_words e

  pub clear_spare : ((k : ℕ) → k < row_words → row_word row k ≤ most_row_word) → spare_refusal row ≡ none
  unfolding spare_refusal
  clear_spare h = sym (none_over most_row_word (row_word row) row_words h)

  module _ (room : ℕ) where
    -- Each refusal comes exactly when its condition holds and none earlier does.
    pub unpack_exact : Keeps (unpack_refusals row room) (unpack_refusal row room)
    unfolding unpack_refusal
    unpack_exact = lengths_exact (length row) room row_length active_length (spare_refusal row) _ spare_exact

    -- The table asks for one refusal at the most.
    pub unpack_decides : Decides (unpack_refusals row room)
    unpack_decides = lengths_decide (length row) room row_length active_length none _ (most_decides most_row_word (row_word row) row_words)

    pub unpack_measured : length row ≡ row_length → room ≡ active_length → unpack_refusal row room ≡ spare_refusal row
    unfolding unpack_refusal
    unpack_measured = only_last (length row) room row_length active_length (spare_refusal row) _ spare_exact

    -- a length that is not right is refused, and where both are, the spare bits decide
    pub unpack_length : {A : Type 0} (r : Result A Refused) → IsErr r → answered r ≡ lengths_refusal (length row) row_length room active_length
        → answered r ≡ unpack_refusal row room
    unfolding unpack_refusal
    unpack_length r = length_first (length row) room row_length active_length (spare_refusal row) r

    pub unpack_long : none ≡ lengths_refusal (length row) row_length room active_length → length row ≡ row_length
    unpack_long e = (lengths_right (length row) room row_length active_length none e).0

    pub unpack_right : none ≡ lengths_refusal (length row) row_length room active_length → unpack_refusal row room ≡ spare_refusal row
    unpack_right e =
        let right = lengths_right (length row) room row_length active_length none e in unpack_measured right.0 right.1

    pub unpack_accepted : (unpack_refusal row room).number ≡ 0
        → (length row ≡ row_length) × (room ≡ active_length) × ((spare_refusal row).number ≡ 0)
    unfolding unpack_refusal
    unpack_accepted = all_right (length row) room row_length active_length (spare_refusal row)

-- ---- Packing.
module _ (samples : List ℕ) where
  module _ (room : ℕ) where
    -- Each refusal comes exactly when its condition holds and none earlier does.
    pub pack_exact : Keeps (pack_refusals samples room) (pack_refusal samples room)
    unfolding pack_refusal
    pack_exact = lengths_exact (length samples) room active_length row_length (over_refusal samples) _ (over_exact samples)

    -- The table asks for one refusal at the most.
    pub pack_decides : Decides (pack_refusals samples room)
    pack_decides =
        lengths_decide (length samples) room active_length row_length none _ (over_decides samples)

    pub pack_measured : length samples ≡ active_length → room ≡ row_length → pack_refusal samples room ≡ over_refusal samples
    unfolding pack_refusal
    pack_measured = only_last (length samples) room active_length row_length (over_refusal samples) _ (over_exact samples)

    -- a length that is not right is refused, and where both are, the samples decide
    pub pack_length : {A : Type 0} (r : Result A Refused) → IsErr r → answered r ≡ lengths_refusal (length samples) active_length room row_length
        → answered r ≡ pack_refusal samples room
    unfolding pack_refusal
    pack_length r = length_first (length samples) room active_length row_length (over_refusal samples) r

    pub pack_right : none ≡ lengths_refusal (length samples) active_length room row_length → pack_refusal samples room ≡ over_refusal samples
    pack_right e =
        let right = lengths_right (length samples) room active_length row_length none e in pack_measured right.0 right.1

    pub pack_accepted : (pack_refusal samples room).number ≡ 0
        → (length samples ≡ active_length) × (room ≡ row_length) × ((i : ℕ) → i < active_length → get_or samples i 0 ≤ most_word)
    unfolding pack_refusal
    pack_accepted e =
        let right = all_right (length samples) room active_length row_length (over_refusal samples) e in
        (right.0, right.1, λ i l. all_within most_word (λ k. get_or samples k 0) (length samples) right.2 i (omega (arith, right.0)))

-- ---- The buffers after a call that refused, and after one that did not.
module _ (row samples : List ℕ) where
  pub samples_stay : {A : Type 0} (r : Result A Refused) → IsErr r → answered r ≡ unpack_refusal row (length samples) → samples ≡ samples_after row samples
  unfolding samples_after
  samples_stay r i e = err_stays r i (unpacked_of row) samples ∙ ap (λ (q : Refusal). written_by q (unpacked_of row) samples) e

  pub samples_written : none ≡ unpack_refusal row (length samples) → unpacked_of row ≡ samples_after row samples
  unfolding samples_after
  samples_written e = sym (written_accepted _ (unpacked_of row) samples (sym (same_number e)))

  pub row_stays : {A : Type 0} (r : Result A Refused) → IsErr r → answered r ≡ pack_refusal samples (length row) → row ≡ row_after samples row
  unfolding row_after
  row_stays r i e = err_stays r i (packed_of samples) row ∙ ap (λ (q : Refusal). written_by q (packed_of samples) row) e

  pub row_written : none ≡ pack_refusal samples (length row) → packed_of samples ≡ row_after samples row
  unfolding row_after
  row_written e = sym (written_accepted _ (packed_of samples) row (sym (same_number e)))
