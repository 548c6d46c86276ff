-- The promises on the heads of a packets file, of the definitions that the calls' contracts cite. Assumes nothing.
use Prim.Native.Nat.{ℕ, ◌≤◌}
use mathlib.Core.Path.{◌≡◌, sym, ap, ◌∙◌}
use mathlib.Core.Bool.{true, not, ◌||◌}
use mathlib.Core.List.{List}
use mathlib.Core.Logic.{◌⊎◌, inl, inr, ⊎_elim}
use native.Mathlib.Omega.{arith}
use lib.Dec.{eqb}
use lib.ListN.{length}
use borrow.Author.Tests.{eqb-false, eq-eqb, ne_eqb}
use Rattle.refusal.specs.declared.Refusal.{Refusal}
use Rattle.refusal.specs.Numbers.{bad_entry}
use Rattle.refusal.specs.Answer.{none}
use Rattle.refusal.specs.Table.{Decides, Keeps}
use Rattle.refusal.proofs.Cases.{not_true, or_either, or_left, or_right}
use Rattle.refusal.proofs.Firsts.{same_number, written_accepted}
use Rattle.refusal.proofs.Tables.{keeps_when, decides_when}
use Rattle.captions.specs.declared.Entry.{Entry}
use Rattle.captions.specs.Entry.{Head, head_length, head_of, entry_of, Within, key_of, is_bad, head_refusal, told_head, head_judged, put_refusal, head_after}
use Rattle.captions.specs.Refusals.{head_refusals}
use Rattle.captions.proofs.Entries.{Bad, bad, bad_back, comes_back}
use Rattle.captions.proofs.Heads.{head_length_is, entry_back}
use Rattle.captions.proofs.Judged.{judged_well}

-- ---- 22 exactly for a head that is none or tells no entry, and that leaves one answer only.
module _ (least : ℕ) (head : List ℕ) where
  abbrev NoHead : Type 0
  NoHead = (length head ≡ head_length → ⊥) ⊎ Bad least (entry_of head)

  pub head_exact : Keeps (head_refusals least head) (head_refusal least head)
  unfolding head_refusal
  head_exact =
      keeps_when (not (eqb (length head) head_length) || is_bad least (entry_of head)) NoHead bad_entry 0 forth back (λ z. omega arith)
    where
      forth : (not (eqb (length head) head_length) || is_bad least (entry_of head)) ≡ true → NoHead
      forth t =
          ⊎_elim (λ n. inl (eqb-false _ _ (not_true _ n))) (λ b. inr (bad least (entry_of head) b))
          (or_either (not (eqb (length head) head_length)) _ t)

      back : NoHead → (not (eqb (length head) head_length) || is_bad least (entry_of head)) ≡ true
      back (inl n) = or_left _ _ (ap not (ne_eqb _ _ n))
      back (inr b) = or_right (not (eqb (length head) head_length)) _ (bad_back least (entry_of head) b)

  pub head_decides : Decides (head_refusals least head)
  head_decides = decides_when NoHead bad_entry 0

-- ---- What is put is what is told.
module _ (e : Entry) (within : Within e) where
  -- The head of an entry tells that entry.
  pub head_back : entry_of (head_of e) ≡ e
  head_back = entry_back e within

  -- A head that was put into twelve bytes, for an entry that may come there, is judged well and tells that entry.
  pub written_head_accepted : (least : ℕ) (before : List ℕ) → length before ≡ head_length → least ≤ key_of e
      → head_judged least (head_after e before) ≡ told_head e
  unfolding head_after
  written_head_accepted least before long rises =
      let fits : put_refusal (length before) ≡ none = simp (eq-eqb _ _ long) in
      ap (head_judged least) (written_accepted (put_refusal (length before)) (head_of e) before (same_number fits))
      ∙ judged_well least (head_of e) (head_length_is e)
      (ap (is_bad least) head_back ∙ comes_back least e (record { within = within; rises = rises }))
      ∙ ap told_head head_back

-- Two entries with one key are of one line and one space.
pub one_key : (e f : Entry) → Within e → Within f → key_of e ≡ key_of f → (e.ordinal ≡ f.ordinal) × (e.space ≡ f.space)
one_key e f we wf same = (omega (arith, we.space, wf.space), omega (arith, we.space, wf.space))

-- ---- Two results that the contract allows for one input are the same.
pub judge_head_one_result : (least : ℕ) (head : List ℕ) (r s : Head) → r ≡ head_judged least head → s ≡ head_judged least head → r ≡ s
judge_head_one_result least head r s a b = a ∙ sym b

pub put_head_one_result : (e : Entry) (before : List ℕ) (r s : Refusal) (after other : List ℕ) → r ≡ put_refusal (length before)
    → after ≡ head_after e before → s ≡ put_refusal (length before) → other ≡ head_after e before → (r ≡ s) × (after ≡ other)
put_head_one_result e before r s after other a b c d = (a ∙ sym c, b ∙ sym d)
