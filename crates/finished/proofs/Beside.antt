-- Where entries of two lists of bytes are set beside one another: what is left of both tells the same as the whole. Assumes nothing.
use Rattle.std.proofs.Common.{◌≡◌, ℕ, ◌<◌, Bool, true, false, not, cond, ltb, min, List, ◌∷◌, ◌++◌, length, sym, refl, ap, ◌∙◌, ap₂, arith, length-append, take_at, drop_at, ltb-false, ltb-true}
use Rattle.refusal.proofs.Cases.{by_test, not_true, not_false}
use Rattle.index.specs.declared.entry.Entry.{Entry}
use Rattle.index.specs.Entries.{entry_length, entry_of, entries_of}
use Rattle.finished.specs.declared.meeting.Meeting.{Meeting}
use Rattle.finished.specs.Check.{no_difference, differs_at, lower, same_entry, differing}
use Rattle.finished.proofs.Entries.{entries_next, entries_short}

lower_is : (a b : ℕ) → min a b ≡ lower a b
lower_is a b =
    by_test (ltb b a)
    (λ t. let l = ltb-true b a t in simp t (omega arith))
    (λ t. let l = ltb-false b a t in simp t (omega arith))

-- an entry comes off the front
entries_first : (bytes part rest : List ℕ) → bytes ≡ part ++ rest → length part ≡ entry_length → entries_of bytes ≡ entry_of part ∷ entries_of rest
entries_first bytes part rest is long =
    rw is
    (entries_next (part ++ rest) (omega (arith, length-append part rest))
    ∙ rw (take_at part rest entry_length long, drop_at part rest entry_length long) refl)

module _ {all : Meeting} (ours theirs : List ℕ) (same : all ≡ differing (entries_of ours) (entries_of theirs)) where
  pub beside_none : length ours < entry_length → length theirs < entry_length → no_difference ≡ all
  unfolding differing
  beside_none l m = sym (same ∙ ap₂ differing (entries_short ours l) (entries_short theirs m))

  pub beside_ours : (part rest : List ℕ) → ours ≡ part ++ rest → length part ≡ entry_length → length theirs < entry_length
      → differs_at (entry_of part).ordinal ≡ all
  unfolding differing
  beside_ours part rest is long m = sym (same ∙ ap₂ differing (entries_first ours part rest is long) (entries_short theirs m))

  pub beside_theirs : (part rest : List ℕ) → length ours < entry_length → theirs ≡ part ++ rest → length part ≡ entry_length
      → differs_at (entry_of part).ordinal ≡ all
  unfolding differing
  beside_theirs part rest l is long = sym (same ∙ ap₂ differing (entries_short ours l) (entries_first theirs part rest is long))

  -- an entry of each, and whether they are told apart
  module _ (our more their rest : List ℕ) (is : ours ≡ our ++ more) (long : length our ≡ entry_length) (are : theirs ≡ their ++ rest)
      (wide : length their ≡ entry_length) (e f : Entry) (first : e ≡ entry_of our) (second : f ≡ entry_of their) (apart : Bool)
      (told : apart ≡ not (same_entry e f)) where
    both : all ≡ cond (same_entry e f) (differing (entries_of more) (entries_of rest)) (differs_at (lower e.ordinal f.ordinal))
    unfolding differing
    both = rw (first, second) (same ∙ ap₂ differing (entries_first ours our more is long) (entries_first theirs their rest are wide))

    pub beside_differs : apart ≡ true → differs_at (min e.ordinal f.ordinal) ≡ all
    beside_differs t = ap differs_at (lower_is e.ordinal f.ordinal) ∙ sym (both ∙ simp (not_true _ (sym told ∙ t)))

    pub beside_next : apart ≡ false → all ≡ differing (entries_of more) (entries_of rest)
    beside_next t = both ∙ simp (not_false _ (sym told ∙ t))
