-- What a head is judged that tells an entry. Assumes nothing.
use Prim.Native.Nat.{ℕ}
use mathlib.Core.Path.{◌≡◌}
use mathlib.Core.Bool.{false}
use mathlib.Core.List.{List}
use lib.ListN.{length}
use borrow.Author.Tests.{eq-eqb}
use Rattle.refusal.specs.Answer.{none}
use Rattle.captions.specs.Entry.{head_length, entry_of, is_bad, head_refusal, told_head, head_judged}

module _ (least : ℕ) (head : List ℕ) where
  head_accepted : length head ≡ head_length → is_bad least (entry_of head) ≡ false → head_refusal least head ≡ none
  unfolding head_refusal
  head_accepted long good = simp (eq-eqb _ _ long, good)

  pub judged_well : length head ≡ head_length → is_bad least (entry_of head) ≡ false → head_judged least head ≡ told_head (entry_of head)
  unfolding head_judged
  judged_well long good = simp (head_accepted long good)
