-- `words::first_over` meets its contract: no word before the one found is over 1023, and where all or'ed are not, none is. Assumes nothing.
use Rattle.std.proofs.Common.{length, get_or, ◌∙◌, ap, sym}
use Rattle.std.specs.Prelude.{ltb}
use Rattle.std.proofs.lemmas.List.Quantifiers.{position-Some}
use native.Mathlib.Nat.{le_trans}
use borrow.Author.Tests.{ltb-true, ltb-false}
use Rattle.refusal.specs.Reasons.{numbered}
use Rattle.words.specs.Words.{most_word}
use Rattle.words.proofs.Over.{lowest_over, none_over, nowhere}
use Rattle.words.proofs.first_over.Goals as goal

pub returns-then-any_of-le-MOST_WORD : goal.returns-then-any_of-le-MOST_WORD
returns-then-any_of-le-MOST_WORD c =
    let ws = c.args.words.now in
    none_over most_word (λ i. get_or ws i 0) (length ws) (λ k h. le_trans (c.any_of.ensures k h) c.if-any_of-le-MOST_WORD.true)

pub returns-in-Some : goal.returns-in-Some
returns-in-Some c =
    let ws = c.args.words.now in
    let found = position-Some (λ w. ltb most_word w) ws c.in-Some.i 0 (sym c.place_over.ensures ∙ c.in-Some.is) in
    ap numbered c.at.ensures
    ∙ lowest_over most_word (λ i. get_or ws i 0) (length ws) c.in-Some.i found.0 (λ j h. ltb-false _ _ (found.2 j h)) (ltb-true _ _ found.1)

pub returns-in-None : goal.returns-in-None
returns-in-None c =
    let ws = c.args.words.now in
    none_over most_word (λ i. get_or ws i 0) (length ws)
    (λ j h. ltb-false _ _ (nowhere (λ w. ltb most_word w) ws (sym c.place_over.ensures ∙ c.in-None.is) j h))
