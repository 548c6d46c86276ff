-- Stores one after another from the start of a part on, parts one after another, and words laid over others: stores that keep all other
-- words. Assumes nothing.
use Prim.Native.Nat.{ℕ, ◌+◌, ◌-◌, ◌<◌, ◌≤◌}
use mathlib.Core.Path.{◌≡◌, refl, sym, ap, ◌∙◌}
use mathlib.Core.List.{List}
use mathlib.Core.Bool.{cond, ◌&&◌}
use native.Mathlib.Omega.{arith}
use lib.Dec.{ltb, leb}
use lib.ListN.{length, get_or, set, length-set}
use lib.Seq.{get_or-set_same, get_or-set_other}
use borrow.Author.Count.{below_more}
use borrow.Author.Tests.{ltb-true, ltb-false}
use Rattle.refusal.proofs.Cases.{by_test}
use Rattle.line.specs.Samples.{laid_at}
use Rattle.line.proofs.Writing.{laid_below, laid_there, laid_behind}
use Rattle.writer.specs.Passes.{Put, Laid, part_word}

module _ (word : ℕ → ℕ) (from : ℕ) (before : List ℕ) where
  -- nothing is stored yet
  pub put_none : (to : ℕ) → to ≡ from → Put word from to before before
  put_none to e = record { size = refl; kept = λ j l. refl; there = λ j l g. absurd (omega arith) }

  -- one store more, at the offset that comes next
  pub put_store : (i to v : ℕ) (l : List ℕ) → Put word from i before l → to ≡ i + 1 → from ≤ i → i < length before → v ≡ word i → Put word from to before (set l i v)
  put_store i to v l h e low room is =
      record {
        size = simp length-set h.size;
        kept = λ j lt. get_or-set_other l i j v 0 (λ q. omega arith) ∙ h.kept j lt;
        there =
            λ j lt. below_more (λ n. from ≤ n → get_or (set l i v) n 0 ≡ word n) i
            (λ n ln g. get_or-set_other l i n v 0 (λ q. omega arith) ∙ h.there n ln g)
            (λ g. get_or-set_same l i v 0 (omega (arith, h.size)) ∙ is) j (omega arith);
      }

  -- a part whose words are those of the line, put behind words that are those of the line
  pub then_put : (line : ℕ → ℕ) (to : ℕ) (after : List ℕ) → Put word from to before after → ((j : ℕ) → j < from → get_or before j 0 ≡ line j)
      → ((j : ℕ) → j < to → from ≤ j → word j ≡ line j) → (j : ℕ) → j < to → get_or after j 0 ≡ line j
  then_put line to after h low same j l =
      by_test (ltb j from)
      (λ t. let b = ltb-true j from t in h.kept j b ∙ low j b)
      (λ f. let b = ltb-false j from f in h.there j l b ∙ same j l b)

-- ---- words laid over others: the stores also keep the words behind them
abbrev pub Behind : ℕ → List ℕ → List ℕ → Type 0
Behind to before after = (i : ℕ) → to ≤ i → get_or after i 0 ≡ get_or before i 0

-- one store more
pub behind_store : (before l : List ℕ) (i to v : ℕ) → Behind i before l → to ≡ i + 1 → Behind to before (set l i v)
behind_store before l i to v h e j g = get_or-set_other l i j v 0 (λ q. omega arith) ∙ h j (omega arith)

-- a word that is laid is the same over the same word
pub laid_over : (ready : List ℕ) (from : ℕ) (under other : ℕ → ℕ) (i : ℕ) → under i ≡ other i → laid_at ready from under i ≡ laid_at ready from other i
laid_over ready from under other i e =
    ap (λ (w : ℕ). cond (leb from i && ltb i (from + length ready)) (get_or ready (i - from) 0) w) e

module _ (ready : List ℕ) (from : ℕ) (before after : List ℕ) where
  abbrev under : ℕ → ℕ
  under k = get_or before k 0

  -- a word that is laid, by its offset
  laid_at_is : (i : ℕ) → from ≤ i → i < from + length ready → laid_at ready from under i ≡ part_word ready from i
  laid_at_is i g l =
      let e : from + (i - from) ≡ i = omega arith in
      ap (laid_at ready from under) (sym e) ∙ laid_there ready from under (i - from) (omega arith)

  pub put_laid : (to : ℕ) → to ≡ from + length ready → Put (part_word ready from) from to before after → Behind to before after → Laid ready from before after
  put_laid to e put behind =
      record {
        size = put.size;
        word = λ i l. by_test (ltb i from)
            (λ t. let m = ltb-true i from t in put.kept i m ∙ sym (laid_below ready from under i m))
            (λ f. let g = ltb-false i from f in
            by_test (ltb i to)
            (λ t. let m = ltb-true i to t in put.there i m g ∙ sym (laid_at_is i g (omega arith)))
            (λ h. let m = ltb-false i to h in behind i m ∙ sym (laid_behind ready from under i (omega arith))));
      }

  pub laid_put : (to : ℕ) → to ≡ from + length ready → to ≤ length before → Laid ready from before after → Put (part_word ready from) from to before after
  laid_put to e room laid =
      record {
        size = laid.size;
        kept = λ i l. laid.word i (omega arith) ∙ laid_below ready from under i l;
        there = λ i l g. laid.word i (omega arith) ∙ laid_at_is i g (omega arith);
      }
