-- `captions::fill_head` meets its contract: eight bytes, two and two are the twelve of a head. Assumes nothing.
use Prim.Native.Nat.{ℕ, ◌-◌}
use mathlib.Core.Path.{◌≡◌, ap, ◌∙◌}
use mathlib.Core.List.{List, [], ◌++◌}
use native.Mathlib.Nat.{div-one}
use native.Mathlib.Omega.{arith}
use lib.ListN.{length, take, drop, length-drop}
use borrow.Rule.Slice.PartMut.{put_mid}
use Rattle.std.proofs.lemmas.List.{drop_all}
use Rattle.std.specs.Int.{w32, w64, to_le_bytes}
use Rattle.words.specs.Words.{tab_from}
use Rattle.captions.specs.declared.Entry.{Entry}
use Rattle.captions.specs.Entry.{head_of}
use Rattle.captions.proofs.fill_head.Goals as goal

module _ (e : Entry) where
  -- the twelve bytes, and nothing of a head is left behind them
  twelve : (rest : List ℕ) → rest ≡ []
      → to_le_bytes w64 e.ordinal ++ (take 2 (to_le_bytes w32 e.space) ++ (take 2 (to_le_bytes w32 e.words) ++ rest)) ≡ head_of e
  unfolding head_of tab_from
  twelve rest none = simp (div-one, none)

  filled : (head ordinal space words : List ℕ) → ordinal ≡ to_le_bytes w64 e.ordinal → space ≡ take 2 (to_le_bytes w32 e.space)
      → words ≡ take 2 (to_le_bytes w32 e.words)
      → (let ten = put_mid 8 2 (ordinal ++ drop 8 head) space in put_mid 10 (length ten - 10) ten words) ≡ head_of e
  filled head ordinal space words eo es ew =
      let ten = put_mid 8 2 (to_le_bytes w64 e.ordinal ++ drop 8 head) (take 2 (to_le_bytes w32 e.space)) in
      let none : drop (length ten - 10) (drop 10 ten) ≡ [] = drop_all (length ten - 10) (drop 10 ten) (omega (arith, length-drop 10 ten)) in
      rw (eo, es, ew) (twelve _ none)

pub returns : goal.returns
returns c =
    filled c.args.entry c.args.head.now _ _ _ (c.copy_from_slice.ensures.after ∙ c.to_le_bytes.ensures)
    (c.copy_from_slice-2.ensures.after ∙ ap (take 2) c.to_le_bytes-2.ensures)
    (c.copy_from_slice-3.ensures.after ∙ ap (take 2) c.to_le_bytes-3.ensures)
