-- Lists of words that stand in a line. Assumes nothing.
use Prim.Native.Nat.{ℕ, zero, suc, ◌+◌, ◌-◌, ◌%◌, ◌<◌, ◌≤◌}
use mathlib.Core.Path.{◌≡◌, refl, sym, ap, ◌∙◌}
use mathlib.Core.List.{List, [], ◌∷◌, ◌++◌}
use native.Mathlib.Omega.{arith}
use lib.Dec.{ltb}
use lib.ListN.{length, get_or, length-append, get_or-append}
use lib.Seq.{get_or-append-add}
use borrow.Author.Tests.{ltb-true, ltb-false}
use Rattle.refusal.proofs.Cases.{by_test}
use Rattle.packets.specs.Packet.{Stands, sum_of, fill_word, fill_from}
use Rattle.packets.specs.Due.{sum_from}

module _ (word : ℕ → ℕ) where
  pub stands_left : (p : ℕ) (a b : List ℕ) → Stands word p (a ++ b) → Stands word p a
  stands_left p a b s j l = s j (omega (arith, length-append a b)) ∙ get_or-append a b 0 j l

  pub stands_right : (p : ℕ) (a b : List ℕ) → Stands word p (a ++ b) → Stands word (p + length a) b
  stands_right p a b s j l =
      ap word (omega arith) ∙ s (length a + j) (omega (arith, length-append a b)) ∙ get_or-append-add a b j 0

  pub stands_join : (p : ℕ) (a b : List ℕ) → Stands word p a → Stands word (p + length a) b → Stands word p (a ++ b)
  stands_join p a b sa sb j l =
      by_test (ltb j (length a))
      (λ t. sa j (ltb-true _ _ t) ∙ sym (get_or-append a b 0 j (ltb-true _ _ t)))
      (λ t. late (j - length a) (beyond (ltb-false _ _ t)))
    where
      beyond : length a ≤ j → j ≡ length a + (j - length a)
      beyond m = omega arith

      late : (k : ℕ) → j ≡ length a + k → word (p + j) ≡ get_or (a ++ b) j 0
      late k e =
          rw e (ap word (omega arith) ∙ sb k (omega (arith, length-append a b)) ∙ sym (get_or-append-add a b k 0))

  pub stands_tail : (p w : ℕ) (l : List ℕ) → Stands word p (w ∷ l) → Stands word (suc p) l
  stands_tail p w l s j h = ap word (omega arith) ∙ s (suc j) (omega arith)

  -- ---- sums
  sum_front : (n p : ℕ) → sum_from word p (suc n) ≡ word p % 512 + sum_from word (suc p) n
  unfolding sum_from
  sum_front zero p = let e : p + 0 ≡ p = omega arith in rw e (omega arith)
  sum_front (suc n) p =
      let e : p + suc n ≡ suc p + n = omega arith in
      let h = sum_front n p in
      rw e (omega arith)

  pub sum_stands : (l : List ℕ) (p : ℕ) → Stands word p l → sum_from word p (length l) ≡ sum_of l
  unfolding sum_of sum_from
  sum_stands [] p s = refl
  sum_stands (w ∷ l) p s =
      let e : p + 0 ≡ p = omega arith in
      sum_front (length l) p
      ∙ rw (sum_stands l (suc p) (stands_tail p w l s)) (ap (λ (v : ℕ). v % 512 + sum_of l) (ap word (sym e) ∙ s 0 (omega arith)))

-- ---- fill
pub length_fill : (even odd n i : ℕ) → length (fill_from even odd i n) ≡ n
unfolding fill_from
length_fill even odd zero i = refl
length_fill even odd (suc n) i = ap suc (length_fill even odd n (suc i))

pub get_d_fill : (even odd n i j : ℕ) → j < n → get_or (fill_from even odd i n) j 0 ≡ fill_word even odd (i + j)
unfolding fill_from
get_d_fill even odd zero i j l = absurd (omega arith)
get_d_fill even odd (suc n) i zero l = let e : i ≡ i + 0 = omega arith in ap (fill_word even odd) e
get_d_fill even odd (suc n) i (suc j) l = let e : suc i + j ≡ i + suc j = omega arith in get_d_fill even odd n (suc i) j (omega arith) ∙ ap (fill_word even odd) e
