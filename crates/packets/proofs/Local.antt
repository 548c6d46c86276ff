-- The faults of a space, and the answer to it, are those of its own words: two lines with the same words there have the same faults there.
-- Assumes nothing.
use Prim.Native.Nat.{ℕ, zero, suc, ◌+◌, ◌-◌, ◌<◌, ◌≤◌}
use mathlib.Core.Path.{◌≡◌, refl, sym, ap, ◌∙◌}
use mathlib.Core.Bool.{Bool, true, false, cond, ◌&&◌}
use native.Mathlib.Omega.{arith}
use lib.Dec.{ltb, eqb}
use borrow.Author.Tests.{ltb-true, ltb-false, leb-true, leb-false}
use Rattle.refusal.proofs.Cases.{by_test, by_cond}
use Rattle.packets.specs.declared.due.What.TheVariants.{Exactly}
use Rattle.packets.specs.Packet.{fill_word}
use Rattle.packets.specs.Due.{starts_at, size_at, sum_from, due_in, holder_at, due_from, due_at}
use Rattle.std.specs.Prelude.{List, length, take, min, leb}
use Rattle.std.proofs.lemmas.List.{get_or-take, length-take-le}
use Rattle.packets.specs.Fault.{word_at, space_of, fault_at, space_to}
use Rattle.packets.proofs.Froms.{from_same}
use Rattle.packets.proofs.Openings.{started, no_room, by_three}

-- a space holds its holders
pub holder_low : (word : ℕ → ℕ) (start stop k : ℕ) → start ≤ holder_at word start stop k
unfolding holder_at
holder_low word start stop zero = omega arith
holder_low word start stop (suc k) =
    pick (starts_at word stop (holder_at word start stop k) && eqb (start + suc k) (holder_at word start stop k + size_at word (holder_at word start stop k)))
    (start + suc k) (holder_at word start stop k) (omega arith) (holder_low word start stop k)
  where
    pick : (t : Bool) (a b : ℕ) → start ≤ a → start ≤ b → start ≤ cond t a b
    pick true a b l m = l
    pick false a b l m = m

pub holder_high : (word : ℕ → ℕ) (start stop k : ℕ) → holder_at word start stop k ≤ start + k
unfolding holder_at
holder_high word start stop zero = omega arith
holder_high word start stop (suc k) =
    let h = holder_high word start stop k in
    pick (starts_at word stop (holder_at word start stop k) && eqb (start + suc k) (holder_at word start stop k + size_at word (holder_at word start stop k)))
    (start + suc k) (holder_at word start stop k) (omega arith) (omega arith)
  where
    pick : (t : Bool) (a b : ℕ) → a ≤ start + suc k → b ≤ start + suc k → cond t a b ≤ start + suc k
    pick true a b l m = l
    pick false a b l m = m

module _ (u v : ℕ → ℕ) (start stop : ℕ) (same : (j : ℕ) → start ≤ j → j < stop → u j ≡ v j) where
  same_start : (p : ℕ) → start ≤ p → starts_at u stop p ≡ starts_at v stop p
  same_start p l =
      by_test (ltb (p + 6) stop)
      (λ t.
      let r = ltb-true (p + 6) stop t in
      by_three u stop p r
      ∙ rw (same p l (omega arith), same (p + 1) (omega arith) (omega arith), same (p + 2) (omega arith) (omega arith)) (sym (by_three v stop p r)))
      (λ t. let r = ltb-false (p + 6) stop t in no_room u stop p r ∙ sym (no_room v stop p r))

  pub same_holder : (k : ℕ) → holder_at u start stop k ≡ holder_at v start stop k
  unfolding holder_at
  same_holder zero = refl
  same_holder (suc k) =
      let l = holder_low v start stop k in
      rw (same_holder k, same_start (holder_at v start stop k) l) (step (holder_at v start stop k) l (starts_at v stop (holder_at v start stop k)) refl)
    where
      step : (p : ℕ) → start ≤ p → (t : Bool) → starts_at v stop p ≡ t
          → cond (t && eqb (start + suc k) (p + size_at u p)) (start + suc k) p ≡ cond (t && eqb (start + suc k) (p + size_at v p)) (start + suc k) p
      step p l true t =
          rw (same (p + 5) (omega arith) (omega (arith, (started v stop p t).room))) refl
      step p l false t = refl

  same_sum : (p n : ℕ) → start ≤ p → p + n ≤ stop → sum_from u p n ≡ sum_from v p n
  unfolding sum_from
  same_sum p zero l m = refl
  same_sum p (suc n) l m = rw (same_sum p n l (omega arith), same (p + n) (omega arith) (omega arith)) refl

  same_in : (p k : ℕ) → start ≤ p → p + 6 < stop → p + k < stop → due_in u stop p k ≡ due_in v stop p k
  unfolding due_in
  same_in p k l r m =
      by_test (ltb k 3)
      (λ t. rw (same (p + 5) (omega arith) (omega arith)) (simp t))
      (λ t.
      let q = ltb-false k 3 t in
      rw (same (p + 5) (omega arith) (omega arith), same_sum (p + 3) (k - 3) (omega arith) (omega arith)) refl)

  same_due : (even odd i : ℕ) → start ≤ i → i < stop → due_at u start stop even odd i ≡ due_at v start stop even odd i
  unfolding due_at due_from
  same_due even odd i l m =
      let h = holder_low v start stop (i - start) in
      let g = holder_high v start stop (i - start) in
      rw (same_holder (i - start), same_start (holder_at v start stop (i - start)) h)
      (step (holder_at v start stop (i - start)) h (omega arith) (starts_at v stop (holder_at v start stop (i - start))) refl)
    where
      step : (p : ℕ) → start ≤ p → p ≤ i → (t : Bool) → starts_at v stop p ≡ t
          → cond t (due_in u stop p (i - p)) (Exactly (fill_word even odd i)) ≡ cond t (due_in v stop p (i - p)) (Exactly (fill_word even odd i))
      step p l g true t = same_in p (i - p) l (started v stop p t).room (omega arith)
      step p l g false t = refl

  pub same_fault : (even odd i : ℕ) → start ≤ i → i < stop → fault_at u start stop even odd i ≡ fault_at v start stop even odd i
  unfolding fault_at
  same_fault even odd i l m = rw (same_due even odd i l m, same i l m) refl

  -- so the whole answer to a space is that of its own words
  pub same_space : (even odd : ℕ) → space_to u start stop even odd ≡ space_to v start stop even odd
  unfolding space_to
  same_space even odd =
      rw (from_same (fault_at u start stop even odd) (fault_at v start stop even odd) (stop - start) start (λ j l m. same_fault even odd j l (omega arith)))
      (simp same_holder)

-- the words behind a space do not matter
pub space_taken : (words : List ℕ) (start stop end even odd : ℕ) → stop ≡ min end (length words)
    → space_to (word_at (take stop words)) start (length (take stop words)) even odd ≡ space_of words start end even odd
space_taken words start stop end even odd e =
    rw (length-take-le stop words (omega (arith, e)))
    (same_space (word_at (take stop words)) (word_at words) start stop (λ j _ m. get_or-take stop words j 0 m) even odd
    ∙ ap (λ (n : ℕ). space_to (word_at words) start n even odd)
    (by_cond (λ (n : ℕ). stop ≡ n) (leb end (length words)) end (length words) (λ t. omega (arith, e, leb-true _ _ t)) (λ t. omega (arith, e, leb-false _ _ t))))
