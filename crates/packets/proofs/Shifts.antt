-- What holds an offset and what is due there, packet by packet. Assumes nothing.
use Prim.Native.Nat.{ℕ, zero, suc, ◌+◌, ◌-◌, ◌<◌, ◌≤◌}
use mathlib.Core.Path.{◌≡◌, refl, ap, ◌∙◌}
use mathlib.Core.Bool.{true, false}
use native.Mathlib.Omega.{arith}
use borrow.Author.Tests.{lt-ltb, le-ltb, eq-eqb, ne_eqb}
use Rattle.packets.specs.declared.due.What.TheVariants.{Exactly, User, Checksum}
use Rattle.packets.specs.Packet.{checksum_of, fill_word}
use Rattle.packets.specs.Due.{starts_at, count_at, size_at, sum_from, due_in, holder_at, due_from, due_at}

module _ (word : ℕ → ℕ) (start stop : ℕ) where
  -- ---- fill to the end
  module _ (f : starts_at word stop start ≡ false) where
    pub holder_fill : (k : ℕ) → holder_at word start stop k ≡ start
    unfolding holder_at
    holder_fill zero = refl
    holder_fill (suc k) = rw (holder_fill k) (simp f)

    pub due_fill : (even odd i : ℕ) → due_at word start stop even odd i ≡ Exactly (fill_word even odd i)
    unfolding due_at due_from
    due_fill even odd i = rw (holder_fill (i - start)) (simp f)

  -- ---- a packet, and what comes after it
  module _ (t : starts_at word stop start ≡ true) where
    pub holder_in : (k : ℕ) → k < size_at word start → holder_at word start stop k ≡ start
    unfolding holder_at
    holder_in zero l = refl
    holder_in (suc k) l =
        let ne : (start + suc k ≡ start + size_at word start → ⊥) = λ e. omega arith in
        rw (holder_in k (omega arith)) (simp (t, ne_eqb _ _ ne))

    pub holder_end : holder_at word start stop (size_at word start) ≡ start + size_at word start
    unfolding holder_at
    holder_end =
        let n : size_at word start ≡ suc (6 + count_at word start) = omega arith in
        let e : start + suc (6 + count_at word start) ≡ start + size_at word start = omega arith in
        rw n (rw (holder_in (6 + count_at word start) (omega arith)) (simp (t, eq-eqb _ _ e)))

    pub holder_after : (k : ℕ) → holder_at word start stop (size_at word start + k) ≡ holder_at word (start + size_at word start) stop k
    unfolding holder_at
    holder_after zero =
        let e : size_at word start + 0 ≡ size_at word start = omega arith in ap (holder_at word start stop) e ∙ holder_end
    holder_after (suc k) =
        let n : size_at word start + suc k ≡ suc (size_at word start + k) = omega arith in
        let e : start + suc (size_at word start + k) ≡ start + size_at word start + suc k = omega arith in
        rw n (rw (holder_after k, e) refl)

    module _ (even odd : ℕ) where
      pub due_in_is : (k : ℕ) → k < size_at word start → due_at word start stop even odd (start + k) ≡ due_in word stop start k
      unfolding due_at due_from
      due_in_is k l =
          let n : start + k - start ≡ k = omega arith in
          rw n (rw (holder_in k l) (rw n (simp t)))

      pub due_after : (i : ℕ) → start + size_at word start ≤ i
          → due_at word start stop even odd i ≡ due_at word (start + size_at word start) stop even odd i
      unfolding due_at
      due_after i l =
          let n : i - start ≡ size_at word start + (i - (start + size_at word start)) = omega arith in
          rw n (rw (holder_after (i - (start + size_at word start))) refl)

-- ---- the words of a packet
module _ (word : ℕ → ℕ) (stop p : ℕ) where
  pub user_due : (j : ℕ) → j < count_at word p → due_in word stop p (6 + j) ≡ User
  unfolding due_in
  user_due j l =
      let a : (6 + j ≡ 0 → ⊥) = λ e. omega arith in
      let b : 3 ≤ 6 + j = omega arith in
      let c : 5 ≤ 6 + j = omega arith in
      let d : (6 + j ≡ 5 → ⊥) = λ e. omega arith in
      let e : 6 + j < 6 + count_at word p = omega arith in
      simp (ne_eqb _ _ a, le-ltb _ _ b, le-ltb _ _ c, ne_eqb _ _ d, lt-ltb _ _ e)

  pub checksum_due : due_in word stop p (6 + count_at word p) ≡ Checksum (checksum_of (sum_from word (p + 3) (3 + count_at word p)))
  unfolding due_in
  checksum_due =
      let n : ℕ = count_at word p in
      let a : (6 + n ≡ 0 → ⊥) = λ e. omega arith in
      let b : 3 ≤ 6 + n = omega arith in
      let c : 5 ≤ 6 + n = omega arith in
      let d : (6 + n ≡ 5 → ⊥) = λ e. omega arith in
      let e : 6 + n ≤ 6 + n = omega arith in
      let f : 6 + n - 3 ≡ 3 + n = omega arith in
      simp (ne_eqb _ _ a, le-ltb _ _ b, le-ltb _ _ c, ne_eqb _ _ d, le-ltb _ _ e, f)
