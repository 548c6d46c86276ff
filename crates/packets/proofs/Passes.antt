-- What the quick pass keeps: fill by pairs and one word more, a packet by its tests, and packet after packet from the start of the space.
-- Assumes nothing.
use Prim.Native.Nat.{ℕ, zero, suc, ◌+◌, ◌-◌, ◌*◌, ◌/◌, ◌%◌, ◌<◌, ◌≤◌}
use mathlib.Core.Path.{◌≡◌, refl, ap, subst, ◌∙◌}
use mathlib.Core.Bool.{Bool, true, false, cond}
use native.Mathlib.Omega.{arith}
use lib.Dec.{ltb, eqb}
use borrow.Author.Tests.{ltb-true, ltb-false, eqb-true, eqb-false}
use Rattle.refusal.proofs.Cases.{by_test, by_cond}
use Rattle.words.specs.Words.{most_word}
use Rattle.words.specs.Passes.{Filled, Sampled}
use Rattle.packets.specs.Packet.{header_of, checksum_of, fill_word}
use Rattle.packets.specs.Due.{starts_at, count_at, size_at, sum_from, due_in, holder_at, due_at}
use Rattle.packets.specs.Fault.{fault_where, fault_at}
use Rattle.packets.specs.Passes.{PacketWell, Passed}
use Rattle.packets.proofs.Openings.{started}
use Rattle.packets.proofs.Walks.{Quiet, space_none}
use Rattle.packets.proofs.Shifts.{holder_fill, due_fill, holder_after, due_in_is, due_after, user_due, checksum_due}
use Rattle.packets.proofs.Numbers.{exactly_well, checksum_well, header_well, count_well, user_well}

-- ---- fill: pairs of words from an offset, and where an odd number of words is left the last one
module _ (word : ℕ → ℕ) (from stop even odd : ℕ)
    (pairs : Filled (fill_word even odd from) (fill_word even odd (from + 1)) (λ k. word (from + k)) ((stop - from) / 2))
    (last : (stop - from) % 2 ≡ 1 → word (stop - 1) ≡ fill_word even odd from) where
  -- fill is the same at two offsets of one parity
  alike : (i j : ℕ) → i % 2 ≡ j % 2 → fill_word even odd i ≡ fill_word even odd j
  alike i j e = ap (λ (r : ℕ). cond (eqb r 0) even odd) e

  even_place : (i : ℕ) → from ≤ i → i < stop → (i - from) % 2 ≡ 0 → word i ≡ fill_word even odd i
  even_place i l m z =
      let f : fill_word even odd from ≡ fill_word even odd i = alike from i (omega arith) in
      by_test (ltb ((i - from) / 2) ((stop - from) / 2))
      (λ t.
      let e : i ≡ from + 2 * ((i - from) / 2) = omega arith in
      ap word e ∙ (pairs ((i - from) / 2) (ltb-true _ _ t)).0 ∙ f)
      (λ t.
      let k = ltb-false ((i - from) / 2) ((stop - from) / 2) t in
      let e : i ≡ stop - 1 = omega arith in
      ap word e ∙ last (omega arith) ∙ f)

  odd_place : (i : ℕ) → from ≤ i → i < stop → ((i - from) % 2 ≡ 0 → ⊥) → word i ≡ fill_word even odd i
  odd_place i l m n =
      let e : i ≡ from + (2 * ((i - from) / 2) + 1) = omega arith in
      let f : fill_word even odd (from + 1) ≡ fill_word even odd i = alike (from + 1) i (omega arith) in
      ap word e ∙ (pairs ((i - from) / 2) (omega arith)).1 ∙ f

  pub all_filled : (i : ℕ) → from ≤ i → i < stop → word i ≡ fill_word even odd i
  all_filled i l m =
      by_test (eqb ((i - from) % 2) 0) (λ t. even_place i l m (eqb-true _ _ t)) (λ t. odd_place i l m (eqb-false _ _ t))

-- ---- a packet: its header words, its user words and its checksum
module _ (word : ℕ → ℕ) (stop p : ℕ) (room : p + 6 < stop) (fits : count_at word p ≤ stop - (p + 7))
    (did : word (p + 3) ≡ header_of (word (p + 3) % 256)) (second : word (p + 4) ≡ header_of (word (p + 4) % 256))
    (count : word (p + 5) ≡ header_of (count_at word p)) (users : Sampled (λ k. word (p + 6 + k)) (count_at word p))
    (sum : word (p + 6 + count_at word p) ≡ checksum_of (sum_from word (p + 3) (3 + count_at word p))) where
  word_well : (j : ℕ) → 3 ≤ j → j < size_at word p → fault_where (due_in word stop p j) (word (p + j)) ≡ 0
  unfolding due_in
  word_well zero l m = absurd (omega arith)
  word_well (suc zero) l m = absurd (omega arith)
  word_well (suc (suc zero)) l m = absurd (omega arith)
  word_well (suc (suc (suc zero))) l m = header_well (word (p + 3) % 256) _ (omega arith) did
  word_well (suc (suc (suc (suc zero)))) l m = header_well (word (p + 4) % 256) _ (omega arith) second
  word_well (suc (suc (suc (suc (suc zero))))) l m = count_well (stop - (p + 7)) (count_at word p) _ (omega arith) fits count
  word_well (suc (suc (suc (suc (suc (suc j)))))) l m = late (ltb j (count_at word p)) refl
    where
      n : suc (suc (suc (suc (suc (suc j))))) ≡ 6 + j
      n = omega arith

      place : p + (6 + j) ≡ p + 6 + j
      place = omega arith

      late : (t : Bool) → ltb j (count_at word p) ≡ t
          → fault_where (due_in word stop p (suc (suc (suc (suc (suc (suc j))))))) (word (p + suc (suc (suc (suc (suc (suc j))))))) ≡ 0
      late true t =
          let u = ltb-true j (count_at word p) t in
          rw (n, place) (rw (user_due word stop p j u) (user_well _ (users j u).0 (users j u).1))
      late false t =
          let e : j ≡ count_at word p = omega (arith, ltb-false j (count_at word p) t) in
          rw (n, place) (rw e (rw (checksum_due word stop p) (checksum_well _ _ sum)))

  pub packet_well : PacketWell word stop p
  packet_well = record { fits = omega arith; well = word_well }

-- ---- packet after packet: what the loop keeps where the next packet, or the fill, starts at p
pub record Passing (word : ℕ → ℕ) (start stop even odd p : ℕ) : Type 0 where
  pub from : start ≤ p
  pub to : p ≤ stop
  pub quiet : Quiet word start stop even odd p
  pub onward : (i : ℕ) → p ≤ i → due_at word start stop even odd i ≡ due_at word p stop even odd i
  pub holds : (k : ℕ) → holder_at word start stop (p - start + k) ≡ holder_at word p stop k

module _ (word : ℕ → ℕ) (start stop even odd : ℕ) where
  pub passing_start : start ≤ stop → Passing word start stop even odd start
  passing_start l =
      record {
        from = omega arith;
        to = l;
        quiet = λ j m n. absurd (omega arith);
        onward = λ i m. refl;
        holds = λ k. let e : start - start + k ≡ k = omega arith in ap (holder_at word start stop) e;
      }

  module _ (p : ℕ) (w : Passing word start stop even odd p) where
    -- what is wrong behind p is what is wrong with the rest by itself
    rest : (j : ℕ) → p ≤ j → fault_at word p stop even odd j ≡ 0 → fault_at word start stop even odd j ≡ 0
    unfolding fault_at
    rest j l e = rw (w.onward j l) e

    -- one packet more
    module _ (t : starts_at word stop p ≡ true) (k : PacketWell word stop p) where
      in_packet : (j : ℕ) → j < size_at word p → fault_where (due_in word stop p j) (word (p + j)) ≡ 0
      unfolding due_in
      in_packet zero l = exactly_well 0 _ (omega arith) (let e : p + 0 ≡ p = omega arith in ap word e ∙ (started word stop p t).first)
      in_packet (suc zero) l = exactly_well most_word _ (omega arith) (started word stop p t).second
      in_packet (suc (suc zero)) l = exactly_well most_word _ (omega arith) (started word stop p t).third
      in_packet (suc (suc (suc j))) l = k.well (suc (suc (suc j))) (omega arith) l

      packet_quiet : (j : ℕ) → p ≤ j → j < p + size_at word p → fault_at word p stop even odd j ≡ 0
      unfolding fault_at
      packet_quiet j l m =
          let e : p + (j - p) ≡ j = omega arith in
          let d = due_in_is word p stop t even odd (j - p) (omega arith) in
          let f = in_packet (j - p) (omega arith) in
          subst (λ (i : ℕ). fault_where (due_at word p stop even odd i) (word i) ≡ 0) e (rw d f)

      pub passing_on : Passing word start stop even odd (p + size_at word p)
      passing_on =
          let low = w.from in
          record {
            from = omega arith;
            to = k.fits;
            quiet = λ j l m.
                by_test (ltb j p) (λ u. w.quiet j l (ltb-true _ _ u))
                (λ u. rest j (ltb-false _ _ u) (packet_quiet j (ltb-false _ _ u) m));
            onward = λ i l. w.onward i (omega arith) ∙ due_after word p stop t even odd i l;
            holds = λ j.
                let e : p + size_at word p - start + j ≡ p - start + (size_at word p + j) = omega arith in
                ap (holder_at word start stop) e ∙ w.holds (size_at word p + j) ∙ holder_after word p stop t j;
          }

    -- fill to the end
    module _ (f : starts_at word stop p ≡ false) (he : even ≤ most_word) (ho : odd ≤ most_word)
        (fill : (i : ℕ) → p ≤ i → i < stop → word i ≡ fill_word even odd i) where
      fill_quiet : (j : ℕ) → p ≤ j → j < stop → fault_at word p stop even odd j ≡ 0
      unfolding fault_at
      fill_quiet j l m =
          rw (due_fill word p stop f even odd j)
          (exactly_well (fill_word even odd j) _
          (by_cond (λ (n : ℕ). n ≤ most_word) (eqb (j % 2) 0) even odd (λ t. he) (λ t. ho)) (fill j l m))

      pub passing_end : Passed word start stop even odd (p - start)
      passing_end =
          let low = w.from in
          let high = w.to in
          let e : stop - start ≡ p - start + (stop - p) = omega arith in
          space_none word start stop even odd
          (λ j l m.
          by_test (ltb j p) (λ u. w.quiet j l (ltb-true _ _ u)) (λ u. rest j (ltb-false _ _ u) (fill_quiet j (ltb-false _ _ u) m)))
          ∙ ap (λ (n : ℕ). record { number = 0; place = 0; packets = n - start })
          (ap (holder_at word start stop) e ∙ w.holds (stop - p) ∙ holder_fill word p stop f (stop - p))
