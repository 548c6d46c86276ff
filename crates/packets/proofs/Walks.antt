-- The walk over a space, word by word: the packet or fill that holds an offset, the sum so far, and the answer. Assumes nothing.
use Prim.Native.Nat.{ℕ, suc, ◌+◌, ◌-◌, ◌%◌, ◌<◌, ◌≤◌}
use mathlib.Core.Path.{◌≡◌, refl, sym, ap, ◌∙◌}
use mathlib.Core.List.{List}
use mathlib.Core.Bool.{cond, ◌&&◌}
use native.Mathlib.Omega.{arith}
use lib.Dec.{eqb}
use borrow.Author.Tests.{ne_eqb, eqb-true, eqb-false}
use Rattle.refusal.proofs.Cases.{by_test, by_cond}
use Rattle.packets.specs.declared.due.What.{What}
use Rattle.packets.specs.declared.due.Holder.{Holder}
use Rattle.packets.specs.Due.{starts_at, size_at, sum_from, holder_at, due_from, due_at}
use Rattle.packets.specs.Fault.{fault_where, word_at, fault_at, space_to}
use Rattle.packets.specs.Passes.{Summed}
use Rattle.packets.proofs.Froms.{Clear, from_none, from_at, from_back}

-- ---- what holds an offset, with its sum: from where it starts, and one word on
pub summed_start : (word : ℕ → ℕ) (i : ℕ) → Summed word (record { start = i; sum = 0 }) i
unfolding sum_from
summed_start word i =
    let n : i - i - 3 ≡ 0 = omega arith in
    (omega arith, simp n)

pub summed_few : (word : ℕ → ℕ) (holder : Holder) (i : ℕ) → i - holder.start < 3 → Summed word holder i → Summed word holder (i + 1)
summed_few word holder i h s =
    let n : i + 1 - holder.start - 3 ≡ i - holder.start - 3 = omega arith in
    (omega (arith, s.0), rw n s.1)

pub summed_more : (word : ℕ → ℕ) (holder : Holder) (i : ℕ) → 3 ≤ i - holder.start → Summed word holder i
    → Summed word (record { start = holder.start; sum = (holder.sum + word i % 512) % 512 }) (i + 1)
unfolding sum_from
summed_more word holder i h s =
    let p = holder.start in
    let n : i + 1 - p - 3 ≡ suc (i - p - 3) = omega arith in
    let q : p + 3 + (i - p - 3) ≡ i = omega arith in
    (omega (arith, s.0), rw (n, q) (omega (arith, s.1)))

module _ (word : ℕ → ℕ) (start stop : ℕ) where
  -- ---- what holds an offset, one word on
  pub holder_step : (k i : ℕ) → i ≡ start + suc k
      → holder_at word start stop (suc k)
      ≡ cond (starts_at word stop (holder_at word start stop k) && eqb i (holder_at word start stop k + size_at word (holder_at word start stop k)))
      i (holder_at word start stop k)
  unfolding holder_at
  holder_step k i e = rw e refl

  module _ (even odd : ℕ) where
    abbrev pub Quiet : ℕ → Type 0
    Quiet n = Clear (fault_at word start stop even odd) start n

    -- ---- the answer
    pub space_none : Quiet stop → space_to word start stop even odd ≡ record { number = 0; place = 0; packets = holder_at word start stop (stop - start) - start }
    unfolding space_to
    space_none h = rw (from_none (fault_at word start stop even odd) (stop - start) start (λ j l m. h j l (omega arith)))

    pub space_at : (i : ℕ) → start ≤ i → i < stop → Quiet i → (fault_at word start stop even odd i ≡ 0 → ⊥)
        → space_to word start stop even odd ≡ record { number = fault_at word start stop even odd i; place = i; packets = 0 }
    unfolding space_to
    space_at i l m h b =
        rw (from_at (fault_at word start stop even odd) (stop - start) start i l (omega arith) h b) (simp (ne_eqb _ _ b))

    pub space_back : (space_to word start stop even odd).number ≡ 0 → Quiet stop
    unfolding space_to
    space_back e j l m = from_back (fault_at word start stop even odd) (stop - start) start e j l (omega arith)

-- ---- what the loop keeps: what holds the offset, with its sum, and that nothing was wrong
pub record Walked (words : List ℕ) (start stop even odd : ℕ) (holder : Holder) (i : ℕ) : Type 0 where
  pub from : start ≤ holder.start
  pub within : i - start ≤ stop - start
  pub holds : holder.start ≡ holder_at (word_at words) start stop (i - start)
  pub summed : Summed (word_at words) holder i
  pub quiet : Quiet (word_at words) start stop even odd i

module _ (words : List ℕ) (start stop even odd : ℕ) where
  -- the loop begins
  pub walked_start : Walked words start stop even odd (record { start = start; sum = 0 }) start
  unfolding holder_at
  walked_start =
      let n : start - start ≡ 0 = omega arith in
      record {
        from = omega arith;
        within = omega arith;
        holds = simp n;
        summed = summed_start (word_at words) start;
        quiet = λ j l m. absurd (omega arith);
      }

  module _ (holder : Holder) (i : ℕ) (w : Walked words start stop even odd holder i) where
    -- what is found wrong at the offset
    pub walked_fault : (due : What) (number : ℕ) → due ≡ due_from (word_at words) stop even odd holder.start i
        → number ≡ fault_where due (word_at words i) → number ≡ fault_at (word_at words) start stop even odd i
    unfolding fault_at due_at
    walked_fault due number d n =
        n ∙ ap (λ (t : What). fault_where t (word_at words i)) (d ∙ ap (λ (q : ℕ). due_from (word_at words) stop even odd q i) w.holds)

    module _ (l : i < stop) where
      pub walked_at : (number : ℕ) → number ≡ fault_at (word_at words) start stop even odd i → (number ≡ 0 → ⊥)
          → record { number = number; place = i; packets = 0 } ≡ space_to (word_at words) start stop even odd
      walked_at number e b =
          let s = w.summed in
          rw e (sym (space_at (word_at words) start stop even odd i (omega arith) l w.quiet (λ z. b (e ∙ z))))

      -- the loop goes on
      module _ (e : fault_at (word_at words) start stop even odd i ≡ 0) where
        quiet_next : Quiet (word_at words) start stop even odd (i + 1)
        quiet_next j q m =
            by_test (eqb j i) (λ t. ap (fault_at (word_at words) start stop even odd) (eqb-true _ _ t) ∙ e)
            (λ t. w.quiet j q (below j m (eqb-false _ _ t)))
          where
            below : (j : ℕ) → j < i + 1 → (j ≡ i → ⊥) → j < i
            below j m ne = omega arith

        pub walked_on : (next : Holder)
            → next.start ≡ cond (starts_at (word_at words) stop holder.start && eqb (i + 1) (holder.start + size_at (word_at words) holder.start)) (i + 1) holder.start
            → Summed (word_at words) next (i + 1) → Walked words start stop even odd next (i + 1)
        walked_on next s m =
            let n : i + 1 - start ≡ suc (i - start) = omega (arith, w.summed.0, w.from) in
            record {
              from = rw s (by_cond (λ (q : ℕ). start ≤ q) (starts_at (word_at words) stop holder.start && eqb (i + 1) (holder.start + size_at (word_at words) holder.start)) (i + 1) holder.start (λ _. omega (arith, w.summed.0, w.from)) (λ _. w.from));
              within = omega arith;
              holds = s ∙ rw (n, w.holds) (sym (holder_step (word_at words) start stop (i - start) (i + 1) (omega (arith, w.summed.0, w.from))));
              summed = m;
              quiet = quiet_next;
            }

    -- the loop ends
    pub walked_end : stop ≤ i → record { number = 0; place = 0; packets = holder.start - start } ≡ space_to (word_at words) start stop even odd
    walked_end l =
        let n : stop - start ≡ i - start = omega arith in
        sym (space_none (word_at words) start stop even odd (λ j q m. w.quiet j q (omega arith))
        ∙ rw n (rw (← w.holds) refl))
