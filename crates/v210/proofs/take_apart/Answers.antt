-- `v210::take_apart` meets its contract. The loop's invariant: the samples of each word passed are in their places. Assumes nothing.
use Prim.Native.Nat.{ℕ, ◌+◌, ◌*◌, ◌/◌, ◌%◌, ◌<◌}
use mathlib.Core.Path.{◌≡◌, sym, ap, ◌∙◌}
use mathlib.Core.List.{List}
use native.Mathlib.Omega.{arith}
use lib.ListN.{set, length-set}
use Rattle.line.specs.Samples.{active_length}
use Rattle.words.proofs.Tabs.{is_tab}
use Rattle.v210.specs.Row.{row_words, row_word, ten_bits, row_sample, unpacked_of}
use Rattle.v210.proofs.Places.{sample_at}
use Rattle.words.proofs.Stores.{store_more}
use Rattle.v210.proofs.take_apart.Invariants.{Taken}
use Rattle.v210.proofs.take_apart.Goals as goal

-- three samples more
three_more : (row samples : List ℕ) (k word first second third : ℕ) → k < row_words → Taken row samples k → word ≡ row_word row k
    → first ≡ word % 1024 → second ≡ word / 1024 % 1024 → third ≡ word / 1048576 % 1024
    → Taken row (set (set (set samples (3 * k) first) (3 * k + 1) second) (3 * k + 2) third) (k + 1)
three_more row samples k word first second third l t w a b c =
    let one = set samples (3 * k) first in
    let two = set one (3 * k + 1) second in
    let start : 3 * k + 0 ≡ 3 * k = omega arith in
    let at : (n : ℕ) → n < 3 → row_sample row (3 * k + n) ≡ ten_bits word n =
    λ n h. sample_at row k n h ∙ ap (λ (v : ℕ). ten_bits v n) (sym w) in
    record {
      within = omega arith;
      long = simp length-set t.long;
      taken = λ j h.
          store_more (row_sample row) two (3 * k + 2) third (simp length-set (omega (arith, t.long)))
          (λ i less.
          store_more (row_sample row) one (3 * k + 1) second (simp length-set (omega (arith, t.long)))
          (store_more (row_sample row) samples (3 * k) first (omega (arith, t.long)) t.taken
          (a ∙ sym (at 0 (omega arith)) ∙ ap (row_sample row) start))
          (b ∙ sym (at 1 (omega arith))) i (omega arith))
          (c ∙ sym (at 2 (omega arith))) j (omega arith);
    }

pub loop-k-preserved : goal.loop-k-preserved
loop-k-preserved c =
    three_more c.args.row.now c.loop-k.samples c.loop-k.k c.word_at-word.result _ _ _
    c.loop-k-test.true c.loop-k.invariant c.word_at-word.ensures c.ten_bits.ensures c.ten_bits-in-loop-k.ensures c.ten_bits-in-loop-k-2.ensures

pub returns : goal.returns
unfolding unpacked_of
returns c =
    let l = c.loop-k in
    is_tab _ active_length l.samples l.invariant.long (λ j h. l.invariant.taken j (omega arith))
