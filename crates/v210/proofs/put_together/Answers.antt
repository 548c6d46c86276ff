-- `v210::put_together` meets its contract. The loop's invariant: the bytes of each word passed are in their places. Assumes nothing.
use Prim.Native.Nat.{ℕ, ◌+◌, ◌*◌, ◌/◌, ◌%◌, ◌<◌}
use mathlib.Core.Path.{◌≡◌, sym, ap, ◌∙◌}
use mathlib.Core.List.{List}
use native.Mathlib.Omega.{arith}
use lib.ListN.{get_or, set, length-set}
use Rattle.words.proofs.Tabs.{is_tab}
use Rattle.v210.specs.Row.{row_length, row_words, samples_word, eight_bits, row_byte, packed_of}
use Rattle.v210.proofs.Places.{byte_at}
use Rattle.words.proofs.Stores.{store_more}
use Rattle.v210.proofs.put_together.Invariants.{Put}
use Rattle.v210.proofs.put_together.Goals as goal

-- four bytes more
four_more : (samples row : List ℕ) (k word first second third fourth : ℕ) → k < row_words → Put samples row k → word ≡ samples_word samples k
    → first ≡ word % 256 → second ≡ word / 256 % 256 → third ≡ word / 65536 % 256 → fourth ≡ word / 16777216 % 256
    → Put samples (set (set (set (set row (4 * k) first) (4 * k + 1) second) (4 * k + 2) third) (4 * k + 3) fourth) (k + 1)
four_more samples row k word first second third fourth l p w a b c d =
    let one = set row (4 * k) first in
    let two = set one (4 * k + 1) second in
    let three = set two (4 * k + 2) third in
    let start : 4 * k + 0 ≡ 4 * k = omega arith in
    let at : (n : ℕ) → n < 4 → row_byte samples (4 * k + n) ≡ eight_bits word n =
    λ n h. byte_at samples k n h ∙ ap (λ (v : ℕ). eight_bits v n) (sym w) in
    record {
      within = omega arith;
      long = simp length-set p.long;
      bytes = λ j h.
          store_more (row_byte samples) three (4 * k + 3) fourth (simp length-set (omega (arith, p.long)))
          (λ i₃ less₃.
          store_more (row_byte samples) two (4 * k + 2) third (simp length-set (omega (arith, p.long)))
          (λ i₂ less₂.
          store_more (row_byte samples) one (4 * k + 1) second (simp length-set (omega (arith, p.long)))
          (store_more (row_byte samples) row (4 * k) first (omega (arith, p.long)) p.bytes
          (a ∙ sym (at 0 (omega arith)) ∙ ap (row_byte samples) start))
          (b ∙ sym (at 1 (omega arith))) i₂ (omega arith))
          (c ∙ sym (at 2 (omega arith))) i₃ (omega arith))
          (d ∙ sym (at 3 (omega arith))) j (omega arith);
    }

pub loop-k-preserved : goal.loop-k-preserved
loop-k-preserved c =
    let byte : (i : ℕ) → _ = λ i. ap (λ (bytes : List ℕ). get_or bytes i 0) c.to_le_bytes.ensures in
    four_more c.args.samples.now c.loop-k.row c.loop-k.k c.word_of-word.result _ _ _ _ c.loop-k-test.true c.loop-k.invariant
    c.word_of-word.ensures (byte 0) (byte 1) (byte 2) (byte 3)

pub returns : goal.returns
unfolding packed_of
returns c =
    let l = c.loop-k in
    is_tab _ row_length l.row l.invariant.long (λ j h. l.invariant.bytes j (omega arith))
