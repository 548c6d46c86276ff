-- `writer::ready::lay` meets its contract, word by word: each store keeps all other words. Assumes nothing.
use Prim.Native.Nat.{ℕ, ◌+◌, ◌-◌}
use mathlib.Core.Path.{◌≡◌, refl, ap}
use native.Mathlib.Omega.{arith}
use lib.ListN.{get_or}
use Rattle.writer.specs.Passes.{part_word}
use Rattle.writer.proofs.Puts.{put_none, put_store, behind_store, put_laid}
use Rattle.writer.proofs.ready.lay.Goals as goal

pub loop-k-init : goal.loop-k-init
loop-k-init c = (omega arith, omega arith, put_none _ _ _ _ (omega arith), λ i g. refl)

pub bounds-words-from : goal.bounds-words-from
bounds-words-from c = omega (arith, c.loop-k.invariant.2.size)

pub loop-k-preserved : goal.loop-k-preserved
loop-k-preserved c =
    let a = c.args in
    let k = c.loop-k.k in
    let back : a.from + k - a.from ≡ k = omega arith in (
      omega arith,
      omega arith,
      put_store (part_word a.ready.now a.from) a.from a.words.now (a.from + k) (a.from + (k + 1)) _ c.loop-k.words c.loop-k.invariant.2
          (omega arith) (omega arith) (omega arith) (ap (λ (n : ℕ). get_or a.ready.now n 0) (omega (arith, back))),
      behind_store a.words.now c.loop-k.words (a.from + k) (a.from + (k + 1)) _ c.loop-k.invariant.3 (omega arith),
    )

pub returns : goal.returns
returns c = put_laid _ _ _ _ _ (omega arith) c.loop-k.invariant.2 c.loop-k.invariant.3
