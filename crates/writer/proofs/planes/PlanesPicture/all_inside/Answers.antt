-- `writer::planes::all_inside` meets its contract: every word passed lies between the lowest and the highest so far. Assumes nothing.
use Prim.Native.Nat.{ℕ, ◌-◌, ◌<◌}
use mathlib.Core.Path.{◌≡◌, subst}
use mathlib.Core.Bool.{true, ◌&&◌}
use native.Mathlib.Omega.{arith}
use lib.Dec.{eqb, ltb}
use lib.ListN.{get_or}
use borrow.Author.Count.{below_more}
use borrow.Author.Tests.{eqb-true, ltb-true, ltb-false}
use Rattle.refusal.proofs.Cases.{by_test, and_true}
use Rattle.words.specs.Words.{least_sample, most_sample}
use Rattle.line.specs.Samples.{Samples, y_length, c_length}
use Rattle.line.specs.Fit.{Inside}
use Rattle.writer.proofs.Places.{each_place}
use Rattle.writer.proofs.planes.PlanesPicture.all_inside.Invariants.{Within, Turn}
use Rattle.writer.proofs.planes.PlanesPicture.all_inside.Goals as goal

module _ (p : Samples) (half lowest highest : ℕ) (e : half ≡ c_length) (kept : (eqb lowest least_sample && eqb highest most_sample) ≡ true)
    (turns : (k : ℕ) → k < half → Turn p half lowest highest k)
  where
    -- the lowest and the highest are the least and the most sample, so what lies between is a sample
    sample : (w : ℕ) → Within lowest highest w → Within least_sample most_sample w
    sample w h =
        let both = and_true (eqb lowest least_sample) (eqb highest most_sample) kept in
        omega (arith, eqb-true lowest least_sample both.0, eqb-true highest most_sample both.1)

    -- the halves of Y are all of Y
    luma : (k : ℕ) → k < y_length → Within least_sample most_sample (get_or p.y k 0)
    luma k l =
        by_test (ltb k half) (λ t. sample _ (turns k (ltb-true _ _ t)).left)
        (λ f.
        let past = ltb-false k half f in
        subst (λ (n : ℕ). Within least_sample most_sample (get_or p.y n 0)) (omega arith) (sample _ (turns (k - half) (omega arith)).right))

    all_inside : Inside p
    all_inside =
        each_place p (Within least_sample most_sample) luma
        (λ k l. sample _ (turns k (omega arith)).blue) (λ k l. sample _ (turns k (omega arith)).red)

pub loop-k-preserved : goal.loop-k-preserved
loop-k-preserved c = below_more _ _ (λ j l. omega (arith, c.loop-k.invariant j l)) (omega arith)

pub returns : goal.returns
returns c =
    let at = c.loop-k in
    λ kept. all_inside _ _ at.lowest at.highest c.args.self.now.measured.cb kept (λ k l. at.invariant k (omega arith))
