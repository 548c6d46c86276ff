-- `writer::picture::sample_refusal` meets its contract: where the quick pass finds samples only, the search would find no place, and the search
-- passes no place that is outside. Assumes nothing.
use Prim.Native.Nat.{ℕ}
use mathlib.Core.Path.{◌≡◌, sym, ap, ◌∙◌}
use mathlib.Core.Bool.{Bool, cond, ◌||◌}
use native.Mathlib.Omega.{arith}
use lib.Dec.{ltb}
use borrow.Author.Count.{below_more}
use Rattle.refusal.specs.Numbers.{outside}
use Rattle.refusal.specs.Reasons.{numbered}
use Rattle.refusal.proofs.Firsts.{first_none, first_at}
use Rattle.words.specs.Words.{least_sample, most_sample}
use Rattle.line.specs.Samples.{Samples, active_length, sample_at}
use Rattle.writer.specs.Write.{outside_at}
use Rattle.writer.proofs.Places.{samples_blank, samples_picture, inside_accepted}
use Rattle.writer.proofs.picture.sample_refusal.Goals as goal
use Rattle.writer.proofs.picture.sample_refusal.Goals.{then-due-via-then-due, then-due-via-else-due+then-all_inside}

-- what the test of a sample says of its place
test_at : (p : Samples) (place w : ℕ) {t u : Bool} → w ≡ sample_at p place → t ≡ (ltb w least_sample || ltb most_sample w) → t ≡ u
    → outside_at p place ≡ cond u outside 0
test_at p place w e f g =
    ap (λ (b : Bool). cond b outside 0) (ap (λ (n : ℕ). ltb n least_sample || ltb most_sample n) (sym e) ∙ sym f ∙ g)

pub returns-then-due : goal.returns-then-due
returns-then-due g c =
    sym
    (elim c.then-due.branch [
      | then-due-via-then-due w ↦ samples_blank _ _ w.if-due.true
      | then-due-via-else-due+then-all_inside w ↦ inside_accepted _ _ (λ v. w.all_inside.ensures w.if-all_inside.true)
    ])

pub returns-then-reserved : goal.returns-then-reserved
returns-then-reserved g c =
    let p = g.P.Picture.samples c.args.picture.now in
    let place = c.loop-place.place in
    let bad = test_at p place _ c.at.ensures c.reserved.ensures c.if-reserved.true in
    ap numbered c.at-then-reserved.ensures ∙ ap (λ (n : ℕ). record { number = n; place = place }) (sym bad)
    ∙ sym (first_at (outside_at p) active_length place (omega arith) c.loop-place.invariant (λ z. omega (arith, bad, z)))
    ∙ sym (samples_picture p c.args.due c.if-due.false)

pub loop-place-preserved : goal.loop-place-preserved
loop-place-preserved g c = below_more _ _ c.loop-place.invariant (test_at _ _ _ c.at.ensures c.reserved.ensures c.if-reserved.false)

pub returns : goal.returns
returns g c =
    sym (first_none (outside_at _) active_length (λ j l. c.loop-place.invariant j (omega arith))) ∙ sym (samples_picture _ c.args.due c.if-due.false)
