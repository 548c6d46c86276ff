-- `timing::correct_pattern` meets its contract: the patterns from fvh on are further than one bit away, so those below it decide. Assumes nothing.
use Rattle.std.proofs.Common.{◌≡◌, ℕ, ◌-◌, ◌<◌, Option, sym, ap, ◌∙◌, arith}
use Rattle.std.specs.Option.{unwrap_or}
use Rattle.timing.specs.declared.Correction.{Correction}
use Rattle.timing.specs.declared.Correction.TheVariants.{Refused}
use Rattle.timing.specs.Code.{said_by, hopeless_of, correction_below}
use Rattle.timing.proofs.Laws.{said_below}
use Rattle.timing.proofs.correct_pattern.Goals as goal

-- one turn: the pattern below n says what is found, or those below it do
turn : (n p : ℕ) (told : Option Correction) → 0 < n → correction_below n p ≡ correction_below 8 p → told ≡ said_by (n - 1) p
    → unwrap_or told (correction_below (n - 1) p) ≡ correction_below 8 p
turn n p told above inv is =
    ap (λ (o : Option Correction). unwrap_or o (correction_below (n - 1) p)) is ∙ sym (said_below n (n - 1) p (omega arith)) ∙ inv

none_left : (p number : ℕ) → number ≡ hopeless_of p → Refused number ≡ correction_below 0 p
unfolding correction_below
none_left p number e = ap Refused e

pub returns-in-Some : goal.returns-in-Some
returns-in-Some c = turn _ _ _ c.loop-fvh-test.true c.loop-fvh.invariant c.in-Some.ensures

pub loop-fvh-preserved : goal.loop-fvh-preserved
loop-fvh-preserved c = turn _ _ _ c.loop-fvh-test.true c.loop-fvh.invariant c.in_default.ensures

pub returns : goal.returns
returns c =
    none_left _ _ (c.number.ensures ∙ c.hopeless.ensures)
    ∙ ap (λ (n : ℕ). correction_below n c.args.pattern) (omega arith) ∙ c.loop-fvh.invariant
