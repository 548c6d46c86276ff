-- `packets::pass::pairs_filled` meets its contract: a number tells its two words. Assumes nothing.
use Rattle.std.proofs.Common.{sym, ◌∙◌, ◌*◌}
use native.Mathlib.Omega.{arith}
use borrow.Author.Tests.{eqb-true}
use Rattle.words.proofs.Passes.{still_well, halves}
use Rattle.packets.proofs.pass.pairs_filled.Goals as goal

pub loop-k-preserved : goal.loop-k-preserved
loop-k-preserved c =
    still_well _ c.loop-k.well _ c.loop-k.k c.loop-k.invariant
    (λ t.
    halves _ _ _ _ (omega (arith, c.type_inv.words (2 * c.loop-k.k))) (omega arith)
    (sym c.pair_of.ensures ∙ eqb-true c.pair_of.result c.pair_of-due.result t ∙ c.pair_of-due.ensures))

pub returns : goal.returns
returns c = λ e j l. c.loop-k.invariant e j (omega arith)
