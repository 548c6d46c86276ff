-- `bytewise::pass::all_fill` meets its contract. The loop's invariant: where all was good so far, each pair passed is the two words. Two
-- words of 16 bits are told apart in the one number. Assumes nothing.
use Rattle.std.proofs.Common.{ℕ, sym, ap, ◌∙◌, arith, eqb-true}
use Rattle.words.specs.Bytes.{word_of_bytes}
use Rattle.words.proofs.Passes.{still_well, halves}
use Rattle.bytewise.proofs.pass.all_fill.Goals as goal

pub loop-k-init : goal.loop-k-init
loop-k-init c = (omega arith, λ e j l. absurd (omega arith))

pub loop-k-preserved : goal.loop-k-preserved
loop-k-preserved c =
    let a = c.args in
    let k : ℕ = c.loop-k.k in
    let first = c.word_at in
    let second = c.word_at-in-loop-k in (
      omega arith,
      still_well _ c.loop-k.good _ k c.loop-k.invariant.1
          (λ t.
          let two = halves first.result second.result a.fill.even a.fill.odd (omega arith) (omega arith)
          (sym c.pair_of.ensures ∙ eqb-true c.pair_of.result c.pair_of-due.result t ∙ c.pair_of-due.ensures) in (
            ap (word_of_bytes a.bytes.now) (omega arith) ∙ sym first.ensures ∙ two.0,
            ap (word_of_bytes a.bytes.now) (omega arith) ∙ sym second.ensures ∙ two.1,
          )),
    )

pub returns : goal.returns
returns c = λ e k l. c.loop-k.invariant.1 e k (omega arith)
