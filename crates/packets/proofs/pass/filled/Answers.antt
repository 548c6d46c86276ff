-- `packets::pass::filled` meets its contract: pairs, and where the words are odd in number the last one. Assumes nothing.
use Rattle.std.proofs.Common.{sym, ◌∙◌, ◌+◌, ◌*◌, length}
use native.Mathlib.Omega.{arith}
use Rattle.words.proofs.Slices.{part_length, part_at}
use Rattle.packets.specs.Fault.{word_at}
use Rattle.packets.proofs.Passes.{all_filled}
use Rattle.packets.proofs.pass.filled.Goals.{else-words-from-eq1-via-then-words-from-eq1+else-words-first, else-words-from-eq1-via-else-words-from-eq1}
use Rattle.packets.proofs.pass.filled.Goals as goal

pub returns : goal.returns
returns c =
    let a = c.args in
    let words = a.words.now in
    let first = c.at-first.ensures in
    let second = c.at-second.ensures in
    λ t.
    all_filled (word_at words) a.from (length words) a.fill.even a.fill.odd
    (λ k l.
    let two = c.pairs_filled.ensures t k (rw (part_length words a.from (length words) (omega arith)) l) in (
      sym (part_at words a.from (length words) (2 * k) (omega arith)) ∙ two.0 ∙ first,
      sym (part_at words a.from (length words) (2 * k + 1) (omega arith)) ∙ two.1 ∙ second,
    ))
    (λ odd. elim c.else-words-from-eq1.branch [
      | else-words-from-eq1-via-then-words-from-eq1+else-words-first w ↦ w.if-words-first.false ∙ first
      | else-words-from-eq1-via-else-words-from-eq1 w ↦ absurd (w.if-words-from-eq1.false odd)
    ])
