-- `bytewise::pass::code_well` meets its contract, word by word. Assumes nothing.
use Rattle.std.proofs.Common.{◌≡◌, ℕ, ◌+◌, ◌*◌, ◌≤◌, Bool, true, ◌&&◌, leb, leb-true, arith}
use Rattle.refusal.proofs.Cases.{and_true}
use Rattle.words.specs.Bytes.{word_of_bytes}
use Rattle.line.proofs.Parts.{four_well}
use Rattle.bytewise.proofs.pass.code_well.Goals as goal

-- the five tests
record Passed (first second third : ℕ) (found : Bool) : Type 0 where
  least : 1020 ≤ first
  most : first ≤ 1023
  zeros : (second ≤ 3) × (third ≤ 3)
  fourth : found ≡ true

passed : (first second third : ℕ) (found : Bool)
    → ((((leb 1020 first && leb first 1023) && leb second 3) && leb third 3) && found) ≡ true → Passed first second third found
passed first second third found e =
    let four = and_true (((leb 1020 first && leb first 1023) && leb second 3) && leb third 3) found e in
    let three = and_true ((leb 1020 first && leb first 1023) && leb second 3) (leb third 3) four.0 in
    let two = and_true (leb 1020 first && leb first 1023) (leb second 3) three.0 in
    let one = and_true (leb 1020 first) (leb first 1023) two.0 in
    record { least = leb-true _ _ one.0; most = leb-true _ _ one.1; zeros = (leb-true _ _ two.1, leb-true _ _ three.1); fourth = four.1 }

pub returns : goal.returns
returns c = λ e.
    let bytes = c.args.bytes.now in
    let from = c.args.from in
    let z : from + 0 ≡ from = omega arith in
    let tests = passed c.word_at-first.result c.word_at.result c.word_at-2.result c.finds.result e in
    four_well c.args.fvh (λ k. word_of_bytes bytes (from + 2 * k))
    (rw z (omega (arith, c.word_at-first.ensures, tests.least))) (rw z (omega (arith, c.word_at-first.ensures, tests.most)))
    (omega (arith, c.word_at.ensures, tests.zeros.0)) (omega (arith, c.word_at-2.ensures, tests.zeros.1))
    (rw c.requires.1 at (c.finds.ensures tests.fourth))
