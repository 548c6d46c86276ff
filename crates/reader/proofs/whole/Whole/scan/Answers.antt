-- `reader::whole::Whole::scan` meets its contract. The loops' invariant: no offset passed has a fault, so the one at which the scan leaves, of a space
-- or of a word, is the lowest. Assumes nothing.
use Prim.Native.Nat.{ℕ, ◌+◌, ◌<◌, ◌≤◌}
use mathlib.Core.Path.{◌≡◌, sym, ◌∙◌}
use mathlib.Core.List.{List}
use native.Mathlib.Omega.{arith}
use borrow.Author.Count.{below_more}
use lib.ListN.{length}
use mathlib.Core.Path.{ap, refl}
use Rattle.refusal.specs.Answer.{none}
use Rattle.refusal.specs.Reasons.{fault_number, numbered}
use Rattle.refusal.proofs.Results.{reason_counts, none_counts}
use Rattle.refusal.proofs.Firsts.{first_none, first_at}
use Rattle.packets.specs.Fault.{word_at}
use Rattle.system.specs.declared.due.Due.{Due}
use Rattle.line.specs.Offsets.{due_at}
use Rattle.line.specs.Fault.{fault_where, fault_at, word_refusal}
use Rattle.reader.specs.Passes.{part_start, words_start}
use Rattle.reader.proofs.Parts.{part_within, looked_at, space_lowest, space_passed}
use Rattle.reader.proofs.whole.Whole.scan.Goals as goal

-- the number found at an offset that is looked at
number_found : (d : Due) (words : List ℕ) (number offset part from to : ℕ) → part < 4 → from ≡ words_start d part → to ≡ part_start d.system (part + 1)
    → from ≤ offset → offset < to → number ≡ fault_where (due_at d offset) (word_at words offset) → number ≡ fault_at d words offset
number_found d words number offset part from to p is-from is-to g l e =
    e ∙ sym (looked_at d (word_at words) offset part p (omega arith) (omega arith))

pub loop-part-init : goal.loop-part-init
loop-part-init c = λ k l. absurd (omega arith)

pub loop-offset-init : goal.loop-offset-init
loop-offset-init c =
    let a = c.args.self.now in (
      omega arith,
      omega (arith, c.part_start-to.ensures, part_within a.due.system (c.loop-part.part + 1)),
      λ k l.
          space_passed a.due a.words.now c.loop-part.part (omega arith) c.loop-part.invariant none c.in_default.ensures refl k (omega (arith, c.words_start-from.ensures)),
    )

pub loop-offset-preserved : goal.loop-offset-preserved
loop-offset-preserved c =
    let a = c.args.self.now in (
      omega arith,
      omega arith,
      below_more _ _ c.loop-offset.invariant.2
          (sym (number_found a.due a.words.now _ _ c.loop-part.part _ _ (omega arith) c.words_start-from.ensures c.part_start-to.ensures (omega arith)
          (omega arith) c.fault_at.ensures) ∙ none_counts _ c.in_default-fault_at.not-Some),
    )

pub loop-part-preserved : goal.loop-part-preserved
loop-part-preserved c = λ k l. c.loop-offset.invariant.2 k (omega (arith, c.part_start-to.ensures))

pub returns-in-Err : goal.returns-in-Err
returns-in-Err c =
    let a = c.args.self.now in
    space_lowest a.due a.words.now c.loop-part.part (omega arith) c.loop-part.invariant (numbered c.in-Err.refused) c.in-Err.ensures a.whole
    (reason_counts c.in-Err.refused.reason)

pub returns-in-Some : goal.returns-in-Some
unfolding word_refusal
returns-in-Some c =
    let a = c.args.self.now in
    let found = number_found a.due a.words.now _ _ c.loop-part.part _ _ (omega arith) c.words_start-from.ensures c.part_start-to.ensures (omega arith)
    (omega arith) c.fault_at.ensures in
    let e = sym (ap fault_number c.in-Some.is) ∙ found in
    ap numbered c.at.ensures
    ∙ rw e
    (sym
    (first_at (fault_at a.due a.words.now) (length a.words.now) c.loop-offset.offset (omega arith) c.loop-offset.invariant.2
    (λ z. reason_counts c.in-Some.reason (e ∙ z))))

pub returns-after-loop-part : goal.returns-after-loop-part
unfolding word_refusal
returns-after-loop-part c =
    let a = c.args.self.now in
    let e : c.loop-part.part ≡ 4 = omega arith in
    sym
    (first_none (fault_at a.due a.words.now) (length a.words.now)
    (λ j l. c.loop-part.invariant j (rw e (omega (arith, a.whole)))))
