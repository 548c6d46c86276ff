-- `station::recorder::put_row` meets its contract: each turn writes one line, and the row is taken by the first that can. Assumes nothing.
use Rattle.std.proofs.Common.{◌≡◌, suc, ◌+◌, ◌-◌, length, sym, ap, ◌∙◌, refl, arith}
use Rattle.programme.specs.Tape.{most_turns}
use Rattle.station.specs.declared.entries.Entries.{Entries}
use Rattle.station.proofs.Lines.{bare_line, onto_left, onto_taken, onto_passed, row_done, row_goes_on, row_left}
use Rattle.station.proofs.recorder.put_row.Goals as goal

pub loop-init : goal.loop-init
loop-init c = (λ v f. f, λ none. (none, refl))

pub returns-then-is_taken-clause-row : goal.returns-then-is_taken-clause-row
returns-then-is_taken-clause-row c =
    let a = c.args in
    let here = c.loop.taping in
    let left : most_turns - c.loop.counter ≡ suc (most_turns - (c.loop.counter + 1)) = omega (arith, c.loop-test.true) in
    c.loop.invariant.0 _
    (onto_taken (length a.line.now) a.row.now here.tape here.tape c.in_ok-at.at c.in_ok-taping.taping _ _ _ left c.in_ok-at.ensures.on.on.0 c.loop.auto.line
    c.in_ok-taping.ensures.line.on (sym c.takes_row-is_taken.ensures ∙ c.if-is_taken.true))

pub returns-then-is_taken-clause-bare : goal.returns-then-is_taken-clause-bare
returns-then-is_taken-clause-bare c = λ none.
    let a = c.args in
    let left : most_turns - c.loop.counter ≡ suc (most_turns - (c.loop.counter + 1)) = omega (arith, c.loop-test.true) in
    let there = c.in_ok-at.ensures.on.on in
    let so_far = c.loop.invariant.1 none in
    let none_here = ap (λ (e : Entries). e.next) there.1 ∙ so_far.0 in
    row_done (length a.line.now) _ c.loop.auto.line a.row.now _ c.loop.taping.tape c.in_ok-at.at c.in_ok-taping.taping _ _ left so_far.1 there.0
    (bare_line _ _ _ c.in_ok-taping.taping (c.in_ok-taping.ensures.bare none_here)) (sym c.takes_row-is_taken.ensures ∙ c.if-is_taken.true)

pub loop-preserved : goal.loop-preserved
loop-preserved c =
    let a = c.args in
    let here = c.loop.taping in
    let there = c.in_ok-at.ensures.on.on in
    let is-passed = sym c.takes_row-is_taken.ensures ∙ c.if-is_taken.false in
    let left : most_turns - c.loop.counter ≡ suc (most_turns - (c.loop.counter + 1)) = omega (arith, c.loop-test.true) in (
      λ v rest. c.loop.invariant.0 v
          (onto_passed (length a.line.now) a.row.now here.tape v c.in_ok-at.at c.in_ok-taping.taping _ _ _ left there.0 c.loop.auto.line
          c.in_ok-taping.ensures.line.on is-passed rest),
      λ none.
          let so_far = c.loop.invariant.1 none in
          let none_here = ap (λ (e : Entries). e.next) there.1 ∙ so_far.0 in
          let bare = bare_line _ _ _ c.in_ok-taping.taping (c.in_ok-taping.ensures.bare none_here) in (
            bare.next ∙ none_here,
            row_goes_on (length a.line.now) _ c.loop.auto.line a.row.now _ here.tape c.in_ok-at.at c.in_ok-taping.taping _ _ left so_far.1 there.0 bare is-passed,
          ),
    )

pub returns-clause-row : goal.returns-clause-row
returns-clause-row c = c.loop.invariant.0 _ (onto_left (length c.args.line.now) c.args.row.now (omega (arith, c.loop-test.false)))

pub returns-clause-bare : goal.returns-clause-bare
returns-clause-bare c = λ none.
    sym ((c.loop.invariant.1 none).1 ∙ row_left (length c.args.line.now) _ c.args.row.now c.loop.taping.tape (omega (arith, c.loop-test.false)))
