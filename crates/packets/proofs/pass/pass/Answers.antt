-- `packets::pass::pass` meets its contract. The loop's invariant, `Passing`: nothing before p is wrong, and the rest is judged as a space of its own. Assumes nothing.
use Prim.Native.Nat.{ℕ, ◌-◌}
use Rattle.std.specs.Prelude.{length, Option, IfSome}
use Rattle.refusal.proofs.Results.{if_then_some}
use Rattle.packets.specs.Passes.{Passed}
use mathlib.Core.Path.{sym, subst, ◌∙◌}
use native.Mathlib.Omega.{arith}
use Rattle.refusal.proofs.Cases.{not_false}
use Rattle.packets.specs.Fault.{word_at}
use Rattle.packets.proofs.Openings.{started}
use Rattle.packets.proofs.Passes.{passing_start, passing_on, passing_end}
use mathlib.Core.Path.{ap}
use mathlib.Core.Bool.{not}
use Rattle.packets.proofs.pass.pass.Goals as goal

pub loop-fill-init : goal.loop-fill-init
loop-fill-init c = passing_start _ _ _ _ _ (omega arith)

pub packet_well-requires : goal.packet_well-requires
packet_well-requires c = (started _ _ _ (sym c.starts.ensures ∙ c.loop-fill-test.true)).room

pub size-p-requires : goal.size-p-requires
size-p-requires c = omega (arith, (started _ _ _ (sym c.starts.ensures ∙ c.loop-fill-test.true)).room)

pub overflow_add-p : goal.overflow_add-p
overflow_add-p c =
    let fits = (c.packet_well.ensures (not_false _ (ap not c.if-not-packet_well.false))).fits in
    omega (arith, c.size-p.ensures)

pub loop-fill-smaller : goal.loop-fill-smaller
loop-fill-smaller c =
    let fits = (c.packet_well.ensures (not_false _ (ap not c.if-not-packet_well.false))).fits in
    omega (arith, c.size-p.ensures)

pub loop-fill-preserved : goal.loop-fill-preserved
loop-fill-preserved c =
    rw c.size-p.ensures
    (passing_on _ _ _ _ _ c.loop-fill.p c.loop-fill.invariant (sym c.starts.ensures ∙ c.loop-fill-test.true)
    (c.packet_well.ensures (not_false _ (ap not c.if-not-packet_well.false))))

pub returns : goal.returns
returns c =
    let word = word_at c.args.words.now in
    let a = c.args in
    subst (λ (o : Option ℕ). IfSome o (Passed word a.start (length a.words.now) a.fill.even a.fill.odd)) (sym c.then_some.ensures)
    (if_then_some c.filled.result (c.loop-fill.p - a.start) (Passed word a.start (length a.words.now) a.fill.even a.fill.odd)
    (λ t.
    passing_end _ _ _ _ _ c.loop-fill.p c.loop-fill.invariant (sym c.starts.ensures ∙ c.loop-fill-test.false) c.if-fill-gt-MOST_WORD.false
    c.if-fill-gt-MOST_WORD-2.false (c.filled.ensures t)))
