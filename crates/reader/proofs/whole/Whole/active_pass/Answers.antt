-- `reader::whole::Whole::active_pass` meets its contract: V says which of the two passes is due, and with V = 0 no word is a packet's. Assumes nothing.
use Rattle.std.proofs.Common.{refl, sym, ap, ◌∙◌, ◌+◌}
use mathlib.Core.Path.{subst}
use mathlib.Core.Bool.{true≢false}
use native.Mathlib.Omega.{arith}
use Rattle.std.specs.Prelude.{ℕ, Option, IfSome}
use Rattle.refusal.proofs.Results.{if_some, if_then_some}
use Rattle.words.proofs.Slices.{part_sampled}
use Rattle.packets.specs.Fault.{Space, word_at}
use Rattle.system.proofs.Laws.{line_is_parts}
use Rattle.line.specs.Fault.{packets_in}
use Rattle.line.specs.Samples.{active_length}
use Rattle.reader.specs.Passes.{ActivePassed}
use Rattle.reader.proofs.Parts.{ok_told}
use Rattle.reader.proofs.whole.Whole.active_pass.Goals as goal

pub returns-then-self : goal.returns-then-self
unfolding packets_in
returns-then-self c =
    let line = c.args.self.now in
    if_some c.ok.result (ActivePassed line.due (word_at line.words.now))
    (λ n e.
    let told = sym c.active.ensures ∙ ok_told c.active.result n (sym c.ok.ensures.value ∙ e) in
    record {
      well = record {
        blank = λ _. ap (λ (s : Space). s.number) told;
        samples = λ f. absurd (true≢false (sym c.if-self.true ∙ f));
      };
      counted = rw c.if-self.true (sym (ap (λ (s : Space). s.packets) told));
    })

pub returns : goal.returns
unfolding packets_in
returns c =
    let line = c.args.self.now in
    let word = word_at line.words.now in
    subst (λ (o : Option ℕ). IfSome o (ActivePassed line.due word)) (sym c.then_some.ensures)
    (if_then_some c.all_samples.result 0 (ActivePassed line.due word)
    (λ e.
    record {
      well = record {
        blank = λ t. absurd (true≢false (sym t ∙ c.if-self.false));
        samples = λ _ k l.
            rw (← c.active_offset-start.ensures)
            (part_sampled line.words.now c.active_offset-start.result (c.active_offset-start.result + active_length)
            (omega (arith, line.whole, c.active_offset-start.ensures, line_is_parts line.due.system)) (c.all_samples.ensures.0 e) k (omega arith));
      };
      counted = rw c.if-self.false refl;
    }))
