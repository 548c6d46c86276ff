-- `reader::whole::Whole::counts` meets its contract: a space that is refused has no packets. Assumes nothing.
use Rattle.std.proofs.Common.{refl, ap, ◌∙◌}
use Rattle.packets.specs.Fault.{Space}
use Rattle.line.specs.Fault.{packets_in}
use Rattle.reader.proofs.Parts.{told_packets}
use Rattle.reader.proofs.whole.Whole.counts.Goals as goal

pub returns-then-self : goal.returns-then-self
unfolding packets_in
returns-then-self c =
    rw (
      c.if-self.true,
      c.unwrap_or.ensures ∙ told_packets c.between.result ∙ ap (λ (s : Space). s.packets) c.between.ensures,
      c.unwrap_or-then-self.ensures ∙ told_packets c.active.result ∙ ap (λ (s : Space). s.packets) c.active.ensures,
    ) refl

pub returns-else-self : goal.returns-else-self
unfolding packets_in
returns-else-self c =
    rw (c.if-self.false, c.unwrap_or.ensures ∙ told_packets c.between.result ∙ ap (λ (s : Space). s.packets) c.between.ensures) refl
