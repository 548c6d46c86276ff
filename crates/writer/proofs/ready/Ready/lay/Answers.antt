-- `writer::ready::Ready::lay` meets its contract: without packets the line is written already, and two lays make the line without packets the line that is written. Assumes nothing.
use mathlib.Core.Path.{sym, ap, ◌∙◌}
use Rattle.line.specs.Samples.{Packets, line_of}
use Rattle.writer.specs.Passes.{packets_in}
use Rattle.writer.proofs.Theorems.{nothing_ready_as_before}
use Rattle.writer.proofs.Whole.{packets_whole}
use Rattle.writer.proofs.ready.Ready.lay.Goals as goal

pub returns-then-is_nothing : goal.returns-then-is_nothing
returns-then-is_nothing c = λ p bare.
    let nothing = c.is_nothing.ensures.0 c.if-is_nothing.true in
    bare ∙ sym (ap (λ (k : Packets). line_of c.args.due (record { samples = p; packets = k })) nothing ∙ nothing_ready_as_before c.args.due p)

pub returns : goal.returns
returns c = λ p bare. packets_whole c.args.due p (packets_in c.args.self.now) _ _ _ _ c.active_offset.ensures bare c.lay.ensures c.lay-2.ensures
