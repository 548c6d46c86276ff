-- `reader::whole::Whole::pass` meets its contract: a line that it lets by is well part by part, and its packets are those of its two spaces.
-- Assumes nothing.
use Rattle.std.proofs.Common.{refl, sym, ap, ◌∙◌, ◌≡◌, ◌+◌}
use mathlib.Core.Bool.{not}
use native.Mathlib.Omega.{arith}
use Rattle.refusal.proofs.Cases.{not_false}
use Rattle.packets.specs.Fault.{Space, word_at}
use Rattle.line.specs.Fault.{packets_in}
use Rattle.line.proofs.Parts.{parts_well}
use Rattle.reader.proofs.Parts.{ok_told}
use Rattle.reader.proofs.whole.Whole.pass.Goals as goal

pub returns : goal.returns
unfolding packets_in
returns c =
    let line = c.args.self.now in
    let between = sym c.between.ensures ∙ ok_told c.between.result _ (sym c.ok.ensures.value ∙ c.in_ok-between.was) in
    let active = c.in_ok-active.ensures in
    record {
      well = parts_well line.due (word_at line.words.now)
          (record {
            eav = λ k l.
                let from : 0 + k ≡ k = omega arith in
                rw from at (rw c.flags.ensures at (c.code_well.ensures (not_false c.code_well.result (ap not c.if-not-code_well.false)) k l));
            between = ap (λ (s : Space). s.number) between;
            sav =
                rw (c.sav_offset.ensures, c.flags-2.ensures) at (c.code_well-2.ensures (not_false c.code_well-2.result (ap not c.if-not-code_well-2.false)));
            active = active.well;
          });
      counted = rw (ap (λ (s : Space). s.packets) between, active.counted) refl;
    }
