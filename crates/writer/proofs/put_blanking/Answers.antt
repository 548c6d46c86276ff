-- `writer::put_blanking` meets its contract: EAV, fill and SAV one after another. Assumes nothing.
use Rattle.writer.proofs.Whole.{blanked}
use Rattle.writer.proofs.put_blanking.Goals as goal

pub returns : goal.returns
returns c = λ p.
    blanked c.args.due p c.args.words.now _ _ _ _ _ _ c.requires c.flags.ensures c.flags-2.ensures c.sav_offset-sav.ensures
    c.put_code.ensures c.put_fill.ensures c.put_code-2.ensures
