-- `programme::extractor::extract_next` meets its contract: a line that is accepted has its bytes. Assumes nothing.
use mathlib.Core.Path.{sym, ap, ◌∙◌}
use native.Mathlib.Omega.{arith}
use lib.ListN.{length}
use Rattle.refusal.proofs.Firsts.{or_else_none, same_number}
use Rattle.words.specs.Bytes.{words_of}
use Rattle.system.specs.declared.walk.Judgement.{Judgement}
use Rattle.system.specs.Figures.{system_of}
use Rattle.system.specs.Walk.{line_bytes}
use Rattle.system.proofs.Laws.{line_is_parts}
use Rattle.reader.proofs.Judged.{accepted}
use Rattle.bytewise.specs.Bytes.{bytes_refusal}
use Rattle.programme.specs.Extract.{room_refusal}
use Rattle.programme.proofs.ExtractTheorems.{extract_number}
use Rattle.programme.proofs.extractor.extract_next.Goals as goal

pub gives_row-requires : goal.gives_row-requires
gives_row-requires c =
    let w = c.args.run.walk in
    let bytes = c.args.bytes.now in
    let room = length c.args.row.now in
    let none_refuses = same_number (sym (extract_number w bytes room)) ∙ ap (λ (i : Judgement). i.number) (sym c.extract-judgement.ensures.answer) ∙ c.if-judgement-eq0.true in
    let well = (or_else_none (bytes_refusal w bytes) (room_refusal room) none_refuses).0 in
    omega (arith, (accepted (length bytes) (line_bytes w) w (words_of bytes) well).size, line_is_parts (system_of w.system))
