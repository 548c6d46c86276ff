-- `writer::ready::Ready::refusal` meets its contract: no words are refused by nothing, and words that have room are few enough to be judged.
-- Assumes nothing.
use Prim.Native.Nat.{◌≤◌}
use mathlib.Core.Path.{◌≡◌, sym, ap, ◌∙◌}
use native.Mathlib.Omega.{arith}
use lib.ListN.{length}
use Rattle.refusal.specs.Answer.{none}
use Rattle.refusal.proofs.Firsts.{same_number}
use Rattle.system.specs.declared.due.Due.{Due}
use Rattle.system.proofs.Laws.{sav_high}
use Rattle.line.specs.Samples.{Packets, active_length}
use Rattle.writer.specs.Passes.{packets_in}
use Rattle.writer.specs.Write.{packets_refusal}
use Rattle.writer.proofs.Theorems.{nothing_ready_refuses_nothing}
use Rattle.writer.proofs.Laws.{most_room, room_passed, lengths_refusal}
use Rattle.writer.proofs.ready.Ready.refusal.Goals as goal

-- where the room is right, the words are few enough to be judged
fits : (d : Due) (k : Packets) → none ≡ lengths_refusal d k → (length k.between ≤ active_length) × (length k.active ≤ active_length)
fits d k room =
    let passed = room_passed d (length k.between) (length k.active) (sym (same_number room)) in
    (omega (arith, passed.0, sav_high d.system), omega (arith, passed.1, most_room d))

pub returns-then-is_nothing : goal.returns-then-is_nothing
returns-then-is_nothing c =
    let nothing = c.is_nothing.ensures.0 c.if-is_nothing.true in
    sym (ap (packets_refusal c.args.due) nothing ∙ nothing_ready_refuses_nothing c.args.due)

pub ready_refusal-requires : goal.ready_refusal-requires
ready_refusal-requires c = (omega arith, (fits c.args.due (packets_in c.args.self.now) c.in_ok-room_refusal.ensures).0)

pub ready_refusal-requires-2 : goal.ready_refusal-requires-2
ready_refusal-requires-2 c =
    (omega (arith, c.active_offset.ensures, sav_high c.args.due.system), (fits c.args.due (packets_in c.args.self.now) c.in_ok-room_refusal.ensures).1)
