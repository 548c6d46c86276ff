-- `retention::carrying::Carried::turned` meets its contract, in each case of what was told. Assumes nothing.
use Rattle.std.proofs.Common.{true, length, sym, ap, ◌∙◌, arith}
use Rattle.intake.specs.declared.Told.{Told}
use Rattle.console.proofs.Fills.{room_for}
use Rattle.retention.specs.Turn.{turn_of}
use Rattle.retention.proofs.Turns.{wrote_as}
use Rattle.retention.proofs.carrying.Carried.turned.Goals as goal

pub reach-requires : goal.reach-requires
reach-requires c = (omega (arith, c.requires.0.0), omega (arith, c.requires.0.1, room_for _ _ _ c.in-Bytes.is c.requires.1))

pub returns-in-Failed-clause-turn : goal.returns-in-Failed-clause-turn
returns-in-Failed-clause-turn c =
    let a = c.args in
    (wrote_as true, ap (λ (told : Told). turn_of a.self.now told a.buffer.now (length a.room.now) (wrote_as true)) (sym c.in-Failed.is))

pub returns-in-Ended-clause-turn : goal.returns-in-Ended-clause-turn
returns-in-Ended-clause-turn c =
    let a = c.args in
    (wrote_as true, c.close.ensures.turn ∙ ap (λ (told : Told). turn_of a.self.now told a.buffer.now (length a.room.now) (wrote_as true)) (sym c.in-Ended.is))
