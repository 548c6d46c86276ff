-- `retention::carrying::Carried::turn` reads into the room that is left, and at most what is left of the input. Assumes nothing.
use Rattle.std.proofs.Common.{ℕ, ◌+◌, ◌-◌, ◌≤◌, List, length, take, drop, arith, length-drop, length-take-le}
use Rattle.intake.specs.declared.Told.{Told}
use Rattle.intake.specs.declared.Told.TheVariants.{Failed, Ended, Bytes}
use Rattle.intake.specs.Arrival.{WithinRoom}
use Rattle.retention.proofs.carrying.Carried.turn.Goals as goal

-- what has room has more room, too
within_more : (told : Told) {n m : ℕ} → n ≤ m → WithinRoom told n → WithinRoom told m
within_more Failed l w = tt
within_more Ended l w = tt
within_more (Bytes count) l w = (w.0, omega (arith, w.1))

in_part : (told : Told) (buffer : List ℕ) (have end : ℕ) → have ≤ end → end ≤ length buffer
    → WithinRoom told (length (take (end - have) (drop have buffer))) → WithinRoom told (length buffer - have)
in_part told buffer have end l m w =
    within_more told (omega (arith, length-take-le (end - have) (drop have buffer) (omega (arith, length-drop have buffer)))) w

pub turned-requires : goal.turned-requires
turned-requires c =
    let room = in_part c.tells-told.result _ c.args.self.now.have (c.args.self.now.have + c.least-most.result) (omega arith) (omega (arith, c.least-most.ensures.within.0, c.requires.1)) c.tells-told.ensures.room in
    ((omega (arith, c.requires.0), omega (arith, c.requires.1)), room)
