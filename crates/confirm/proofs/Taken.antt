-- What a run takes of the bytes that lie ready ends where they end at the latest. Assumes nothing.
use Rattle.std.proofs.Common.{ℕ, ◌+◌, ◌-◌, ◌≤◌, List, length, drop, arith, length-drop, length-take-le}
use Rattle.intake.specs.Arrival.{part}
use Rattle.confirmation.specs.declared.Run.{Run}
use Rattle.confirmation.specs.Follow.{followed_of}
use Rattle.confirmation.proofs.Theorems.{taken_within}

pub taken_before : (run : Run) (at have : ℕ) (buffer : List ℕ) → at ≤ have → have ≤ length buffer
    → at + (followed_of run (part at have buffer)).taken ≤ have
taken_before run at have buffer low high =
    let taken = (taken_within run (part at have buffer)).0 in
    omega (arith, taken, length-take-le (have - at) (drop at buffer) (omega (arith, length-drop at buffer)), length-drop at buffer)
