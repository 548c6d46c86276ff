-- `console::fill_by` is safe and ends: each turn reads at least one byte into what is left of the buffer. Assumes nothing.
use Rattle.std.proofs.Common.{◌-◌, ◌≤◌, length}
use Rattle.console.proofs.fill_by.Given as goal

abbrev pub invariant-loop-have : goal.invariant-loop-have
invariant-loop-have g l = goal.F-IsAlwaysCallable g l.read × (l.have ≤ length l.buffer)

abbrev pub decreases-loop-have : goal.decreases-loop-have
decreases-loop-have g l = length l.initial.buffer - l.have
