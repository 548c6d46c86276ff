-- `station::recorder::end_frame` meets its contract: each turn writes one line, as long as one belongs to the frame. Assumes nothing.
use Rattle.std.proofs.Common.{◌≡◌, ◌-◌, length}
use Rattle.programme.specs.declared.tape.Tape.{Tape}
use Rattle.programme.specs.Tape.{end_of, most_turns}
use Rattle.station.specs.declared.entries.Next.TheVariants.{Nothing}
use Rattle.station.specs.Turns.{FrameEnd}
use Rattle.station.proofs.recorder.end_frame.Given as goal

abbrev pub invariant-loop : goal.invariant-loop
invariant-loop l =
    ((v : Tape) → FrameEnd (length l.initial.line) (most_turns - l.counter) l.at.tape v → FrameEnd (length l.initial.line) most_turns l.initial.at.tape v)
    × (l.initial.at.entries.next ≡ Nothing
    → (l.at.entries.next ≡ Nothing) × ((end_of (length l.initial.line) most_turns l.initial.at.tape).tape ≡ (end_of (length l.initial.line) (most_turns - l.counter) l.at.tape).tape))
