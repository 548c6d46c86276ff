-- `station::recorder::put_row` meets its contract: each turn writes one line, and the row is taken by the first that can. Assumes nothing.
use Rattle.std.proofs.Common.{◌≡◌, ◌-◌, length}
use Rattle.programme.specs.declared.tape.Tape.{Tape}
use Rattle.programme.specs.Tape.{nothing_more, onto, most_turns}
use Rattle.station.specs.declared.entries.Next.TheVariants.{Nothing}
use Rattle.station.specs.Turns.{Onto}
use Rattle.station.proofs.recorder.put_row.Given as goal

abbrev pub invariant-loop : goal.invariant-loop
invariant-loop l =
    ((v : Tape) → Onto (length l.initial.line) l.row (most_turns - l.counter) l.taping.tape v → Onto (length l.initial.line) l.row most_turns l.initial.taping.tape v)
    × (l.initial.taping.entries.next ≡ Nothing
    → (l.taping.entries.next ≡ Nothing)
    × ((onto (length l.initial.line) most_turns l.initial.taping.tape l.row nothing_more).tape ≡ (onto (length l.initial.line) (most_turns - l.counter) l.taping.tape l.row nothing_more).tape))
