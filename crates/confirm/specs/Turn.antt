-- What one turn of confirming makes of the bytes in its buffer and of what a read told.
use Rattle.std.specs.Prelude.{ℕ, ◌+◌, ◌≤◌, cond, List, eqb, length}
use Rattle.intake.specs.declared.Told.{Told}
use Rattle.intake.specs.declared.Told.TheVariants.{Failed as ReadFailed, Ended, Bytes}
use Rattle.intake.specs.Arrival.{part}
use Rattle.confirmation.specs.declared.Run.{Run}
use Rattle.confirmation.specs.declared.Followed.{Followed}
use Rattle.confirmation.specs.Follow.{followed_of, closed_of}
use Rattle.console.specs.declared.Read.{Read}
use Rattle.console.specs.Status.{ended_of, unread_of}
use Rattle.confirm.specs.declared.Reading.{Reading}
use Rattle.confirm.specs.declared.Reading.TheVariants.{On, Done, Failed}
use Rattle.confirm.specs.declared.Ready.{Ready}

-- the bytes that lie ready are within a buffer of this length
abbrev pub IsWithin : Ready → ℕ → Type 0
IsWithin ready size = (ready.at ≤ ready.have) × (ready.have ≤ size)

-- Where a run stands that took so many of the bytes from an offset on: a buffer that was taken to its end is filled from its start again.
abbrev pub ready_after : Followed → ℕ → ℕ → ℕ → Ready
ready_after f at have size =
    record {
      run = f.run;
      at = cond (eqb (at + f.taken) size) 0 (at + f.taken);
      have = cond (eqb (at + f.taken) size) 0 have;
      reading = cond (eqb f.run.number 0) On Done;
    }

unfoldable pub reached_of : Run → ℕ → ℕ → List ℕ → Ready
reached_of run at have buffer = ready_after (followed_of run (part at have buffer)) at have (length buffer)

-- A turn: a failed read is no end of the input, the end closes the run over exactly the bytes that are left, and bytes that came are
-- followed with those before them.
abbrev pub turn_of : Run → ℕ → ℕ → Told → List ℕ → Ready
turn_of run at have ReadFailed buffer = record { run = run; at = at; have = have; reading = Failed }
turn_of run at have Ended buffer = record { run = closed_of run (part at have buffer); at = at; have = have; reading = Done }
turn_of run at have (Bytes count) buffer = reached_of run at (have + count) buffer

-- what confirming comes to: unread where a read failed, or where reading did not come to an end
abbrev pub read_by : Reading → Run → Read
read_by On run = unread_of run
read_by Done run = ended_of run
read_by Failed run = unread_of run

abbrev pub read_of : Ready → Read
read_of ready = read_by ready.reading ready.run
