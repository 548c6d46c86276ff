-- How reading ended, and the exit status that it stands for.
use Rattle.std.specs.Prelude.{ℕ, cond, List, take, ◌==◌}
use Rattle.intake.specs.declared.Filled.{Filled}
use Rattle.confirmation.specs.declared.Run.{Run}
use Rattle.confirmation.specs.Run.{begun_of}
use Rattle.console.specs.declared.Status.{Status}
use Rattle.console.specs.declared.Status.TheVariants.{Done, Refused, Unread, Shortened, Unwritten, Failed}
use Rattle.console.specs.declared.Read.{Read}

-- "0 where all was taken and written, 1 where something was refused, 2 where the system failed"
abbrev pub code_of : Status → ℕ
code_of Done = 0
code_of Refused = 1
code_of Unread = 2
code_of Shortened = 2
code_of Unwritten = 2
code_of Failed = 2

-- a run that came to its end or to a refusal
unfoldable pub ended_of : Run → Read
ended_of run = record { run = run; status = cond (run.number == 0) Done Refused }

-- a run that could not be read on
abbrev pub unread_of : Run → Read
unread_of run = record { run = run; status = Unread }

-- A header as far as it was filled: bytes that are not there count for nothing, and a failed read is no short header.
unfoldable pub begun_read : List ℕ → Filled → Read
begun_read header filled =
    cond filled.failed (unread_of (begun_of (take filled.have header))) (ended_of (begun_of (take filled.have header)))
