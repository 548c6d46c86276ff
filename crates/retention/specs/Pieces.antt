-- What is made of a part of a file that was filled into a buffer, or written.
use Rattle.std.specs.Prelude.{ℕ, Bool, cond, nat_lt, Result, Ok, Err}
use Rattle.intake.specs.declared.Filled.{Filled}
use Rattle.console.specs.declared.Status.{Status}
use Rattle.console.specs.declared.Status.TheVariants.{Unread, Shortened, Unwritten}

-- a failed read is no end of the file, and less than was due is a file that became shorter
unfoldable pub filled_status : Filled → ℕ → Result (Unit {0}) Status
filled_status filled due = cond filled.failed (Err Unread) (cond (nat_lt filled.have due) (Err Shortened) (Ok tt))

-- all was written, or the output failed
abbrev pub written_status : Bool → Result (Unit {0}) Status
written_status written = cond written (Ok tt) (Err Unwritten)
