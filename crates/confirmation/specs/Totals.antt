-- Several recordings: the sums over them, in numbers of 64 bits, and what it is that one goes on where another ended.
use Rattle.std.specs.Prelude.{ℕ, ◌+◌, ◌*◌, ◌/◌, ◌%◌, ◌^◌, Bool, cond, ◌&&◌, ◌==◌}
use Rattle.system.specs.declared.System.TheVariants.{Lines525, Lines625}
use Rattle.system.specs.Figures.{system_number}
use Rattle.confirmation.specs.declared.Run.{Run}
use Rattle.confirmation.specs.declared.Outcome.{Outcome}
use Rattle.confirmation.specs.declared.totals.Totals.{Totals}

-- a sum as 64 bits hold it: of recordings, exact for any store
abbrev pub sum64 : ℕ → ℕ → ℕ
sum64 a b = (a + b) % 2 ^ 64

-- the lines of an outcome where it is of the system of this number
unfoldable pub lines_if : Outcome → ℕ → ℕ
lines_if o number = cond (o.system == number) o.lines 0

-- 1 for a refused recording
unfoldable pub refusals_in : Outcome → ℕ
refusals_in o = cond (o.number == 0) 0 1

unfoldable pub no_totals : Totals
no_totals = record { files = 0; lines525 = 0; lines625 = 0; repairs = 0; refused = 0; unread = 0 }

-- a recording more that was read: its lines up to the end or the refusal
unfoldable pub with_read : Totals → Outcome → Totals
with_read t o =
    record {
      files = sum64 t.files 1;
      lines525 = sum64 t.lines525 (lines_if o (system_number Lines525));
      lines625 = sum64 t.lines625 (lines_if o (system_number Lines625));
      repairs = sum64 t.repairs o.repairs;
      refused = sum64 t.refused (refusals_in o);
      unread = t.unread;
    }

-- a recording more that could not be read: nothing of it counts
unfoldable pub with_unread : Totals → Totals
with_unread t =
    record {
      files = sum64 t.files 1;
      lines525 = t.lines525;
      lines625 = t.lines625;
      repairs = t.repairs;
      refused = t.refused;
      unread = sum64 t.unread 1;
    }

unfoldable pub lines_of : Totals → ℕ
lines_of t = sum64 t.lines525 t.lines625

-- The time in ten-thousandths of an hour, to the nearest. Of 625, 25 pictures a second, 5,625 lines are one; of 525, 30000/1001 pictures a
-- second, 5,670,000/1001 lines; and 5,670,000 is 1008 times 5,625.
unfoldable pub hours_of : Totals → ℕ
hours_of t = (1001 * t.lines525 + 1008 * t.lines625 + 2835000) / 5670000

-- a recording goes on where another ended: that one was accepted, and this one starts with the line that it awaits, of its system
unfoldable pub follows_on : Run → Run → Bool
follows_on before run =
    (before.number == 0) && (run.system == before.system && run.start == before.walk.line)
