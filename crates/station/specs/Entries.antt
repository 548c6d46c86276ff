-- What the packets file of `record` comes to, of the bytes that were filled of it.
use Rattle.std.specs.Prelude.{ℕ, ◌+◌, ◌%◌, ◌^◌, Bool, true, false, cond, ◌&&◌, List, take, ◌==◌, nat_lt, Result, Ok, Err}
use Rattle.intake.specs.declared.Filled.{Filled}
use Rattle.captions.specs.Entry.{Head, head_length, head_judged}
use Rattle.station.specs.declared.entries.Next.{Next}
use Rattle.station.specs.declared.entries.Next.TheVariants.{Nothing, Told, Bad, Lost}
use Rattle.station.specs.declared.entries.Entries.{Entries}
use Rattle.station.specs.declared.entries.Taken.{Taken}

-- something is left in the file: an entry, or what cannot be one
abbrev pub is_left : Next → Bool
is_left Nothing = false
is_left (Told entry) = true
is_left Bad = true
is_left Lost = true

-- a read failed
abbrev pub is_lost : Next → Bool
is_lost Nothing = false
is_lost (Told entry) = false
is_lost Bad = false
is_lost Lost = true

-- what comes next is for this space of this line
abbrev pub is_for : Next → ℕ → ℕ → Bool
is_for Nothing ordinal space = false
is_for (Told entry) ordinal space = entry.ordinal == ordinal && entry.space == space
is_for Bad ordinal space = false
is_for Lost ordinal space = false

-- where something else comes next
abbrev pub with_next : Entries → Next → Entries
with_next e next = record { file = e.file; ordinal = e.ordinal; at = e.at; least = e.least; next = next }

-- where the next line is awaited
abbrev pub next_line : Entries → Entries
next_line e = record { file = e.file; ordinal = (e.ordinal + 1) % 2 ^ 64; at = e.at; least = e.least; next = e.next }

-- behind an entry with so many bytes of words
abbrev pub behind_entry : Entries → ℕ → Entries
behind_entry e size =
    record {
      file = e.file;
      ordinal = e.ordinal;
      at = ((e.at + head_length) % 2 ^ 64 + size) % 2 ^ 64;
      least = e.least;
      next = e.next;
    }

-- what a head comes to that was judged
abbrev pub head_told : Entries → Head → Entries
head_told e head =
    cond (head.number == 0)
    (record { file = e.file; ordinal = e.ordinal; at = e.at; least = head.least; next = Told head.entry })
    (with_next e Bad)

-- What comes next, given what was filled of a head: a failed read is no end of the file, and at the end nothing is left; otherwise the bytes that
-- were filled are the next head.
unfoldable pub head_taken : Entries → List ℕ → Filled → Entries
head_taken e head filled =
    cond filled.failed (with_next e Lost)
    (cond (filled.have == 0) (with_next e Nothing) (head_told e (head_judged e.least (take filled.have head))))

-- nothing for a space
abbrev pub untaken_of : Entries → Taken
untaken_of e = record { entries = e; count = 0 }

-- nothing, since the words of an entry could not be had
abbrev pub stopped_by : Entries → Next → Result Taken Entries
stopped_by e next = Err (with_next e next)

-- The words of an entry, given what was filled of their bytes: "a file that ends inside an entry" makes it none.
unfoldable pub words_taken : Entries → Filled → ℕ → ℕ → Result Taken Entries
words_taken e filled size count =
    cond filled.failed (stopped_by e Lost)
    (cond (nat_lt filled.have size) (stopped_by e Bad) (Ok (record { entries = behind_entry e size; count = count })))
