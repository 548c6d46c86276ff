-- Documents 01 and 02: the whole answer of writing a line: number, place, and the line afterwards.
use Rattle.std.specs.Prelude.{ℕ, List, [], ◌∷◌, cond, not, ◌||◌, length, ltb, eqb}
use Rattle.refusal.specs.declared.Refusal.{Refusal}
use Rattle.refusal.specs.Numbers.{wrong_length, outside}
use Rattle.refusal.specs.Answer.{none, refuse, written_by, or_else, first_of, first_from}
use Rattle.packets.specs.Fault.{ready_refusal}
use Rattle.system.specs.declared.due.Due.{Due}
use Rattle.system.specs.Figures.{active_offset, system_of}
use Rattle.system.specs.Due.{due_of}
use Rattle.system.specs.Walk.{written_refusal}
use Rattle.words.specs.Words.{least_sample, most_sample}
use Rattle.line.specs.Fault.{between_offset}
use Rattle.line.specs.Lengths.{length_refusal, buffer_refusal, room_refusal}
use Rattle.line.specs.Samples.{Samples, Packets, Content, active_length, sample_at, line_of, part_samples}

-- "sample to be written is outside 4 to 1019: its place in the active part, 0 to 1439"
abbrev pub outside_at : Samples → ℕ → ℕ
outside_at p place = cond (ltb (sample_at p place) least_sample || ltb most_sample (sample_at p place)) outside 0

-- "then 12 at the lowest place, on V = 0 lines only"
unfoldable pub sample_refusal : Due → Samples → Refusal
sample_refusal d p = cond d.v none (first_from (outside_at p) 0 active_length)

-- what refuses ready packet words: 3 at 4 and 5, "then they are judged as a space of just their length", those of the space between first
unfoldable pub packets_refusal : Due → Packets → Refusal
packets_refusal d k =
    first_of
    (room_refusal d (length k.between) (length k.active)
    ∷ ready_refusal between_offset k.between
    ∷ ready_refusal (active_offset d.system) k.active
    ∷ [])

-- what refuses to write a line in which this is due: 3, the ready packet words, "and 12 comes last"
unfoldable pub due_refusal : Due → Content → ℕ → Refusal
due_refusal d c room =
    first_of
    (length_refusal d.system room
    ∷ buffer_refusal (length c.samples.y) (length c.samples.cb) (length c.samples.cr)
    ∷ packets_refusal d c.packets
    ∷ sample_refusal d c.samples
    ∷ [])

-- and of an active part: 3 at 0 for the line and at 1 for the part, the ready packet words, then 12
unfoldable pub part_refusal : Due → List ℕ → Packets → ℕ → Refusal
part_refusal d part k room =
    first_of
    (length_refusal d.system room
    ∷ refuse (not (eqb (length part) active_length)) wrong_length 1
    ∷ packets_refusal d k
    ∷ sample_refusal d (part_samples part)
    ∷ [])

-- what a line carries of an active part and ready packet words
abbrev pub part_content : List ℕ → Packets → Content
part_content part k = record { samples = part_samples part; packets = k }

-- "Writer: 1, 2, 3", the ready packet words, "then 12": by the line's number and "the first field's fall line"
unfoldable pub write_refusal : ℕ → ℕ → ℕ → Content → ℕ → Refusal
unfolding due_refusal
write_refusal system line fall c room = or_else (written_refusal system line fall) (due_refusal (due_of (system_of system) line fall) c room)

-- the line afterwards: "No refusal writes a buffer."
unfoldable pub line_after : ℕ → ℕ → ℕ → Content → List ℕ → List ℕ
line_after system line fall c before = written_by (write_refusal system line fall c (length before)) (line_of (due_of (system_of system) line fall) c) before
