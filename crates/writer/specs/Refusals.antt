-- When writing is refused, in the document's order: the tables that the answers keep to.
use Rattle.std.specs.Prelude.{ℕ, ◌<◌, ◌≡◌, false, List, ◌⊎◌, length}
use Rattle.refusal.specs.Numbers.{wrong_length, outside}
use Rattle.refusal.specs.Table.{Row, when, ◌before◌, Lowest}
use Rattle.packets.specs.Refusals.{ready_refusals}
use Rattle.system.specs.declared.due.Due.{Due}
use Rattle.system.specs.Figures.{active_offset, system_of}
use Rattle.system.specs.Due.{due_of}
use Rattle.system.specs.Refusals.{written_refusals}
use Rattle.words.specs.Words.{least_sample, most_sample}
use Rattle.line.specs.Fault.{between_offset}
use Rattle.line.specs.Lengths.{length_refusals, buffer_refusals, room_refusals}
use Rattle.line.specs.Samples.{Samples, Packets, Content, active_length, sample_at, part_samples}

-- "12 at the lowest place, on V = 0 lines only"
abbrev pub sample_refusals : Due → Samples → Row
sample_refusals d p =
    Lowest active_length (λ place. when ((d.v ≡ false) × ((sample_at p place < least_sample) ⊎ (most_sample < sample_at p place))) outside place)

-- ready packet words: "3, place 4 or 5; then they are judged", those of the space between first
abbrev pub packets_refusals : Due → Packets → Row
packets_refusals d k =
    room_refusals d (length k.between) (length k.active)
    before ready_refusals between_offset k.between
    before ready_refusals (active_offset d.system) k.active

-- 3, the ready packet words, "and 12 comes last", by what is due in the line
abbrev pub due_refusals : Due → Content → ℕ → Row
due_refusals d c room =
    length_refusals d.system room
    before buffer_refusals (length c.samples.y) (length c.samples.cb) (length c.samples.cr)
    before packets_refusals d c.packets
    before sample_refusals d c.samples

abbrev pub part_refusals : Due → List ℕ → Packets → ℕ → Row
part_refusals d part k room =
    length_refusals d.system room
    before when (length part ≡ active_length → ⊥) wrong_length 1
    before packets_refusals d k
    before sample_refusals d (part_samples part)

-- "1, 2", a fall line outside 10 to 20 among it, "3", the ready packet words, "then 12 at the lowest place, on V = 0 lines only"
abbrev pub write_refusals : ℕ → ℕ → ℕ → Content → ℕ → Row
write_refusals system line fall c room = written_refusals system line fall before due_refusals (due_of (system_of system) line fall) c room
