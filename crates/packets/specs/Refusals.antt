-- When a space is refused, in the document's order: the tables that the answers keep to.
use Rattle.std.specs.Prelude.{ℕ, ◌+◌, ◌-◌, ◌%◌, ◌<◌, ◌≤◌, ◌≡◌, List, ◌⊎◌, length}
use Rattle.refusal.specs.Numbers.{over_ten, no_fill, reserved, bad_parity, bad_checksum, packet_past}
use Rattle.refusal.specs.Table.{Row, when, ◌before◌, Lowest}
use Rattle.words.specs.Words.{most_word, least_sample, most_sample}
use Rattle.packets.specs.declared.due.What.{What}
use Rattle.packets.specs.declared.due.What.TheVariants.{Exactly, Header, Count, User, Checksum}
use Rattle.packets.specs.Packet.{header_of}
use Rattle.packets.specs.Due.{due_at}
use Rattle.packets.specs.Fault.{no_word, word_at}

-- "bad header parity"
abbrev pub BadParity : ℕ → Type 0
BadParity w = w ≡ header_of (w % 256) → ⊥

-- the rows for a word of ten bits at a place of a space, by what is due there
abbrev pub where_refusals : What → ℕ → ℕ → Row
where_refusals (Exactly word) w place = when (w ≡ word → ⊥) no_fill place
where_refusals Header w place = when (BadParity w) bad_parity place
where_refusals (Count room) w place = when (BadParity w) bad_parity place before when (room < w % 256) packet_past place
where_refusals User w place = when ((w < least_sample) ⊎ (most_sample < w)) reserved place
where_refusals (Checksum word) w place = when (w ≡ word → ⊥) bad_checksum place

-- "At one offset 5 comes first, 15 before 17."
abbrev pub place_refusals : What → ℕ → ℕ → Row
place_refusals due w place = when (most_word < w) over_ten place before where_refusals due w place

-- "judged as a space of just their length, by line offsets, with 10 wherever no packet starts": the table of ready words from an offset of the
-- line on, below which nothing is asked for
abbrev pub ready_refusals : ℕ → List ℕ → Row
ready_refusals start ready =
    Lowest (start + length ready)
    (λ i r. (start ≤ i) × place_refusals (due_at (word_at ready) 0 (length ready) no_word no_word (i - start)) (word_at ready (i - start)) i r)
