-- For private passes: no contract of a public call and no promise cites this file.
-- What the quick pass over a space has found, and what the scan keeps.
use Rattle.std.specs.Prelude.{ℕ, ◌+◌, ◌-◌, ◌%◌, ◌<◌, ◌≤◌, ◌≡◌}
use Rattle.packets.specs.declared.due.Holder.{Holder}
use Rattle.packets.specs.Due.{sum_from, size_at, due_in}
use Rattle.packets.specs.Fault.{fault_where, space_to}

-- a packet that starts at an offset fits the space, and no word of it behind the first three has a fault
pub record PacketWell (word : ℕ → ℕ) (stop p : ℕ) : Type 0 where
  pub fits : p + size_at word p ≤ stop
  pub well : (j : ℕ) → 3 ≤ j → j < size_at word p → fault_where (due_in word stop p j) (word (p + j)) ≡ 0

-- what holds an offset starts there at the latest, and its sum is that of its words before the offset, from the data identifier on
abbrev pub Summed : (ℕ → ℕ) → Holder → ℕ → Type 0
Summed word holder i = (holder.start ≤ i) × (holder.sum ≡ sum_from word (holder.start + 3) (i - holder.start - 3) % 512)

-- nothing is wrong with the space, and so many of its words are packets
abbrev pub Passed : (ℕ → ℕ) → ℕ → ℕ → ℕ → ℕ → ℕ → Type 0
Passed word start stop even odd packets = space_to word start stop even odd ≡ record { number = 0; place = 0; packets = packets }
