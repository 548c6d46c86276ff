-- When what is to be written fits a line. On V = 1 lines samples are only measured.
use Rattle.std.specs.Prelude.{ℕ, ◌+◌, ◌<◌, ◌≤◌, ◌≡◌, false, length}
use Rattle.packets.specs.Fault.{ready_refusal}
use Rattle.system.specs.declared.due.Due.{Due}
use Rattle.system.specs.Figures.{sav_offset, active_offset}
use Rattle.words.specs.Words.{least_sample, most_sample}
use Rattle.line.specs.Fault.{between_offset}
use Rattle.line.specs.Lengths.{active_room}
use Rattle.line.specs.Samples.{Samples, Packets, Content, active_length, y_length, c_length, sample_at}

-- "Y, CB and CR exactly 720, 360, 360."
pub record Measured (p : Samples) : Type 0 where
  pub y : length p.y ≡ y_length
  pub cb : length p.cb ≡ c_length
  pub cr : length p.cr ≡ c_length

-- "A sample is 4 to 1019": the sample at each place of the active part
abbrev pub Inside : Samples → Type 0
Inside p = (place : ℕ) → place < active_length → (least_sample ≤ sample_at p place) × (sample_at p place ≤ most_sample)

-- Ready words fit the line: no more than each space holds, none for the active part where V is 0, and each judged well as a space of just their
-- length.
pub record Carried (d : Due) (k : Packets) : Type 0 where
  pub within_between_room : between_offset + length k.between ≤ sav_offset d.system
  pub within_active_room : length k.active ≤ active_room d
  pub between_well : (ready_refusal between_offset k.between).number ≡ 0
  pub active_well : (ready_refusal (active_offset d.system) k.active).number ≡ 0

-- what a line is to carry fits it: the samples' lengths, where V is 0 each from 4 to 1019, and the packets
pub record Fit (d : Due) (c : Content) : Type 0 where
  pub lengths : Measured c.samples
  pub range : d.v ≡ false → Inside c.samples
  pub packets : Carried d c.packets
