-- For a private pass: no contract of a public call and no promise cites this file.
-- What the writer's own passes over buffers, and over the parts of a line, leave.
use Rattle.std.specs.Prelude.{ℕ, ◌-◌, ◌<◌, ◌≤◌, ◌≡◌, List, length, get_or}
use Rattle.system.specs.declared.due.Due.{Due}
use Rattle.system.specs.Figures.{line_length, active_offset}
use Rattle.line.specs.Offsets.{code_at, fill_at}
use Rattle.line.specs.Samples.{Samples, Packets, sample_at, word_where, bare_at, laid_at}
use Rattle.writer.specs.declared.ready.Ready.{Ready}

-- the ready words that a caller lends
abbrev pub packets_in : Ready → Packets
packets_in r = record { between = r.between.now; active = r.active.now }

-- what stores from one offset up to another leave: the words below as they were, and these words there
pub record Put (word : ℕ → ℕ) (from to : ℕ) (before after : List ℕ) : Type 0 where
  pub size : length after ≡ length before
  pub kept : (i : ℕ) → i < from → get_or after i 0 ≡ get_or before i 0
  pub there : (i : ℕ) → i < to → from ≤ i → get_or after i 0 ≡ word i

-- the words of a timing code that starts at an offset; no sample is due there, and 0 stands for it
abbrev pub code_word : ℕ → ℕ → ℕ → ℕ
code_word fvh at i = word_where (code_at fvh (i - at)) 0

-- the words of fill
abbrev pub fill_word : Due → ℕ → ℕ
fill_word d i = word_where (fill_at d.fill i) 0

-- the words of an active part that starts at an offset
abbrev pub active_word : Samples → ℕ → ℕ → ℕ
active_word p at i = sample_at p (i - at)

-- the same words as a part holds them
abbrev pub part_word : List ℕ → ℕ → ℕ → ℕ
part_word part at i = get_or part (i - at) 0

-- what laying words from an offset on leaves: these words there, and all others as they were
pub record Laid (ready : List ℕ) (from : ℕ) (before after : List ℕ) : Type 0 where
  pub size : length after ≡ length before
  pub word : (i : ℕ) → i < length before → get_or after i 0 ≡ laid_at ready from (λ k. get_or before k 0) i

-- EAV, the blanking between and SAV stand: the line's own words up to the active part
pub record Blanked (d : Due) (p : Samples) (words : List ℕ) : Type 0 where
  pub size : length words ≡ line_length d.system
  pub there : (i : ℕ) → i < active_offset d.system → get_or words i 0 ≡ bare_at d p i
