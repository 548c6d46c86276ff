-- Document 01, "Numbers and layout", and document 02, L6: what a line carries, samples and packets, and the line that is written of it.
use Rattle.std.specs.Prelude.{ℕ, ◌+◌, ◌-◌, ◌*◌, ◌/◌, ◌%◌, List, [], cond, ◌&&◌, length, get_or, take, drop, ltb, leb, eqb}
use Rattle.words.specs.Words.{most_word, tab}
use Rattle.system.specs.Figures.{line_length, active_offset}
use Rattle.timing.specs.Code.{fourth_of}
use Rattle.system.specs.declared.due.Due.{Due}
use Rattle.line.specs.declared.What.{What}
use Rattle.line.specs.declared.What.TheVariants.{Ones, Zeros, Fourth, Fill, Sample}
use Rattle.line.specs.Offsets.{due_at}
use Rattle.line.specs.Fault.{between_offset, counts_of}

-- "1440 words: 720 Y, 360 CB, 360 CR"
abbrev pub active_length : ℕ
active_length = 1440

abbrev pub y_length : ℕ
y_length = 720

abbrev pub c_length : ℕ
c_length = 360

-- the samples of a line
pub record Samples : Type 0 where
  pub y : List ℕ
  pub cb : List ℕ
  pub cr : List ℕ

-- "Active part: CB, Y, CR, Y repeated": the sample at a place of it
unfoldable pub sample_at : Samples → ℕ → ℕ
sample_at p place =
    cond (eqb (place % 2) 1) (get_or p.y (place / 2) 0)
    (cond (eqb (place % 4) 0) (get_or p.cb (place / 4) 0) (get_or p.cr (place / 4) 0))

-- the word that is written where this is due: "The writer sets low bits as shown"
abbrev pub word_where : What → ℕ → ℕ
word_where Ones sample = most_word
word_where Zeros sample = 0
word_where (Fourth fvh) sample = fourth_of fvh
word_where (Fill word) sample = word
word_where Sample sample = sample

-- the word of a line without packets at an offset, and that line
abbrev pub bare_at : Due → Samples → ℕ → ℕ
bare_at d p i = word_where (due_at d i) (sample_at p (i - active_offset d.system))

unfoldable pub bare_of : Due → Samples → List ℕ
bare_of d p = tab (line_length d.system) (bare_at d p)

-- the words of a line's packets, ready to be written: in the space between EAV and SAV, and in the active part
pub record Packets : Type 0 where
  pub between : List ℕ
  pub active : List ℕ

abbrev pub nothing_ready : Packets
nothing_ready = record { between = []; active = [] }

-- all that a line carries
pub record Content : Type 0 where
  pub samples : Samples
  pub packets : Packets

-- words that are laid from an offset on over others
abbrev pub laid_at : List ℕ → ℕ → (ℕ → ℕ) → ℕ → ℕ
laid_at ready from under i = cond (leb from i && ltb i (from + length ready)) (get_or ready (i - from) 0) (under i)

-- "The writer takes ready packet words for each space and fills the rest."
abbrev pub written_at : Due → Content → ℕ → ℕ
written_at d c i =
    laid_at c.packets.active (active_offset d.system) (laid_at c.packets.between between_offset (bare_at d c.samples)) i

-- the line that is written
unfoldable pub line_of : Due → Content → List ℕ
line_of d c = tab (line_length d.system) (written_at d c)

-- the samples of a line whose active part starts at an offset
abbrev pub ys_from : ℕ → List ℕ → List ℕ
ys_from active words = tab y_length (λ k. get_or words (active + (2 * k + 1)) 0)

abbrev pub cbs_from : ℕ → List ℕ → List ℕ
cbs_from active words = tab c_length (λ k. get_or words (active + 4 * k) 0)

abbrev pub crs_from : ℕ → List ℕ → List ℕ
crs_from active words = tab c_length (λ k. get_or words (active + (4 * k + 2)) 0)

abbrev pub samples_from : ℕ → List ℕ → Samples
samples_from active words = record { y = ys_from active words; cb = cbs_from active words; cr = crs_from active words }

unfoldable pub samples_of : Due → List ℕ → Samples
samples_of d words = samples_from (active_offset d.system) words

-- the packets of a line: the first words of each space, as many as are packets
unfoldable pub packets_of : Due → List ℕ → Packets
packets_of d words =
    record {
      between = take (counts_of d words).between (drop between_offset words);
      active = take (counts_of d words).active (drop (active_offset d.system) words);
    }

-- all that a line carries, as it is read
abbrev pub content_of : Due → List ℕ → Content
content_of d words = record { samples = samples_of d words; packets = packets_of d words }

-- the samples of an active part that a caller holds
abbrev pub part_samples : List ℕ → Samples
part_samples part = samples_from 0 part
