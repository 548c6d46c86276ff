-- Damage, as a relation between the line that was written and the line that is read: "In each timing code invert .. of the seven bits,
-- and set the two low bits of timing words at will", and change nothing else.
use Rattle.std.specs.Prelude.{ℕ, ◌+◌, ◌*◌, ◌/◌, ◌<◌, ◌≡◌, List, cond, ltb, eqb, length, get_or}
use Rattle.std.specs.Int.Bits.{bit_xor}
use Rattle.timing.specs.declared.CodeReport.{CodeReport}
use Rattle.timing.specs.declared.CodeReport.TheVariants.{Clean, Repaired}
use Rattle.timing.specs.Code.{legal_of, seven_of, distance_of, bit_of}
use Rattle.system.specs.declared.due.Due.{Due}
use Rattle.line.specs.declared.What.{What}
use Rattle.line.specs.declared.What.TheVariants.{Ones, Zeros, Fourth, Fill, Sample}
use Rattle.line.specs.Offsets.{due_at}
use Rattle.words.specs.Words.{tab}

-- A word that is read where this was due and that was written: in a fourth word n of the seven bits are inverted, bit 9 is kept and the
-- low bits are at will; in the other timing words the low bits are at will; elsewhere nothing is changed.
abbrev pub Near : What → ℕ → ℕ → ℕ → Type 0
Near Ones n written read = read / 4 ≡ written / 4
Near Zeros n written read = read / 4 ≡ written / 4
Near (Fourth fvh) n written read = (read / 512 ≡ written / 512) × (distance_of (seven_of read) (seven_of written) ≡ n)
Near (Fill word) n written read = read ≡ written
Near Sample n written read = read ≡ written

-- Up to an offset the line read is the line written with so many bits inverted in EAV and in SAV; from there on anything may stand.
pub record DamagedUpTo (offset : ℕ) (d : Due) (written read : List ℕ) (eav sav : ℕ) : Type 0 where
  pub size : length read ≡ length written
  pub words : (i : ℕ) → i < offset → Near (due_at d i) (cond (ltb i 4) eav sav) (get_or written i 0) (get_or read i 0)

-- The whole line read is the line written with so many bits inverted in EAV and in SAV.
abbrev pub Damaged : Due → List ℕ → List ℕ → ℕ → ℕ → Type 0
Damaged d written read eav sav = DamagedUpTo (length written) d written read eav sav

-- Damage that is done: the bits of a mask inverted among the seven of each code, and the low bits of every timing word as told.
abbrev pub struck_where : What → ℕ → ℕ → ℕ → ℕ
struck_where Ones mask low written = written / 4 * 4 + low
struck_where Zeros mask low written = written / 4 * 4 + low
struck_where (Fourth fvh) mask low written = 512 + 4 * bit_xor (seven_of written) mask + low
struck_where (Fill word) mask low written = written
struck_where Sample mask low written = written

unfoldable pub struck : Due → ℕ → ℕ → (ℕ → ℕ) → List ℕ → List ℕ
struck d eav sav low written =
    tab (length written) (λ i. struck_where (due_at d i) (cond (ltb i 4) eav sav) (low i) (get_or written i 0))

-- What is to be told of a fourth word that is read where these F, V, H were written: clean, or the bit that differs.
abbrev pub told_of : ℕ → ℕ → CodeReport
told_of fvh read =
    cond (eqb (distance_of (seven_of read) (legal_of fvh)) 0) Clean (Repaired (bit_of (seven_of read) (legal_of fvh)))
