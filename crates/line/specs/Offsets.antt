-- Document 01, "Numbers and layout": what is due at each offset of a line.
use Rattle.std.specs.Prelude.{ℕ, ◌-◌, ◌%◌, true, false, cond, ltb, eqb}
use Rattle.system.specs.declared.due.Due.{Due}
use Rattle.words.specs.declared.FillWords.{FillWords}
use Rattle.system.specs.Figures.{sav_offset, active_offset}
use Rattle.system.specs.Due.{flags_of}
use Rattle.line.specs.declared.What.{What}
use Rattle.line.specs.declared.What.TheVariants.{Ones, Zeros, Fourth, Fill, Sample}

-- "A timing code is four words: 1023, 0, 0, then the fourth word": its k-th word, from 0
abbrev pub code_at : ℕ → ℕ → What
code_at fvh k = cond (eqb k 0) Ones (cond (ltb k 3) Zeros (Fourth fvh))

-- "Fill, by offset in the line"
abbrev pub fill_at : FillWords → ℕ → What
fill_at fill i = cond (eqb (i % 2) 0) (Fill fill.even) (Fill fill.odd)

-- the line's four parts: EAV, blanking between, SAV, active part; "On lines with V = 1 the active part is fill"
unfoldable pub due_at : Due → ℕ → What
due_at d i =
    cond (ltb i 4) (code_at (flags_of d true) i)
    (cond (ltb i (sav_offset d.system)) (fill_at d.fill i)
    (cond (ltb i (active_offset d.system)) (code_at (flags_of d false) (i - sav_offset d.system))
    (cond d.v (fill_at d.fill i) Sample)))
