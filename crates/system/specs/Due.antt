-- Document 01, "Numbers and layout": what is due in a line, told by its system, F, V and fill.
use Rattle.std.specs.Prelude.{ℕ, ◌+◌, ◌*◌, Bool, cond}
use Rattle.system.specs.declared.System.{System}
use Rattle.system.specs.declared.due.Due.{Due}
use Rattle.words.specs.declared.FillWords.{FillWords}
use Rattle.system.specs.Figures.{v_written, f_of}

-- "Fill, by offset in the line: 512 at even, 64 at odd offsets."
abbrev pub blank_fill : FillWords
blank_fill = record { even = 512; odd = 64 }

-- "F and V .. hold for its EAV and its SAV": what is due in the line with this number where this is its V
unfoldable pub due_with : System → ℕ → Bool → Due
due_with s line v = record { system = s; f = f_of s line; v = v; fill = blank_fill }

-- where V falls at this line: for all who write
unfoldable pub due_of : System → ℕ → ℕ → Due
unfolding due_with
due_of s line fall = due_with s line (v_written s line fall)

-- a flag as a bit
abbrev pub flag : Bool → ℕ
flag t = cond t 1 0

-- F, V, H as a number from 0 to 7; "H is 1 in EAV, 0 in SAV"
unfoldable pub flags_of : Due → Bool → ℕ
flags_of d h = 4 * flag d.f + 2 * flag d.v + flag h
