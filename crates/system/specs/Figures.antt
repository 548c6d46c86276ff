-- Document 01, "Numbers and layout": the figures of each system, and F and V of a line.
use Rattle.std.specs.Prelude.{ℕ, ◌+◌, ◌-◌, Bool, true, false, cond, ◌&&◌, ◌||◌, ◌==◌, nat_le, nat_lt}
use Rattle.std.specs.Bool.{xor}
use Rattle.system.specs.declared.System.{System}
use Rattle.system.specs.declared.System.TheVariants.{Lines525, Lines625}

-- the number by which a system is named
abbrev pub system_number : System → ℕ
system_number Lines525 = 525
system_number Lines625 = 625

-- "words in a line"
abbrev pub line_length : System → ℕ
line_length Lines525 = 1716
line_length Lines625 = 1728

-- where SAV starts: "SAV, offsets 272-275 / 284-287"
abbrev pub sav_offset : System → ℕ
sav_offset Lines525 = 272
sav_offset Lines625 = 284

-- the active part follows the four words of SAV: "276-1715 / 288-1727"
abbrev pub active_offset : System → ℕ
active_offset s = sav_offset s + 4

-- "line number outside 1 to 525, or 1 to 625"
abbrev pub line_count : System → ℕ
line_count Lines525 = 525
line_count Lines625 = 625

abbrev pub between : ℕ → ℕ → ℕ → Bool
between first last n = nat_le first n && nat_le n last

-- "V = 1: 1-19, 264-282 / 624-625, 1-22, 311-335. All else is 0."
unfoldable pub v_of : System → ℕ → Bool
v_of Lines525 n = between 1 19 n || between 264 282 n
v_of Lines625 n = between 624 625 n || (between 1 22 n || between 311 335 n)

-- Document 02, L1: "In 525, V may fall at any line from 10 to 20 and 273 to 283": the lines on which it may have fallen before the table
-- has it
unfoldable pub may_fall : System → ℕ → Bool
may_fall Lines525 n = between 10 19 n || between 273 282 n
may_fall Lines625 n = false

-- "it is looked at only on lines 11 to 19 and 274 to 282": the lines on which the walk's record of the line before counts
unfoldable pub looks_back : System → ℕ → Bool
looks_back Lines525 n = between 11 19 n || between 274 282 n
looks_back Lines625 n = false

-- "The writer is told the first field's fall line ..; outside 10 to 20 is refusal 2; 625 ignores it."
unfoldable pub is_fall : System → ℕ → Bool
is_fall Lines525 fall = between 10 20 fall
is_fall Lines625 fall = true

-- V of a line that is written, where V of the first field falls at this line, "the second's being 263 later"
unfoldable pub v_written : System → ℕ → ℕ → Bool
v_written Lines525 n fall = (nat_le 1 n && nat_lt n fall) || (nat_le 264 n && nat_lt n (fall + 263))
v_written Lines625 n fall = v_of Lines625 n

-- "F = 1: 266-525, 1-3 / 313-625. All else is 0."
unfoldable pub f_of : System → ℕ → Bool
f_of Lines525 n = between 266 525 n || between 1 3 n
f_of Lines625 n = between 313 625 n

-- "After the last line comes line 1."
unfoldable pub next_line : System → ℕ → ℕ
next_line s n = cond (nat_lt n (line_count s)) (n + 1) 1

-- so before line 1 comes the last line
abbrev pub line_before : System → ℕ → ℕ
line_before s n = cond (n == 1) (line_count s) (n - 1)

-- Document 02, L9, "whose F differs from the accepted line before it": that is the line with the number before, so F of the two numbers decides,
-- of a line of the system
unfoldable pub turns_field : System → ℕ → Bool
turns_field s n = between 1 (line_count s) n && xor (f_of s n) (f_of s (line_before s n))

-- "system is neither 525 nor 625"
unfoldable pub is_system : ℕ → Bool
is_system number = number == system_number Lines525 || number == system_number Lines625

-- the system that such a number names
unfoldable pub system_of : ℕ → System
system_of number = cond (number == system_number Lines525) Lines525 Lines625
