-- What was due in a line before L1, and the lines that L1 does not touch, for the statements that they are judged and written as before.
use Rattle.std.specs.Prelude.{◌≡◌, ℕ, true, false, ◌==◌}
use Rattle.timing.specs.declared.Correction.{Correction}
use Rattle.timing.specs.declared.Correction.TheVariants.{Clean, Repaired, Refused}
use Rattle.timing.specs.Code.{v_bit, correction_of}
use Rattle.system.specs.declared.System.{System}
use Rattle.system.specs.declared.due.Due.{Due}
use Rattle.system.specs.declared.walk.Walk.{Walk}
use Rattle.system.specs.Figures.{system_of, v_of, may_fall}
use Rattle.system.specs.Due.{due_with}
use Rattle.system.specs.Walk.{has_fallen}

-- the awaited line's number alone decided
abbrev pub table_due : Walk → Due
table_due w = due_with (system_of w.system) w.line (v_of (system_of w.system) w.line)

-- a code corrects to the table's V, or does not correct
abbrev pub SaysTable : System → ℕ → Correction → Type 0
SaysTable s line (Clean fvh) = (v_bit fvh == 1) ≡ v_of s line
SaysTable s line (Repaired fvh bit) = (v_bit fvh == 1) ≡ v_of s line
SaysTable s line (Refused number) = Unit {0}

-- a line, by the fourth word of its EAV, that L1 does not touch: the record says no or is not looked at, and where V may fall the code does
-- not say that it has
pub record Untouched (w : Walk) (fourth : ℕ) : Type 0 where
  pub record_silent : has_fallen (system_of w.system) w.line w.fallen ≡ false
  pub code : may_fall (system_of w.system) w.line ≡ true → SaysTable (system_of w.system) w.line (correction_of fourth)
