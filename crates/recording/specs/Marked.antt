-- Document 01, "Marked samples": the table as a whole, by a single statement of the definitions.
use Rattle.std.specs.Prelude.{ℕ, ◌≡◌, true, false, [], ◌∷◌, map}
use Rattle.timing.specs.Code.{fourth_of, correction_of}
use Rattle.timing.specs.Report.{values_of}
use Rattle.system.specs.declared.System.TheVariants.{Lines525, Lines625}
use Rattle.system.specs.Figures.{v_of, f_of}
use Rattle.system.specs.Due.{due_of}
use Rattle.line.specs.Offsets.{due_at}
use Rattle.line.specs.Fault.{fault_where}
use Rattle.serial.specs.Calls.{fresh_state, code_answer, code_output}

pub record Marked : Type 0 where
  -- fourth words for FVH 000 to 111
  pub m1 : map fourth_of (0 ∷ 1 ∷ 2 ∷ 3 ∷ 4 ∷ 5 ∷ 6 ∷ 7 ∷ []) ≡ 512 ∷ 628 ∷ 684 ∷ 728 ∷ 796 ∷ 872 ∷ 944 ∷ 964 ∷ []
  -- 628: clean, FVH 001
  pub m2 : values_of (correction_of 628) ≡ record { number = 0; fvh = 1; bit = 0 }
  -- 631: clean, FVH 001
  pub m3 : values_of (correction_of 631) ≡ record { number = 0; fvh = 1; bit = 0 }
  -- 624: repaired, bit 2, FVH 001
  pub m4 : values_of (correction_of 624) ≡ record { number = 0; fvh = 1; bit = 2 }
  -- 632: refused, 8
  pub m5 : values_of (correction_of 632) ≡ record { number = 8; fvh = 0; bit = 0 }
  -- 116: refused, 7
  pub m6 : values_of (correction_of 116) ≡ record { number = 7; fvh = 0; bit = 0 }
  -- 876 in EAV of line 100, 625: corrected to 872, refused, 9
  pub m7 : (values_of (correction_of 876) ≡ record { number = 0; fvh = 5; bit = 2 }) × (fourth_of 5 ≡ 872) × (fault_where (due_at (due_of Lines625 100 20) 3) 876 ≡ 9)
  -- 625, line 22 and line 23: V = 1, V = 0
  pub m8 : (v_of Lines625 22 ≡ true) × (v_of Lines625 23 ≡ false)
  -- 525, line 3 and line 4: F = 1, F = 0, V = 1 for both
  pub m9 : (f_of Lines525 3 ≡ true) × (f_of Lines525 4 ≡ false) × (v_of Lines525 3 ≡ true) × (v_of Lines525 4 ≡ true)
  -- words 1, 0 coded from fresh: 543, 736
  pub m10 : (a b : ℕ) → code_output fresh_state (1 ∷ 0 ∷ []) (a ∷ b ∷ []) ≡ 543 ∷ 736 ∷ []
  -- serial state after the word 1 alone: 17, last bit 1
  pub m11 : (a : ℕ) → (code_answer fresh_state (1 ∷ []) (a ∷ [])).state ≡ record { scrambled = 17; last = 1 }
