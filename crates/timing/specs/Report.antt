-- Document 01's number and values for each case of the answers that are enums.
use Rattle.std.specs.Prelude.{ℕ, ◌+◌, cond, eqb}
use Rattle.refusal.specs.Numbers.{not_due}
use Rattle.timing.specs.declared.Correction.{Correction}
use Rattle.timing.specs.declared.Correction.TheVariants as correction
use Rattle.timing.specs.declared.CodeReport.{CodeReport}
use Rattle.timing.specs.declared.CodeReport.TheVariants.{Clean, Repaired}
use Rattle.timing.specs.declared.Report.{Report}

-- the refusal's number, 0 where the word is accepted
abbrev pub number_of : Correction → ℕ
number_of (correction.Clean fvh) = 0
number_of (correction.Repaired fvh bit) = 0
number_of (correction.Refused number) = number

-- the number where these F, V, H are due: "9, the corrected F, V, H are not those due here"
abbrev pub number_where : ℕ → Correction → ℕ
number_where due (correction.Clean fvh) = cond (eqb fvh due) 0 not_due
number_where due (correction.Repaired fvh bit) = cond (eqb fvh due) 0 not_due
number_where due (correction.Refused number) = number

-- what a correction answers: a refusal's number, or 0 and F, V, H with the repaired bit's number, 0 where the word was clean
pub record Values : Type 0 where
  pub number : ℕ
  pub fvh : ℕ
  pub bit : ℕ

abbrev pub values_of : Correction → Values
values_of (correction.Clean fvh) = record { number = 0; fvh = fvh; bit = 0 }
values_of (correction.Repaired fvh bit) = record { number = 0; fvh = fvh; bit = bit }
values_of (correction.Refused number) = record { number = number; fvh = 0; bit = 0 }

-- "Per code the reader reports clean, or repaired with the bit's number"
abbrev pub code_report_of : Correction → CodeReport
code_report_of (correction.Clean fvh) = Clean
code_report_of (correction.Repaired fvh bit) = Repaired bit
code_report_of (correction.Refused number) = Clean

-- what a code's report tells: 0 where clean, or "repaired with the bit's number (2 to 8)"
abbrev pub bit_told : CodeReport → ℕ
bit_told Clean = 0
bit_told (Repaired bit) = bit

-- how many codes a report tells as repaired
abbrev pub repairs_in : CodeReport → ℕ
repairs_in Clean = 0
repairs_in (Repaired bit) = 1

abbrev pub repairs_of : Report → ℕ
repairs_of report = repairs_in report.eav + repairs_in report.sav

-- "its report says clean for both codes"
abbrev pub clean_report : Report
clean_report = record { eav = Clean; sav = Clean }
