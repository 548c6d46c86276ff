-- Document 02, L10: what reading every line tells, by the judge's own definitions, and what it is that lines a to b are all clean.
use Rattle.std.specs.Prelude.{◌≡◌, ℕ, ◌<◌, ◌≤◌, List, [], ◌∷◌, length, slice_index_or}
use Rattle.timing.specs.declared.Report.{Report}
use Rattle.timing.specs.Report.{repairs_of, clean_report}
use Rattle.system.specs.declared.walk.Walk.{Walk}
use Rattle.bytewise.specs.Bytes.{judged_bytes}

-- the report of each line, from a walk on
unfoldable pub reports_of : Walk → List (List ℕ) → List Report
reports_of w [] = []
reports_of w (line ∷ rest) = (judged_bytes w line).report ∷ reports_of (judged_bytes w line).walk rest

-- "all lines are accepted", from a walk on
abbrev pub AllAccepted : Walk → List (List ℕ) → Type 0
AllAccepted w [] = Unit {0}
AllAccepted w (line ∷ rest) = ((judged_bytes w line).number ≡ 0) × AllAccepted (judged_bytes w line).walk rest

-- how many codes of each line were repaired
unfoldable pub repairs_of_all : List Report → List ℕ
repairs_of_all [] = []
repairs_of_all (report ∷ rest) = repairs_of report ∷ repairs_of_all rest

-- "lines a to b are all clean": the report of each of them says clean for both codes
abbrev pub AllClean : ℕ → ℕ → List Report → Type 0
AllClean a b reports = (i : ℕ) → a ≤ i → i ≤ b → i < length reports → slice_index_or reports i clean_report ≡ clean_report
