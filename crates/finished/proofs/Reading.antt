-- What reading every line tells: a run goes on exactly where all lines are accepted, by induction on the lines; such lines are whole and are
-- counted; and reports are clean exactly where they tell of no repairs. Assumes nothing.
use Rattle.std.proofs.Common.{◌≡◌, ℕ, zero, suc, ◌+◌, ◌*◌, ◌≤◌, true, eqb, ltb, List, [], ◌∷◌, length, get_or, sym, refl, ap, ◌∙◌, ⊎_elim, arith, length-append, ltb-false, ltb-true, eq-eqb, eqb-true}
use mathlib.Core.List.{flatten}
use mathlib.Core.List.Memᴰ
use mathlib.Core.List.{Memᴰ}
use lib.ListN.{get_or-eq_default}
use borrow.Author.Tests.{eqb-false}
use Rattle.refusal.proofs.Cases.{by_test}
use Rattle.intake.specs.Arrival.{all_pieces}
use Rattle.intake.proofs.Pieces.{pieces_joined}
use Rattle.timing.specs.declared.CodeReport.{CodeReport}
use Rattle.timing.specs.declared.CodeReport.TheVariants.{Clean, Repaired}
use Rattle.timing.specs.declared.Report.{Report}
use Rattle.timing.specs.Report.{repairs_in, repairs_of, clean_report}
use Rattle.system.specs.declared.walk.Walk.{Walk}
use Rattle.system.specs.Figures.{line_length, system_of}
use Rattle.system.specs.Walk.{most_lines, line_bytes}
use Rattle.system.proofs.Laws.{at_most_two}
use Rattle.bytewise.specs.Bytes.{judged_bytes}
use Rattle.bytewise.proofs.Judged.{accepted_counted}
use Rattle.confirmation.specs.declared.Run.{Run}
use Rattle.confirmation.specs.Run.{judged_next, through}
use Rattle.confirmation.proofs.Nexts.{next_system}
use Rattle.confirmation.proofs.Bodies.{line_has_bytes, through_ended}
use Rattle.index.specs.Entries.{Repairs, no_line, line, clean}
use Rattle.index.proofs.Entries.{clean_each, clean_all}
use Rattle.finished.specs.Reading.{reports_of, AllAccepted, repairs_of_all, AllClean}

-- ---- A run goes on exactly where all lines are accepted.
through_next : (r : Run) (bytes : List ℕ) (rest : List (List ℕ)) → r.number ≡ 0 → through r (bytes ∷ rest) ≡ through (judged_next r bytes) rest
unfolding through
through_next r bytes rest e = simp (eq-eqb _ _ e)

pub through_accepted : (lines : List (List ℕ)) (r : Run) → r.number ≡ 0 → (through r lines).number ≡ 0 → AllAccepted r.walk lines
unfolding judged_next
through_accepted [] r e z = tt
through_accepted (bytes ∷ rest) r e z =
    let next = judged_next r bytes in
    let on : (through next rest).number ≡ 0 = ap (λ (s : Run). s.number) (sym (through_next r bytes rest e)) ∙ z in
    by_test (eqb next.number 0)
    (λ t. (eqb-true _ _ t, through_accepted rest next (eqb-true _ _ t) on))
    (λ f. absurd (eqb-false _ _ f (ap (λ (s : Run). s.number) (sym (through_ended next rest (eqb-false _ _ f))) ∙ on)))

pub accepted_through : (lines : List (List ℕ)) (r : Run) → r.number ≡ 0 → AllAccepted r.walk lines → (through r lines).number ≡ 0
unfolding judged_next through
accepted_through [] r e all = e
accepted_through (bytes ∷ rest) r e all =
    ap (λ (s : Run). s.number) (through_next r bytes rest e) ∙ accepted_through rest (judged_next r bytes) all.0 all.1

-- its lines are counted, and its system stays
pub through_lines : (lines : List (List ℕ)) (r : Run) → r.number ≡ 0 → AllAccepted r.walk lines
    → (through r lines).walk.lines ≡ r.walk.lines + length lines
unfolding judged_next through
through_lines [] r e all = omega arith
through_lines (bytes ∷ rest) r e all =
    ap (λ (s : Run). s.walk.lines) (through_next r bytes rest e)
    ∙ omega (arith, through_lines rest (judged_next r bytes) all.0 all.1, (accepted_counted r.walk bytes all.0).lines)

pub through_system : (lines : List (List ℕ)) (r : Run) → (through r lines).walk.system ≡ r.walk.system
unfolding through
through_system [] r = refl
through_system (bytes ∷ rest) r =
    by_test (eqb r.number 0) (λ t. simp t (through_system rest (judged_next r bytes) ∙ next_system r bytes)) (λ f. simp f)

-- ---- Lines that are accepted are whole, and there is room for all of them.
same_bytes : (w : Walk) (bytes : List ℕ) → (judged_bytes w bytes).number ≡ 0 → line_bytes (judged_bytes w bytes).walk ≡ line_bytes w
same_bytes w bytes z = ap (λ (n : ℕ). 2 * line_length (system_of n)) (accepted_counted w bytes z).system

pub accepted_whole : (lines : List (List ℕ)) (w : Walk) → AllAccepted w lines → (one : List ℕ) → Memᴰ one lines → length one ≡ line_bytes w
accepted_whole [] w all one at = absurd (Memᴰ.not-nil at)
accepted_whole (bytes ∷ rest) w all one at =
    ⊎_elim (λ e. ap length e ∙ (accepted_counted w bytes all.0).size)
    (λ there. accepted_whole rest (judged_bytes w bytes).walk all.1 one there ∙ same_bytes w bytes all.0)
    (Memᴰ.cases_cons at)

whole_lines : (lines : List (List ℕ)) (w : Walk) → AllAccepted w lines → length (flatten lines) ≡ length lines * line_bytes w
unfolding flatten
whole_lines [] w all = omega arith
whole_lines (bytes ∷ rest) w all =
    let others : length (flatten rest) ≡ length rest * line_bytes w =
    whole_lines rest (judged_bytes w bytes).walk all.1 ∙ ap (λ (n : ℕ). length rest * n) (same_bytes w bytes all.0) in
    omega (arith, length-append bytes (flatten rest), (accepted_counted w bytes all.0).size, others)

pub lines_counted : (w : Walk) (bytes : List ℕ) → AllAccepted w (all_pieces (line_bytes w) bytes)
    → length bytes ≡ length (all_pieces (line_bytes w) bytes) * line_bytes w
lines_counted w bytes all =
    ap length (sym (pieces_joined (line_bytes w) bytes (line_has_bytes w))) ∙ whole_lines (all_pieces (line_bytes w) bytes) w all

pub lines_fit : (lines : List (List ℕ)) (w : Walk) → w.lines ≤ most_lines → AllAccepted w lines → w.lines + length lines ≤ most_lines
lines_fit [] w few all = omega arith
lines_fit (bytes ∷ rest) w few all =
    let c = accepted_counted w bytes all.0 in
    omega (arith, c.lines, lines_fit rest (judged_bytes w bytes).walk (omega (arith, c.lines, c.good.lines)) all.1)

-- ---- As many reports as lines, and as many numbers of repairs, each at most 2.
pub reports_counted : (lines : List (List ℕ)) (w : Walk) → length (reports_of w lines) ≡ length lines
unfolding reports_of
reports_counted [] w = refl
reports_counted (bytes ∷ rest) w = ap suc (reports_counted rest (judged_bytes w bytes).walk)

pub repairs_counted : (reports : List Report) → length (repairs_of_all reports) ≡ length reports
unfolding repairs_of_all
repairs_counted [] = refl
repairs_counted (report ∷ rest) = ap suc (repairs_counted rest)

pub each_repairs : (reports : List Report) → Repairs (repairs_of_all reports)
unfolding repairs_of_all
each_repairs [] = no_line
each_repairs (report ∷ rest) = line (at_most_two report) (each_repairs rest)

-- ---- A report tells of no repairs exactly where it is clean.
code_clean : (code : CodeReport) → repairs_in code ≡ 0 → code ≡ Clean
code_clean Clean e = refl
code_clean (Repaired bit) e = absurd (omega arith)

pub no_repairs_clean : (report : Report) → repairs_of report ≡ 0 → report ≡ clean_report
no_repairs_clean report e =
    let eav : report.eav ≡ Clean = code_clean report.eav (omega arith) in
    let sav : report.sav ≡ Clean = code_clean report.sav (omega arith) in
    rw (eav, sav) refl

pub clean_no_repairs : (report : Report) → report ≡ clean_report → repairs_of report ≡ 0
clean_no_repairs report e = ap (λ (r : Report). repairs_of r) e

-- and all of those of lines a to b are clean exactly where reading their repairs says so
repairs_at : (reports : List Report) (i : ℕ) → get_or (repairs_of_all reports) i 0 ≡ repairs_of (get_or reports i clean_report)
unfolding repairs_of_all
repairs_at [] i = refl
repairs_at (report ∷ rest) zero = refl
repairs_at (report ∷ rest) (suc i) = repairs_at rest i

pub clean_reports : (a b : ℕ) (reports : List Report) → clean a b (repairs_of_all reports) ≡ true → AllClean a b reports
clean_reports a b reports c i low high there =
    no_repairs_clean (get_or reports i clean_report)
    (sym (repairs_at reports i) ∙ clean_each a b (repairs_of_all reports) 0 i c (omega arith) (omega arith))

pub reports_clean : (a b : ℕ) (reports : List Report) → AllClean a b reports → clean a b (repairs_of_all reports) ≡ true
reports_clean a b reports all = clean_all a b (repairs_of_all reports) 0 (λ i low high. repairs_at reports i ∙ each i (omega arith) (omega arith))
  where
    each : (i : ℕ) → a ≤ i → i ≤ b → repairs_of (get_or reports i clean_report) ≡ 0
    each i low high =
        by_test (ltb i (length reports))
        (λ t. clean_no_repairs _ (all i low high (ltb-true _ _ t)))
        (λ f. clean_no_repairs _ (get_or-eq_default reports clean_report (ltb-false _ _ f)))
