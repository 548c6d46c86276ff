-- The promises on the steps of recording and extracting a programme, of the definitions that the calls' contracts cite. Assumes nothing.
use Prim.Native.Nat.{ℕ}
use mathlib.Core.Path.{◌≡◌, sym, ◌∙◌}
use mathlib.Core.List.{List}
use mathlib.Core.Bool.{false}
use lib.ListN.{length}
use borrow.Author.Tests.{ne_eqb}
use Rattle.system.specs.Judgement.{no_packets}
use Rattle.line.specs.Samples.{Packets}
use Rattle.confirmation.specs.declared.Run.{Run}
use Rattle.programme.specs.declared.extractor.Extraction.{Extraction}
use Rattle.programme.specs.declared.tape.Tape.{Tape}
use Rattle.programme.specs.Extraction.{extraction_of, row_after_next}
use Rattle.programme.specs.Tape.{taped_of, line_taped}

-- ---- A tape that was refused stays as it is, and writes nothing; a run that has ended stays as it is, and gives no row.
pub refused_tape_stays : (t : Tape) (row : List ℕ) (k : Packets) (before : List ℕ) → (t.number ≡ 0 → ⊥)
    → (taped_of t row k (length before) ≡ t) × (line_taped t row k before ≡ before)
unfolding taped_of line_taped
refused_tape_stays t row k before n = (simp (ne_eqb _ _ n), simp (ne_eqb _ _ n))

pub ended_run_gives_nothing : (r : Run) (bytes before : List ℕ) → (r.number ≡ 0 → ⊥)
    → (extraction_of r bytes (length before) ≡ record { run = r; gives = false; packets = no_packets }) × (row_after_next r bytes before ≡ before)
unfolding extraction_of row_after_next
ended_run_gives_nothing r bytes before n = (simp (ne_eqb _ _ n), simp (ne_eqb _ _ n))

-- ---- Two results that a contract allows for one input are the same: the answer and every byte.
pub tape_next_one_result : (t : Tape) (row : List ℕ) (k : Packets) (held : List ℕ) (r s : Tape) (after other : List ℕ)
    → r ≡ taped_of t row k (length held) → after ≡ line_taped t row k held
    → s ≡ taped_of t row k (length held) → other ≡ line_taped t row k held → (r ≡ s) × (after ≡ other)
tape_next_one_result t row k held r s after other a b c d = (a ∙ sym c, b ∙ sym d)

pub extract_next_one_result : (run : Run) (bytes held : List ℕ) (r s : Extraction) (after other : List ℕ)
    → r ≡ extraction_of run bytes (length held) → after ≡ row_after_next run bytes held
    → s ≡ extraction_of run bytes (length held) → other ≡ row_after_next run bytes held → (r ≡ s) × (after ≡ other)
extract_next_one_result run bytes held r s after other a b c d = (a ∙ sym c, b ∙ sym d)
