-- Rows and samples: the row of a row's samples, and of the samples that a line's active part gives. Assumes nothing.
use Prim.Native.Nat.{ℕ, ◌<◌}
use mathlib.Core.Path.{◌≡◌, sym, ap, ◌∙◌}
use mathlib.Core.List.{List}
use native.Mathlib.Omega.{arith}
use lib.ListN.{length, get_or, take, drop, length-take, length-drop}
use lib.Seq.{get_or-take, get_or-drop}
use Rattle.words.proofs.Tabs.{is_tab}
use Rattle.system.specs.declared.due.Due.{Due}
use Rattle.system.specs.Figures.{line_length, active_offset}
use Rattle.system.proofs.Laws.{line_is_parts}
use Rattle.line.specs.Samples.{active_length, sample_at, samples_of}
use Rattle.line.proofs.Places.{taken_in_place, part_in_place}
use Rattle.v210.specs.Row.{row_length, unpacked_of, packed_of, spare_refusal}
use Rattle.v210.proofs.Theorems.{unpacked_length, row_back}
use Rattle.programme.specs.Record.{row_samples}
use Rattle.recording.specs.Programme.{row_of}

module _ (row : List ℕ) where
  -- a row of bytes with no spare bit set is the row of its samples
  pub row_of_samples : length row ≡ row_length → ((i : ℕ) → i < length row → get_or row i 0 < 256) → (spare_refusal row).number ≡ 0
      → row_of (row_samples row) ≡ row
  row_of_samples long bytes clear =
      ap packed_of
      (sym (is_tab (sample_at (row_samples row)) active_length (unpacked_of row) (unpacked_length row)
      (λ j l. sym (part_in_place (unpacked_of row) j l))))
      ∙ row_back row long (λ i l. bytes i (omega arith)) clear

-- the active part of a line is that of its samples
pub active_part_of_samples : (d : Due) (words : List ℕ) → length words ≡ line_length d.system
    → packed_of (take active_length (drop (active_offset d.system) words)) ≡ row_of (samples_of d words)
active_part_of_samples d words size =
    let a = active_offset d.system in
    ap packed_of
    (is_tab (sample_at (samples_of d words)) active_length (take active_length (drop a words))
    (simp (length-take, length-drop) (omega (arith, line_is_parts d.system)))
    (λ j l. get_or-take active_length (drop a words) j 0 l ∙ get_or-drop a words j 0 ∙ sym (taken_in_place d words j l)))
