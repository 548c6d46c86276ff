-- The promises on extracting a line, of the definitions that the call's contract cites. Assumes nothing.
use Prim.Native.Nat.{ℕ}
use mathlib.Core.Path.{◌≡◌, refl, sym, ap, ◌∙◌}
use mathlib.Core.Bool.{true, false}
use mathlib.Core.List.{List}
use lib.ListN.{length}
use Rattle.refusal.specs.Numbers.{wrong_length}
use Rattle.refusal.specs.Table.{Decides, Keeps}
use Rattle.refusal.proofs.Firsts.{or_else_none}
use Rattle.refusal.proofs.Tables.{keeps_before, keeps_unequal, decides_when, decides_before}
use Rattle.words.specs.Bytes.{words_of}
use Rattle.system.specs.declared.walk.Walk.{Walk}
use Rattle.system.specs.declared.walk.Judgement.{Judgement}
use Rattle.system.specs.Walk.{due_in}
use Rattle.system.specs.Judgement.{refused_at, accepted_at}
use Rattle.line.specs.Fault.{counts_of}
use Rattle.reader.specs.Judge.{report_of}
use Rattle.reader.proofs.Taken.{told, then_taken_is, then_refused, then_told}
use Rattle.bytewise.specs.Bytes.{bytes_refusal, judged_bytes}
use Rattle.bytewise.proofs.Theorems.{bytes_exact, bytes_decide, bytes_accepted_advances}
use Rattle.v210.specs.Row.{row_length}
use Rattle.programme.specs.Extract.{room_refusal, extract_refusal, extracted_of, gives_row, row_of_line, row_after_line}
use Rattle.programme.specs.Refusals.{extract_refusals}
use Rattle.programme.proofs.Extracts.{extracted_judged, row_refused, row_blank, row_given}

module _ (w : Walk) (bytes : List ℕ) (room : ℕ) where
  -- ---- Each refusal comes exactly when its condition holds and none earlier does ..
  pub extract_exact : Keeps (extract_refusals w bytes room) (extract_refusal w bytes room)
  extract_exact = keeps_before _ _ (bytes_refusal w bytes) _ (bytes_exact w bytes) (keeps_unequal room row_length 1)

  -- .. that leaves one answer ..
  pub extract_decides : Decides (extract_refusals w bytes room)
  extract_decides = decides_before _ _ (bytes_decide w bytes) (decides_when (room ≡ row_length → ⊥) wrong_length 1)

  -- .. and the answer's number and place are that refusal's.
  pub extract_number : record { number = (extracted_of w bytes room).number; place = (extracted_of w bytes room).place } ≡ extract_refusal w bytes room
  extract_number =
      then_told w (judged_bytes w bytes) _ (extract_refusal w bytes room) extract_exact
      (λ z. ap told (bytes_accepted_advances w bytes (or_else_none (bytes_refusal w bytes) (room_refusal room) z).0))

-- ---- With room for a row the line is answered as the byte judge answers it.
pub extract_as_judged : (w : Walk) (bytes : List ℕ) → extracted_of w bytes row_length ≡ judged_bytes w bytes
extract_as_judged w bytes = extracted_judged w bytes row_length refl

module _ (w : Walk) (bytes before : List ℕ) where
  -- ---- A refused line leaves the walk standing, is told as clean, and leaves the row as it was.
  pub extract_refused_keeps : ((extract_refusal w bytes (length before)).number ≡ 0 → ⊥)
      → (extracted_of w bytes (length before) ≡ refused_at w (extract_refusal w bytes (length before))) × (row_after_line w bytes before ≡ before)
  extract_refused_keeps n = (
    then_refused w (judged_bytes w bytes) (extract_refusal w bytes (length before)) n,
    row_refused w bytes before n,
  )

  -- An accepted line advances the walk by its report.
  pub extract_accepted_advances : (extract_refusal w bytes (length before)).number ≡ 0
      → extracted_of w bytes (length before) ≡ accepted_at w (due_in w (words_of bytes)) (report_of (due_in w (words_of bytes)) (words_of bytes))
      (counts_of (due_in w (words_of bytes)) (words_of bytes))
  extract_accepted_advances e =
      then_taken_is w (judged_bytes w bytes) (extract_refusal w bytes (length before)) e
      ∙ bytes_accepted_advances w bytes (or_else_none (bytes_refusal w bytes) (room_refusal (length before)) e).0

  -- A line of V = 1 leaves the row as it was.
  pub extract_blank_keeps : gives_row w bytes ≡ false → row_after_line w bytes before ≡ before
  extract_blank_keeps v = row_blank w bytes before v

  -- An accepted line of V = 0 gives its active part as the row.
  pub extract_gives : (extract_refusal w bytes (length before)).number ≡ 0 → gives_row w bytes ≡ true → row_after_line w bytes before ≡ row_of_line w bytes
  extract_gives z v = row_given w bytes before z v

  -- ---- Two results that the contract allows for one input are the same: the answer and every byte of the row.
  pub extract_one_result : (r s : Judgement) (row other : List ℕ)
      → r ≡ extracted_of w bytes (length before) → row ≡ row_after_line w bytes before
      → s ≡ extracted_of w bytes (length before) → other ≡ row_after_line w bytes before → (r ≡ s) × (row ≡ other)
  extract_one_result r s row other a b c d = (a ∙ sym c, b ∙ sym d)
