-- The promises on recording a line, of the definitions that the call's contract cites. Assumes nothing.
use Prim.Native.Nat.{ℕ}
use mathlib.Core.Path.{◌≡◌, sym, ap, ◌∙◌}
use mathlib.Core.Bool.{true}
use mathlib.Core.List.{List}
use lib.ListN.{length}
use Rattle.refusal.specs.Numbers.{wrong_length, over_ten, outside}
use Rattle.refusal.specs.Table.{Decides, Keeps}
use Rattle.refusal.proofs.Cases.{by_test}
use Rattle.refusal.proofs.Firsts.{or_else_accepted, or_else_none, same_number}
use Rattle.refusal.proofs.Tables.{keeps_before, decides_when, decides_before, decides_lowest}
use Rattle.timing.specs.Report.{clean_report}
use Rattle.system.specs.declared.walk.Walk.{Walk}
use Rattle.system.specs.declared.walk.Judgement.{Judgement}
use Rattle.system.specs.Walk.{written_refusal, line_bytes, advanced_of}
use Rattle.system.proofs.Theorems.{written_exact, written_decides, standing_exact, standing_decides}
use Rattle.line.specs.Samples.{Packets, active_length}
use Rattle.writer.specs.Write.{packets_refusal, sample_refusal}
use Rattle.writer.proofs.Laws.{packets_passed, carried_accepted}
use Rattle.writer.proofs.Places.{samples_blank}
use Rattle.writer.proofs.Theorems.{packets_decide}
use Rattle.v210.specs.Row.{row_words}
use Rattle.programme.specs.Record.{due_at_walk, takes_row, row_samples, unpacked_refusal, row_refusal, record_standing, record_refusal, recorded_of, line_bytes_of, line_bytes_after, Recordable}
use Rattle.programme.specs.Refusals.{record_refusals}
use Rattle.programme.proofs.Records.{takes_blank, stands_accepted, accepted_stands, unpacked_long, unpacked_fits, carried_refusal, line_blank, line_picture, line_samples, row_exact, record_row, recorded_refused, recorded_accepted, bytes_refused, bytes_accepted}

module _ (fall : ℕ) (w : Walk) (row : List ℕ) (k : Packets) (room : ℕ) where
  -- Each refusal comes exactly when its condition holds and none earlier does.
  pub record_exact : Keeps (record_refusals fall w row k room) (record_refusal fall w row k room)
  unfolding record_refusal record_standing
  record_exact =
      keeps_before _ _ (record_standing fall w room) _
      (keeps_before _ _ (written_refusal w.system w.line fall) _ (written_exact w.system w.line fall) (standing_exact w room (line_bytes w)))
      (row_exact fall w row k)

  -- The table asks for one refusal at the most.
  pub record_decides : Decides (record_refusals fall w row k room)
  record_decides =
      decides_before _ _ (decides_before _ _ (written_decides w.system w.line fall) (standing_decides w room (line_bytes w)))
      (decides_before _ _ (decides_when _ wrong_length 1)
      (decides_before _ _ (decides_lowest row_words _ (λ i. decides_when _ over_ten i))
      (decides_before _ _ (packets_decide (due_at_walk fall w) k) (decides_lowest active_length _ (λ place. decides_when _ outside place)))))

  -- ---- What a line that is not refused was given.
  pub record_accepted : (record_refusal fall w row k room).number ≡ 0 → Recordable fall w row k room
  unfolding record_refusal
  record_accepted e =
      let first = or_else_none (record_standing fall w room) _ e in
      let stood = accepted_stands fall w room first.0 in
      record {
        walk = stood.walk;
        falls = stood.falls;
        whole = stood.size;
        long = λ t. (unpacked_fits row (row_well t first.1).0).0;
        spare = λ t. (unpacked_fits row (row_well t first.1).0).1;
        packets = packets_passed (due_at_walk fall w) k (carried_well first.1).0;
        samples = λ t. (carried_well first.1).1;
      }
    where
      row_well : takes_row fall w ≡ true → (row_refusal fall w row k).number ≡ 0 → ((unpacked_refusal row).number ≡ 0) × ((carried_refusal fall w row k).number ≡ 0)
      row_well t z = or_else_none (unpacked_refusal row) _ (sym (same_number (line_picture fall w row k t)) ∙ z)

      carried_well : (row_refusal fall w row k).number ≡ 0
          → ((packets_refusal (due_at_walk fall w) k).number ≡ 0) × ((sample_refusal (due_at_walk fall w) (row_samples row)).number ≡ 0)
      carried_well z =
          or_else_none (packets_refusal (due_at_walk fall w) k) _
          (by_test (takes_row fall w) (λ t. (row_well t z).1) (λ f. sym (same_number (line_blank fall w row k f)) ∙ z))

  -- and what is given so is not refused
  pub recordable_accepted : Recordable fall w row k room → (record_refusal fall w row k room).number ≡ 0
  recordable_accepted given =
      let turn = record_row fall w row k room (stands_accepted fall w room given.walk given.falls given.whole) in
      let ready = same_number (carried_accepted (due_at_walk fall w) k given.packets) in
      by_test (takes_row fall w)
      (λ t.
      let clear = same_number (unpacked_long row (given.long t)) ∙ given.spare t in
      same_number (turn ∙ line_samples fall w row k t clear ∙ or_else_accepted (packets_refusal (due_at_walk fall w) k) _ ready) ∙ given.samples t)
      (λ f.
      same_number (turn ∙ line_blank fall w row k f ∙ or_else_accepted (packets_refusal (due_at_walk fall w) k) _ ready
      ∙ samples_blank (row_samples row) (due_at_walk fall w) (takes_blank fall w f)))

-- ---- The walk, and the line's bytes.
module _ (fall : ℕ) (w : Walk) (row : List ℕ) (k : Packets) (held : List ℕ) where
  -- A line that is not refused advances the walk by a clean report, and is written.
  pub recorded_walk : (record_refusal fall w row k (length held)).number ≡ 0
      → ((recorded_of fall w row k (length held)).walk ≡ advanced_of w (due_at_walk fall w) clean_report) × (line_bytes_after fall w row k held ≡ line_bytes_of fall w row k)
  recorded_walk e = (ap (λ (j : Judgement). j.walk) (recorded_accepted fall w row k (length held) e), bytes_accepted fall w row k held e)

  -- A refusal leaves the walk standing and the line's bytes as they were.
  pub record_refused_keeps : ((record_refusal fall w row k (length held)).number ≡ 0 → ⊥)
      → ((recorded_of fall w row k (length held)).walk ≡ w) × (line_bytes_after fall w row k held ≡ held)
  record_refused_keeps n = (ap (λ (j : Judgement). j.walk) (recorded_refused fall w row k (length held) n), bytes_refused fall w row k held n)

  -- Two results that the contract allows for one input are the same: the answer and every byte.
  pub record_one_result : (r s : Judgement) (after other : List ℕ)
      → r ≡ recorded_of fall w row k (length held) → after ≡ line_bytes_after fall w row k held
      → s ≡ recorded_of fall w row k (length held) → other ≡ line_bytes_after fall w row k held
      → (r ≡ s) × (after ≡ other)
  record_one_result r s after other a b c d = (a ∙ sym c, b ∙ sym d)
