-- The promises on writing a line, of the definitions that the calls' contracts cite. Assumes nothing.
use Prim.Native.Nat.{ℕ}
use mathlib.Core.Path.{◌≡◌, refl, sym, ap, ◌∙◌}
use mathlib.Core.List.{List, []}
use native.Mathlib.Omega.{arith}
use lib.Dec.{ltb}
use lib.ListN.{length}
use borrow.Author.Tests.{ltb-true, ltb-false}
use Rattle.refusal.specs.declared.Refusal.{Refusal}
use Rattle.refusal.specs.Numbers.{wrong_length, outside}
use Rattle.refusal.specs.Answer.{none, or_else, written_by, first_from}
use Rattle.refusal.specs.Table.{Decides, Keeps}
use Rattle.refusal.proofs.Cases.{by_test}
use Rattle.refusal.proofs.Firsts.{or_else_accepted, or_else_none, same_number, written_accepted, written_refused}
use Rattle.refusal.proofs.Tables.{keeps_unequal, keeps_before, keeps_last, decides_when, decides_before, decides_lowest}
use Rattle.words.proofs.Tabs.{same_tab}
use Rattle.packets.specs.Fault.{ready_refusal}
use Rattle.packets.proofs.Exact.{ready_exact, ready_decides}
use Rattle.system.specs.declared.due.Due.{Due}
use Rattle.system.specs.Figures.{line_length, active_offset, system_of, v_of}
use Rattle.system.specs.Due.{due_with, due_of}
use Rattle.system.specs.Walk.{named_refusal, written_refusal}
use Rattle.system.proofs.Laws.{sav_low, written_named, accepted_written}
use Rattle.system.proofs.Falls.{named_as_before, written_as_before}
use Rattle.system.proofs.Theorems.{written_exact, written_decides}
use Rattle.line.specs.Fault.{between_offset}
use Rattle.line.specs.Fit.{Fit}
use Rattle.line.specs.Lengths.{length_refusal}
use Rattle.line.specs.Samples.{Samples, Packets, Content, active_length, bare_at, bare_of, nothing_ready, laid_at, written_at, line_of, part_samples}
use Rattle.line.proofs.Lengths.{measured_accepted, accepted_measured}
use Rattle.line.proofs.Writing.{laid_below, laid_behind, line_length_is}
use Rattle.line.proofs.Theorems.{length_exact, buffer_exact, buffer_decides, room_exact, room_decides}
use Rattle.writer.specs.Fit.{Writable}
use Rattle.writer.specs.Refusals.{sample_refusals, packets_refusals, due_refusals, part_refusals, write_refusals}
use Rattle.writer.specs.Write.{sample_refusal, packets_refusal, due_refusal, part_refusal, part_content, write_refusal, line_after}
use Rattle.writer.proofs.Places.{inside_accepted, accepted_inside}
use Rattle.writer.proofs.Laws.{samples_exact, lengths_refusal, between_refusal, active_refusal, carried_accepted, buffers_refusal, due_samples, due_passed, long_refusal}

-- ---- Each refusal comes exactly when its condition holds and none earlier in the document's order does, and that leaves one answer.

-- by what is due in the line: 3, the ready packet words, and "12 at the lowest place", where V is 0
module _ (d : Due) where
  samples_decide : (p : Samples) → Decides (sample_refusals d p)
  samples_decide p = decides_lowest active_length _ (λ place. decides_when _ outside place)

  module _ (k : Packets) where
    pub packets_exact : Keeps (packets_refusals d k) (packets_refusal d k)
    unfolding packets_refusal
    packets_exact =
        keeps_before _ _ (lengths_refusal d k) _ (room_exact d (length k.between) (length k.active))
        (keeps_before _ _ (between_refusal d k) _ (ready_exact between_offset k.between)
        (keeps_last _ (active_refusal d k) (ready_exact (active_offset d.system) k.active)))

    pub packets_decide : Decides (packets_refusals d k)
    packets_decide =
        decides_before _ _ (room_decides d (length k.between) (length k.active))
        (decides_before _ _ (ready_decides between_offset k.between) (ready_decides (active_offset d.system) k.active))

  module _ (c : Content) (room : ℕ) where
    pub due_exact : Keeps (due_refusals d c room) (due_refusal d c room)
    unfolding due_refusal
    due_exact =
        keeps_before _ _ (length_refusal d.system room) _ (length_exact d.system room)
        (keeps_before _ _ (buffers_refusal d c room) _
        (buffer_exact (length c.samples.y) (length c.samples.cb) (length c.samples.cr))
        (keeps_before _ _ (packets_refusal d c.packets) _ (packets_exact c.packets)
        (keeps_last _ (sample_refusal d c.samples) (samples_exact d c.samples))))

    -- a line in which this is due is written exactly when the lengths are right and the content fits
    pub due_fits : (due_refusal d c room).number ≡ 0 → (room ≡ line_length d.system) × Fit d c
    due_fits e =
        let passed = due_passed d c room e in (
          passed.words,
          record {
            lengths = accepted_measured c.samples passed.lengths;
            range = accepted_inside c.samples d passed.samples;
            packets = passed.packets;
          },
        )

    pub fitting_due : room ≡ line_length d.system → Fit d c → (due_refusal d c room).number ≡ 0
    fitting_due words fit =
        same_number
        (sym (due_samples d c room words (same_number (measured_accepted c.samples fit.lengths))
        (same_number (carried_accepted d c.packets fit.packets)))
        ∙ inside_accepted c.samples d fit.range)

    pub due_decides : Decides (due_refusals d c room)
    due_decides =
        decides_before _ _ (decides_when (room ≡ line_length d.system → ⊥) wrong_length 0)
        (decides_before _ _ (buffer_decides (length c.samples.y) (length c.samples.cb) (length c.samples.cr))
        (decides_before _ _ (packets_decide c.packets) (samples_decide c.samples)))

  module _ (part : List ℕ) (k : Packets) (room : ℕ) where
    pub part_exact : Keeps (part_refusals d part k room) (part_refusal d part k room)
    unfolding part_refusal
    part_exact =
        keeps_before _ _ (length_refusal d.system room) _ (length_exact d.system room)
        (keeps_before _ _ (long_refusal d part k room) _ (keeps_unequal (length part) active_length 1)
        (keeps_before _ _ (packets_refusal d k) _ (packets_exact k)
        (keeps_last _ (sample_refusal d (part_samples part)) (samples_exact d (part_samples part)))))

    pub part_decides : Decides (part_refusals d part k room)
    part_decides =
        decides_before _ _ (decides_when (room ≡ line_length d.system → ⊥) wrong_length 0)
        (decides_before _ _ (decides_when (length part ≡ active_length → ⊥) wrong_length 1)
        (decides_before _ _ (packets_decide k) (samples_decide (part_samples part))))

  -- Two results allowed for one input are the same: the answer and every word.
  pub line_one_result : (c : Content) (words : List ℕ) (r s : Refusal) (after other : List ℕ)
      → r ≡ due_refusal d c (length words) → after ≡ written_by r (line_of d c) words
      → s ≡ due_refusal d c (length words) → other ≡ written_by s (line_of d c) words
      → (r ≡ s) × (after ≡ other)
  line_one_result c words r s after other e f g h =
      (e ∙ sym g, f ∙ ap (λ (x : Refusal). written_by x (line_of d c) words) (e ∙ sym g) ∙ sym h)

  pub part_one_result : (part : List ℕ) (k : Packets) (words : List ℕ) (r s : Refusal) (after other : List ℕ)
      → r ≡ part_refusal d part k (length words) → after ≡ written_by r (line_of d (part_content part k)) words
      → s ≡ part_refusal d part k (length words) → other ≡ written_by s (line_of d (part_content part k)) words
      → (r ≡ s) × (after ≡ other)
  part_one_result part k words r s after other e f g h =
      (e ∙ sym g, f ∙ ap (λ (x : Refusal). written_by x (line_of d (part_content part k)) words) (e ∙ sym g) ∙ sym h)

  -- ---- A writer that is given no packet words writes what it wrote before there were any, and refuses nothing for them.
  nothing_laid : (from : ℕ) (under : ℕ → ℕ) (i : ℕ) → laid_at [] from under i ≡ under i
  nothing_laid from under i =
      by_test (ltb i from)
      (λ t. laid_below [] from under i (ltb-true i from t))
      (λ f. let past = ltb-false i from f in laid_behind [] from under i (omega arith))

  pub nothing_ready_as_before : (p : Samples) → line_of d (record { samples = p; packets = nothing_ready }) ≡ bare_of d p
  unfolding line_of bare_of
  nothing_ready_as_before p =
      same_tab (written_at d (record { samples = p; packets = nothing_ready })) (bare_at d p) (line_length d.system)
      (λ i l. nothing_laid (active_offset d.system) (laid_at [] between_offset (bare_at d p)) i ∙ nothing_laid between_offset (bare_at d p) i)

  pub nothing_ready_refuses_nothing : packets_refusal d nothing_ready ≡ none
  unfolding ready_refusal first_from
  nothing_ready_refuses_nothing =
      carried_accepted d nothing_ready
      (record { within_between_room = omega (arith, sav_low d.system); within_active_room = omega arith; between_well = refl; active_well = refl })

-- by the line's number: "1, 2, 3", the ready packet words, "then 12 at the lowest place, on V = 0 lines only"
module _ (system line fall : ℕ) (c : Content) where
  module _ (room : ℕ) where
    pub write_exact : Keeps (write_refusals system line fall c room) (write_refusal system line fall c room)
    unfolding write_refusal
    write_exact = keeps_before _ _ (written_refusal system line fall) _ (written_exact system line fall) (due_exact (due_of (system_of system) line fall) c room)

    pub write_decides : Decides (write_refusals system line fall c room)
    write_decides = decides_before _ _ (written_decides system line fall) (due_decides (due_of (system_of system) line fall) c room)

    -- ---- A line is written exactly when the system, the line, the fall line and the lengths are right, the ready packet words fit their spaces
    -- and are judged well and, where V is 0, each sample is from 4 to 1019.
    written_fits : (write_refusal system line fall c room).number ≡ 0 → Writable system line fall c room
    unfolding write_refusal due_of due_with
    written_fits e =
        let both = or_else_none (written_refusal system line fall) _ e in
        let named = accepted_written system line fall both.0 in
        let fits = due_fits (due_of (system_of system) line fall) c room both.1 in
        record { a_system = named.a_system; a_line = named.a_line; a_fall = named.a_fall; words = fits.0; fit = fits.1 }

    fitting_written : Writable system line fall c room → (write_refusal system line fall c room).number ≡ 0
    unfolding write_refusal due_of due_with
    fitting_written w =
        let named = written_named system line fall (record { a_system = w.a_system; a_line = w.a_line; a_fall = w.a_fall }) in
        same_number (or_else_accepted (written_refusal system line fall) _ (same_number named)) ∙ fitting_due (due_of (system_of system) line fall) c room w.words w.fit

    pub written_samples_fit : ((write_refusal system line fall c room).number ≡ 0 → Writable system line fall c room)
        × (Writable system line fall c room → (write_refusal system line fall c room).number ≡ 0)
    written_samples_fit = (written_fits, fitting_written)

  module _ (words : List ℕ) where
    -- A refusal leaves the line as it was.
    pub refused_writes_nothing : ((write_refusal system line fall c (length words)).number ≡ 0 → ⊥) → line_after system line fall c words ≡ words
    unfolding line_after
    refused_writes_nothing n = written_refused (write_refusal system line fall c (length words)) _ words n

    -- Otherwise the line is the one that is due, of the line's length.
    pub accepted_writes_the_line : (write_refusal system line fall c (length words)).number ≡ 0
        → (line_after system line fall c words ≡ line_of (due_of (system_of system) line fall) c) × (length (line_after system line fall c words) ≡ line_length (system_of system))
    unfolding line_after due_of due_with
    accepted_writes_the_line e =
        let line_is : line_after system line fall c words ≡ line_of (due_of (system_of system) line fall) c =
        written_accepted (write_refusal system line fall c (length words)) _ words e in
        (line_is, ap length line_is ∙ line_length_is (due_of (system_of system) line fall) c)

    -- Two results allowed for one input are the same: the answer and every word.
    pub write_one_result : (r s : Refusal) (after other : List ℕ)
        → r ≡ write_refusal system line fall c (length words) → after ≡ line_after system line fall c words
        → s ≡ write_refusal system line fall c (length words) → other ≡ line_after system line fall c words
        → (r ≡ s) × (after ≡ other)
    write_one_result r s after other e f g h = (e ∙ sym g, f ∙ sym h)

-- With fall line 20 lines are written as before: by the table's V.
module _ (system line : ℕ) (c : Content) where
  pub write_as_before : (room : ℕ) → write_refusal system line 20 c room
      ≡ or_else (named_refusal system line) (due_refusal (due_with (system_of system) line (v_of (system_of system) line)) c room)
  unfolding write_refusal
  write_as_before room =
      ap (λ (d : Due). or_else (written_refusal system line 20) (due_refusal d c room)) (written_as_before (system_of system) line)
      ∙ ap (λ (r : Refusal). or_else r (due_refusal (due_with (system_of system) line (v_of (system_of system) line)) c room)) (named_as_before system line)

  pub line_as_before : (words : List ℕ) → (write_refusal system line 20 c (length words)).number ≡ 0
      → line_after system line 20 c words ≡ line_of (due_with (system_of system) line (v_of (system_of system) line)) c
  line_as_before words e =
      (accepted_writes_the_line system line 20 c words e).0 ∙ ap (λ (d : Due). line_of d c) (written_as_before (system_of system) line)
