-- The promises on one line, of the definitions that the calls' contracts cite. Assumes nothing.
use Prim.Native.Nat.{ℕ, ◌+◌, ◌≤◌}
use mathlib.Core.Path.{◌≡◌, refl, sym, ap, subst, ◌∙◌}
use mathlib.Core.List.{List, [], ◌∷◌}
use mathlib.Core.Bool.{Bool, true, false}
use native.Mathlib.Omega.{arith}
use lib.Dec.{eqb}
use lib.ListN.{length, get_or}
use borrow.Author.Tests.{ne_eqb}
use Rattle.refusal.specs.Numbers.{wrong_length}
use Rattle.refusal.specs.Answer.{or_else}
use Rattle.refusal.proofs.Cases.{by_test}
use Rattle.refusal.proofs.Firsts.{or_else_accepted}
use Rattle.timing.specs.declared.Report.{Report}
use Rattle.timing.specs.Code.{legal_of, seven_of, distance_of, correction_of}
use Rattle.timing.specs.Report.{code_report_of, bit_told, clean_report}
use Rattle.timing.proofs.Laws.{one_repair}
use Rattle.system.specs.declared.due.Due.{Due}
use Rattle.system.specs.declared.walk.Walk.{Walk}
use Rattle.system.specs.Figures.{line_length, sav_offset, system_of, v_written}
use Rattle.system.proofs.Laws.{Good}
use Rattle.system.specs.Due.{due_with, due_of, flags_of}
use Rattle.system.specs.Walk.{MayHave, line_words, due_in}
use Rattle.line.specs.Samples.{Samples, Content, line_of, packets_of, content_of}
use Rattle.line.specs.Lengths.{buffer_refusal}
use Rattle.line.specs.Fit.{Measured, Fit}
use Rattle.line.specs.Damage.{Damaged, told_of}
use Rattle.line.proofs.Images.{repairs_at, undamaged}
use Rattle.system.specs.declared.walk.Judgement.{Judgement}
use Rattle.system.specs.Judgement.{accepted_at}
use Rattle.writer.specs.Write.{due_refusal, write_refusal, line_after}
use Rattle.writer.proofs.Theorems.{due_fits, written_samples_fit, accepted_writes_the_line}
use Rattle.recording.specs.Recording.{inverted_bit}
use Rattle.reader.specs.Judge.{judge_refusal, judged_of}
use Rattle.reader.specs.Take.{take_refusal, in_turn}
use Rattle.reader.proofs.Judged.{number_judged}
use Rattle.reader.proofs.Taken.{then_refused, measured_turn}
use Rattle.recording.specs.Play.{stopped_by, play}
use Rattle.recording.proofs.OneLine.{answered_accepted}
use Rattle.recording.proofs.Lines.{line_read, line_accepted, reported, clean_reported, samples_returned, packets_returned}
use Rattle.recording.proofs.Theorems.{line_size, v_stood, may_stand, writable, image}

told_bit : (fvh read : ℕ) → bit_told (told_of fvh read) ≡ inverted_bit fvh read
told_bit fvh read =
    by_test (eqb (distance_of (seven_of read) (legal_of fvh)) 0) (λ z. simp z) (λ n. simp n)

-- ---- a line that the writer's call left, where V of the first field falls at this line, at a walk where that V may stand
module _ (w : Walk) (good : Good w) (b : Samples) (m : Measured b) (fall : ℕ)
    (may : MayHave (system_of w.system) w.line w.fallen (v_written (system_of w.system) w.line fall)) where
  abbrev v : Bool
  v = v_written (system_of w.system) w.line fall

  abbrev d : Due
  d = due_of (system_of w.system) w.line fall

  -- what the writer accepted fits the line
  fit_of : (c : Content) (buffer : List ℕ) → (write_refusal w.system w.line fall c (length buffer)).number ≡ 0 → Fit d c
  fit_of c buffer written = ((written_samples_fit w.system w.line fall c (length buffer)).0 written).fit

  -- the line that it left is the one that is due
  left_of : (c : Content) (buffer read : List ℕ) (eav sav : ℕ) → (write_refusal w.system w.line fall c (length buffer)).number ≡ 0
      → Damaged d (line_after w.system w.line fall c buffer) read eav sav → Damaged d (line_of d c) read eav sav
  left_of c buffer read eav sav written dam =
      subst (λ (l : List ℕ). Damaged d l read eav sav) (accepted_writes_the_line w.system w.line fall c buffer written).0 dam

  -- A line that the writer left, read with at most one of the seven bits of each code inverted and low bits at will: accepted, the report
  -- names exactly the inverted bits, the counts are those of the packets, and samples and packets are the written ones.
  pub damaged_line_reads_back : (c : Content) (buffer read : List ℕ) (eav sav : ℕ)
      → (write_refusal w.system w.line fall c (length buffer)).number ≡ 0
      → Damaged d (line_after w.system w.line fall c buffer) read eav sav → eav ≤ 1 → sav ≤ 1
      → ((in_turn w read b).judgement
      ≡ accepted_at w d
      (record {
        eav = told_of (flags_of d true) (get_or read 3 0);
        sav = told_of (flags_of d false) (get_or read (sav_offset (system_of w.system) + 3) 0);
      })
      (record { between = length c.packets.between; active = length c.packets.active }))
      × (v ≡ false → (in_turn w read b).buffers ≡ c.samples)
      × (packets_of (due_in w read) read ≡ c.packets)
  unfolding due_of
  damaged_line_reads_back c buffer read eav sav written dam he hs =
      let fits = fit_of c buffer written in
      let struck = left_of c buffer read eav sav written dam in
      let size = length (line_of d c) in
      let whole = line_size (system_of w.system) w.line v c in
      let low : size ≤ line_length (system_of w.system) = omega arith in (
        line_read w good b m v may c fits read eav sav size low struck whole he hs
            ∙ ap (λ (told : Report). accepted_at w d told (record { between = length c.packets.between; active = length c.packets.active }))
            (reported w good b m v may c fits read eav sav size low struck whole he hs),
        samples_returned w good b m v may c fits read eav sav size low struck whole he hs,
        packets_returned w good b m v may c fits read eav sav size low struck whole he hs,
      )

  -- The same in the document's values: of each code 0, or the number of the inverted bit, is told.
  pub damaged_line_bits : (c : Content) (buffer read : List ℕ) (eav sav : ℕ)
      → (write_refusal w.system w.line fall c (length buffer)).number ≡ 0
      → Damaged d (line_after w.system w.line fall c buffer) read eav sav → eav ≤ 1 → sav ≤ 1
      → (bit_told (in_turn w read b).judgement.report.eav ≡ inverted_bit (flags_of d true) (get_or read 3 0))
      × (bit_told (in_turn w read b).judgement.report.sav ≡ inverted_bit (flags_of d false) (get_or read (sav_offset (system_of w.system) + 3) 0))
  damaged_line_bits c buffer read eav sav written dam he hs =
      let answer = (damaged_line_reads_back c buffer read eav sav written dam he hs).0 in (
        ap (λ (j : Judgement). bit_told j.report.eav) answer ∙ told_bit (flags_of d true) (get_or read 3 0),
        ap (λ (j : Judgement). bit_told j.report.sav) answer ∙ told_bit (flags_of d false) (get_or read (sav_offset (system_of w.system) + 3) 0),
      )

  -- Reading back a written line: accepted, both codes told as clean, and the samples are the written ones.
  pub written_line_reads_back : (c : Content) (buffer : List ℕ) → (write_refusal w.system w.line fall c (length buffer)).number ≡ 0
      → ((in_turn w (line_after w.system w.line fall c buffer) b).judgement
      ≡ accepted_at w d clean_report (record { between = length c.packets.between; active = length c.packets.active }))
      × (v ≡ false → (in_turn w (line_after w.system w.line fall c buffer) b).buffers ≡ c.samples)
  unfolding due_of
  written_line_reads_back c buffer written =
      let fits = fit_of c buffer written in
      let line = line_of d c in
      let size = length line in
      let whole = line_size (system_of w.system) w.line v c in
      let low : size ≤ line_length (system_of w.system) = omega arith in
      let itself = undamaged d c fits.packets in
      rw (accepted_writes_the_line w.system w.line fall c buffer written).0 (
        line_read w good b m v may c fits line 0 0 size low itself whole (omega arith) (omega arith)
            ∙ ap (λ (told : Report). accepted_at w d told (record { between = length c.packets.between; active = length c.packets.active }))
            (clean_reported w good b m v may c fits line 0 0 size low itself whole (omega arith) (omega arith) refl refl),
        samples_returned w good b m v may c fits line 0 0 size low itself whole (omega arith) (omega arith),
      )

  -- What judging accepts, taking may still refuse: a line that the writer left, and no room for its samples.
  pub written_line_no_room : (c : Content) (buffer : List ℕ) → (write_refusal w.system w.line fall c (length buffer)).number ≡ 0
      → ((judged_of w (line_after w.system w.line fall c buffer)).number ≡ 0)
      × (take_refusal w (line_after w.system w.line fall c buffer) (record { y = []; cb = []; cr = [] }) ≡ record { number = wrong_length; place = 1 })
  unfolding buffer_refusal or_else
  written_line_no_room c buffer written =
      let line = line_after w.system w.line fall c buffer in
      let answer = sym (measured_turn w line b m) ∙ (written_line_reads_back c buffer written).0 in
      let accepts = ap (λ (j : Judgement). j.number) answer in
      let well = sym (number_judged (length line) (line_words w) w line) ∙ accepts in
      (accepts, or_else_accepted (judge_refusal w line) _ well)

-- ---- A line is accepted exactly when it is such an image of a line that is written with a V that may stand at the walk, for some samples and
-- packets; and for those returned.
module _ (w : Walk) (good : Good w) (b : Samples) (m : Measured b) where
  pub accepted_is_image : (read : List ℕ) → (in_turn w read b).judgement.number ≡ 0
      → (v : Bool) × MayHave (system_of w.system) w.line w.fallen v
      × ((due_refusal (due_with (system_of w.system) w.line v) (content_of (due_with (system_of w.system) w.line v) read) (length read)).number ≡ 0)
      × Damaged (due_with (system_of w.system) w.line v)
      (line_of (due_with (system_of w.system) w.line v) (content_of (due_with (system_of w.system) w.line v) read)) read
      (repairs_at read 3) (repairs_at read (sav_offset (system_of w.system) + 3))
      × (repairs_at read 3 ≤ 1) × (repairs_at read (sav_offset (system_of w.system) + 3) ≤ 1)
  accepted_is_image read e =
      let a = answered_accepted w b read e in (
        v_stood w read a,
        may_stand w read a,
        writable w read a,
        image w read a,
        one_repair (code_report_of (correction_of (get_or read 3 0))),
        one_repair (code_report_of (correction_of (get_or read (sav_offset (system_of w.system) + 3) 0))),
      )

  pub image_is_accepted : (v : Bool) → MayHave (system_of w.system) w.line w.fallen v → (c : Content) (read : List ℕ) (room eav sav : ℕ)
      → (due_refusal (due_with (system_of w.system) w.line v) c room).number ≡ 0
      → Damaged (due_with (system_of w.system) w.line v) (line_of (due_with (system_of w.system) w.line v) c) read eav sav → eav ≤ 1 → sav ≤ 1
      → (in_turn w read b).judgement.number ≡ 0
  image_is_accepted v may c read room eav sav written dam he hs =
      let d = due_with (system_of w.system) w.line v in
      let size = length (line_of d c) in
      let whole = line_size (system_of w.system) w.line v c in
      let low : size ≤ line_length (system_of w.system) = omega arith in
      line_accepted w good b m v may c (due_fits d c room written).1 read eav sav size low dam whole he hs

-- Where taking a line is refused, by the judge or for a buffer's length, playing ends there with taking's answer, and the walk stands.
pub refused_taking_ends : (w : Walk) (b : Samples) (words : List ℕ) (rest : List (List ℕ)) → ((take_refusal w words b).number ≡ 0 → ⊥)
    → play w b (words ∷ rest)
    ≡ record { vs = []; pictures = []; packets = []; number = (take_refusal w words b).number; place = (take_refusal w words b).place; walk = w }
unfolding play
refused_taking_ends w b words rest n =
    let ends = then_refused w (judged_of w words) (take_refusal w words b) n in
    simp (ne_eqb _ _ (λ z. n (ap (λ (j : Judgement). j.number) (sym ends) ∙ z))) (ap stopped_by ends)
