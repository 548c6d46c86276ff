-- The promises on the calls from C, of the definitions that their contracts cite. Assumes nothing.
use Prim.Native.Nat.{ℕ, ◌+◌, ◌*◌, ◌/◌, ◌%◌, ◌<◌, ◌≤◌}
use mathlib.Core.Path.{◌≡◌, refl, sym, ap, subst, ◌∙◌}
use mathlib.Core.Bool.{Bool, cond}
use mathlib.Core.List.{List}
use native.Mathlib.Omega.{arith}
use lib.Dec.{eqb}
use lib.ListN.{length}
use borrow.Author.Tests.{eq-eqb, eqb-true, eqb-false}
use Rattle.refusal.specs.declared.Refusal.{Refusal}
use Rattle.refusal.specs.Table.{Keeps}
use Rattle.refusal.proofs.Cases.{by_test}
use Rattle.refusal.proofs.Firsts.{same_number}
use Rattle.words.specs.Bytes.{word_of_bytes, words_of}
use Rattle.words.proofs.Bytes.{words_length, word_at_is}
use Rattle.timing.specs.declared.Correction.{Correction}
use Rattle.timing.specs.declared.Correction.TheVariants.{Clean, Repaired, Refused}
use Rattle.timing.specs.Code.{correction_of}
use Rattle.timing.specs.Refusals.{correction_refusals, refusal_of}
use Rattle.timing.proofs.Laws.{Bounded, bounded, fourth_below, one_repair}
use Rattle.timing.proofs.Theorems.{correction_exact}
use Rattle.timing.specs.Report.{repairs_of}
use Rattle.system.specs.declared.walk.Walk.{Walk}
use Rattle.system.specs.declared.walk.Judgement.{Judgement}
use Rattle.system.specs.declared.System.{System}
use Rattle.system.specs.Figures.{line_length, system_of, turns_field}
use Rattle.system.specs.Walk.{line_words, line_bytes, due_in, advanced_of}
use Rattle.system.proofs.Laws.{due_system, line_is_parts}
use Rattle.system.proofs.Turns.{turns_525, turns_625}
use Rattle.reader.specs.Judge.{report_of}
use Rattle.reader.proofs.Judged.{accepted}
use Rattle.bytewise.specs.Bytes.{judged_bytes}
use Rattle.bytewise.specs.Refusals.{bytes_refusals}
use Rattle.bytewise.proofs.Theorems.{bytes_exact, bytes_number, bytes_accepted_advances}
use Rattle.capture.specs.Answer.{in_one_number, corrected_of, correct_answer, judge_answer, fallen_in, turns_on, tally_kept, told_by}
use Rattle.capture.proofs.Bounds.{Small, small_bytes, repairs_low}
use Rattle.capture.proofs.Kept.{kept}

-- An answer below 65,536 is no refusal, and any other tells the refusal's number and place.
pub answer_tells : (r : Refusal) (accepted : ℕ) → accepted < 65536 → r.place < 65536 → (r.number ≡ 0 → r.place ≡ 0)
    → r ≡ record { number = in_one_number r accepted / 65536; place = cond (eqb (in_one_number r accepted / 65536) 0) 0 (in_one_number r accepted % 65536) }
answer_tells r accepted low near zero =
    by_test (eqb r.number 0)
    (λ t.
    let n : r.number ≡ 0 = eqb-true _ _ t in
    let q : accepted / 65536 ≡ 0 = omega arith in
    let p = zero n in
    simp (t, q) (λ i. record { number = n i; place = p i }))
    (λ f.
    let n = eqb-false r.number 0 f in
    let a : r.number ≡ (r.number * 65536 + r.place) / 65536 = omega arith in
    let b : r.place ≡ (r.number * 65536 + r.place) % 65536 = omega arith in
    simp (f, sym a) (λ i. record { number = r.number; place = b i }))

corrected_low : (c : Correction) → Bounded c → corrected_of c < 65536
corrected_low (Clean fvh) b = omega (arith, fourth_below fvh)
corrected_low (Repaired fvh bit) b = omega (arith, fourth_below fvh, b.1)
corrected_low (Refused number) b = omega arith

-- Correction from C refuses exactly as the table of 5, 7, 8, 14 says, for every number that may come.
pub capture_correct_exact : (word : ℕ) → Keeps (correction_refusals word) (told_by (correct_answer word))
unfolding correct_answer
capture_correct_exact word =
    subst (Keeps (correction_refusals word))
    (answer_tells (refusal_of (correction_of word)) (corrected_of (correction_of word)) (corrected_low (correction_of word) (bounded word)) (omega arith) (λ e. refl))
    (correction_exact word)

-- Two results allowed for one number are the same.
pub capture_correct_one_result : (word r s : ℕ) → r ≡ correct_answer word → s ≡ correct_answer word → r ≡ s
capture_correct_one_result word r s e f = e ∙ sym f

-- The byte judge refuses exactly as the reader's table says, for every number that may come.
pub capture_judge_exact : (w : Walk) (bytes : List ℕ) → Keeps (bytes_refusals w bytes) (told_by (judge_answer w bytes))
unfolding judge_answer
capture_judge_exact w bytes =
    let told : Refusal = record { number = (judged_bytes w bytes).number; place = (judged_bytes w bytes).place } in
    let small = subst Small (sym (bytes_number w bytes)) (small_bytes w bytes) in
    subst (Keeps (bytes_refusals w bytes)) (answer_tells told (repairs_of (judged_bytes w bytes).report) (repairs_low (judged_bytes w bytes).report) small.place small.accepted)
    (subst (Keeps (bytes_refusals w bytes)) (sym (bytes_number w bytes)) (bytes_exact w bytes))

-- An accepted line answers its repairs ..
pub capture_judge_repairs : (w : Walk) (bytes : List ℕ) → (judged_bytes w bytes).number ≡ 0 → judge_answer w bytes ≡ repairs_of (judged_bytes w bytes).report
unfolding judge_answer
capture_judge_repairs w bytes e = simp (eq-eqb _ _ e)

-- .. "0 to 2".
pub capture_judge_most : (w : Walk) (bytes : List ℕ) → (judged_bytes w bytes).number ≡ 0 → judge_answer w bytes ≤ 2
capture_judge_most w bytes e =
    let report = (judged_bytes w bytes).report in
    omega (arith, capture_judge_repairs w bytes e, one_repair report.eav, one_repair report.sav)

-- What the header has a caller keep of an accepted line, by bytes 6 and 7, is the record of the walk behind it.
pub capture_judge_record : (w : Walk) (bytes : List ℕ) → (judged_bytes w bytes).number ≡ 0
    → (judged_bytes w bytes).walk.fallen ≡ fallen_in (correct_answer (word_of_bytes bytes 6))
unfolding advanced_of
capture_judge_record w bytes e =
    let z = sym (same_number (bytes_number w bytes)) ∙ e in
    let stood = accepted (length bytes) (line_bytes w) w (words_of bytes) z in
    let d = due_in w (words_of bytes) in
    let size = words_length bytes (line_words w) stood.size in
    ap (λ (j : Judgement). j.walk.fallen) (bytes_accepted_advances w bytes z)
    ∙ sym (kept d (words_of bytes) (size ∙ ap line_length (sym (due_system w _))) stood.well)
    ∙ ap (λ (word : ℕ). fallen_in (correct_answer word)) (word_at_is bytes (line_words w) stood.size 3 (omega (arith, line_is_parts (system_of w.system))))

-- And what it has a caller keep of the tally, by the line's number and the answer, is the tally of the walk behind it.
turns_on_is : (system line : ℕ) → turns_field (system_of system) line ≡ turns_on system line
unfolding system_of
turns_on_is system line = by_test (eqb system 525) (λ t. simp t (turns_525 line)) (λ f. simp f (turns_625 line))

pub capture_judge_tally : (w : Walk) (bytes : List ℕ) → (judged_bytes w bytes).number ≡ 0
    → (judged_bytes w bytes).walk.tally ≡ tally_kept w (judge_answer w bytes)
unfolding advanced_of
capture_judge_tally w bytes e =
    let z = sym (same_number (bytes_number w bytes)) ∙ e in
    let d = due_in w (words_of bytes) in
    let report = report_of d (words_of bytes) in
    let advances = bytes_accepted_advances w bytes z in
    let counted = ap (λ (j : Judgement). repairs_of j.report) (sym advances) ∙ sym (capture_judge_repairs w bytes e) in
    ap (λ (j : Judgement). j.walk.tally) advances
    ∙ ap (λ (s : System). cond (turns_field s w.line) 0 w.tally + repairs_of report) (due_system w _)
    ∙ ap (λ (t : Bool). cond t 0 w.tally + repairs_of report) (turns_on_is w.system w.line)
    ∙ ap (tally_kept w) counted

-- Two results allowed for one line are the same.
pub capture_judge_one_result : (w : Walk) (bytes : List ℕ) (r s : ℕ) → r ≡ judge_answer w bytes → s ≡ judge_answer w bytes → r ≡ s
capture_judge_one_result w bytes r s e f = e ∙ sym f
