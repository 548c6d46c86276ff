-- V of the corrected EAV of a line without fault is the V that was due in it: what a caller keeps is the walk's record. Assumes nothing.
use Prim.Native.Nat.{ℕ, zero, suc, ◌+◌, ◌*◌, ◌/◌, ◌%◌, ◌≤◌}
use mathlib.Core.Path.{◌≡◌, refl, sym, ap, ◌∙◌}
use mathlib.Core.Bool.{Bool, true, false, cond}
use mathlib.Core.List.{List}
use native.Mathlib.Omega.{arith}
use lib.Dec.{eqb}
use lib.ListN.{length, get_or}
use Rattle.refusal.proofs.Firsts.{first_none_back}
use Rattle.packets.specs.Fault.{word_at}
use Rattle.timing.specs.declared.Correction.{Correction}
use Rattle.timing.specs.Code.{fourth_of, seven_of, correction_of}
use Rattle.timing.specs.Report.{number_where, code_report_of}
use Rattle.timing.proofs.Laws.{found, at_distance, accepted_away, one_repair}
use Rattle.system.specs.declared.due.Due.{Due}
use Rattle.system.specs.Figures.{line_length}
use Rattle.system.specs.Due.{flag, flags_of}
use Rattle.system.specs.Walk.{fallen_by}
use Rattle.system.proofs.Laws.{line_is_parts, flags_low}
use Rattle.line.specs.declared.What.{What}
use Rattle.line.specs.Fault.{fault_where, fault_at, word_refusal}
use Rattle.line.proofs.Dues.{eav_due}
use Rattle.line.proofs.Faults.{fourth_fault}
use Rattle.line.proofs.Spaces.{eav_apart, fault_apart}
use Rattle.capture.specs.Answer.{correct_answer, fallen_in}
use Rattle.capture.proofs.Laws.{answer_to}

-- the repaired bit's number stands above V
repaired_as_clean : (word bit : ℕ) → fallen_in (word + 4096 * bit) ≡ fallen_in word
repaired_as_clean word bit =
    let e : (word + 4096 * bit) / 128 % 2 ≡ word / 128 % 2 = omega arith in
    ap (λ (v : ℕ). cond (eqb v 0) 1 0) e

found_fallen : (fvh p n : ℕ) → n ≤ 1 → fallen_in (answer_to (found fvh p n)) ≡ fallen_in (fourth_of fvh)
found_fallen fvh p zero l = refl
found_fallen fvh p (suc zero) l = repaired_as_clean (fourth_of fvh) _
found_fallen fvh p (suc (suc n)) l = absurd (omega arith)

-- and V is bit 7 of the code that is due
flags_fallen : (f v : Bool) → fallen_in (fourth_of (4 * flag f + 2 * flag v + 1)) ≡ fallen_by v
unfolding fourth_of
flags_fallen true true = refl
flags_fallen true false = refl
flags_fallen false true = refl
flags_fallen false false = refl

due_fallen : (d : Due) → fallen_in (fourth_of (flags_of d true)) ≡ fallen_by d.v
unfolding flags_of
due_fallen d = flags_fallen d.f d.v

module _ (d : Due) (words : List ℕ) (size : length words ≡ line_length d.system) (accepted : (word_refusal d words).number ≡ 0) where
  abbrev code : ℕ
  code = get_or words 3 0

  eav_well : fault_at d words 3 ≡ 0
  unfolding word_refusal
  eav_well = first_none_back (fault_at d words) (length words) accepted 3 (omega (arith, size, line_is_parts d.system))

  eav_accepted : number_where (flags_of d true) (correction_of code) ≡ 0
  eav_accepted =
      sym (fourth_fault (flags_of d true) code)
      ∙ sym (ap (λ (x : What). fault_where x code) (eav_due d))
      ∙ sym (fault_apart d (word_at words) 3 (eav_apart d 3 (omega arith)))
      ∙ eav_well

  pub kept : fallen_in (correct_answer code) ≡ fallen_by d.v
  unfolding correct_answer
  kept =
      let away = accepted_away (flags_of d true) code (flags_low d true) eav_accepted in
      let few = one_repair (code_report_of (correction_of code)) in
      ap (λ (c : Correction). fallen_in (answer_to c)) (at_distance (flags_of d true) code _ (flags_low d true) away.0 away.1 (omega (arith, few)))
      ∙ found_fallen (flags_of d true) (seven_of code) _ few
      ∙ due_fallen d
