-- Document 01, "The confirming program and the capture process": what the calls from C answer.
use Rattle.std.specs.Prelude.{ℕ, ◌+◌, ◌*◌, ◌/◌, ◌%◌, Bool, cond, ◌||◌, List, eqb}
use Rattle.refusal.specs.declared.Refusal.{Refusal}
use Rattle.timing.specs.declared.Correction.{Correction}
use Rattle.timing.specs.declared.Correction.TheVariants.{Clean, Repaired, Refused}
use Rattle.timing.specs.Code.{fourth_of, correction_of}
use Rattle.timing.specs.Refusals.{refusal_of}
use Rattle.timing.specs.Report.{repairs_of}
use Rattle.system.specs.declared.walk.Walk.{Walk}
use Rattle.bytewise.specs.Bytes.{judged_bytes}

-- "Each answers one 32-bit number: a refusal's number times 65,536 plus its place."
abbrev pub in_one_number : Refusal → ℕ → ℕ
in_one_number r accepted = cond (eqb r.number 0) accepted (r.number * 65536 + r.place)

-- "otherwise it answers the corrected word with both low bits 0, plus 4,096 times the repaired bit's number, or plus nothing if clean"
abbrev pub corrected_of : Correction → ℕ
corrected_of (Clean fvh) = fourth_of fvh
corrected_of (Repaired fvh bit) = fourth_of fvh + 4096 * bit
corrected_of (Refused number) = 0

-- the answer to any number: over 1023 is 5, however large it is
unfoldable pub correct_answer : ℕ → ℕ
correct_answer word = in_one_number (refusal_of (correction_of word)) (corrected_of (correction_of word))

-- the byte judge: "an accepted line answers its repairs, 0 to 2"
unfoldable pub judge_answer : Walk → List ℕ → ℕ
judge_answer w bytes =
    in_one_number (record { number = (judged_bytes w bytes).number; place = (judged_bytes w bytes).place }) (repairs_of (judged_bytes w bytes).report)

-- Document 02, L1, "The byte judge takes the record": what a caller keeps of an accepted line, whether V is 0 in bit 7 of the answer to its EAV
abbrev pub fallen_in : ℕ → ℕ
fallen_in answer = cond (eqb (answer / 128 % 2) 0) 1 0

-- Document 02, L9: what a caller keeps of the tally, which starts anew on the lines whose F differs from that of the line before, 4 and 266 in
-- 525, 1 and 313 in 625; the answer to the line is added
abbrev pub turns_on : ℕ → ℕ → Bool
turns_on system line = cond (eqb system 525) (eqb line 4 || eqb line 266) (eqb line 1 || eqb line 313)

abbrev pub tally_kept : Walk → ℕ → ℕ
tally_kept w answer = cond (turns_on w.system w.line) 0 w.tally + answer

-- the refusal that an answer tells: below 65,536 it is none
abbrev pub told_by : ℕ → Refusal
told_by answer = record { number = answer / 65536; place = cond (eqb (answer / 65536) 0) 0 (answer % 65536) }
