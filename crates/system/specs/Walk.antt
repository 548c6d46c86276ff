-- Document 01, "The walk", and document 02: L1, its record of V, and which V is due; L9, its tally.
use Rattle.std.specs.Prelude.{◌≡◌, ℕ, ◌+◌, ◌*◌, ◌%◌, ◌^◌, Bool, true, false, cond, not, ◌&&◌, ◌||◌, List, [], ◌∷◌, ◌==◌, nat_le, nat_lt, slice_index}
use Rattle.refusal.specs.declared.Refusal.{Refusal}
use Rattle.refusal.specs.Numbers.{no_system, no_line, wrong_length, bad_counts}
use Rattle.refusal.specs.Answer.{refuse, or_else, first_of}
use Rattle.timing.specs.declared.Correction.{Correction}
use Rattle.timing.specs.declared.Correction.TheVariants.{Clean, Repaired, Refused}
use Rattle.timing.specs.declared.Report.{Report}
use Rattle.timing.specs.Code.{v_bit, correction_of}
use Rattle.timing.specs.Report.{repairs_of}
use Rattle.system.specs.declared.System.{System}
use Rattle.system.specs.declared.due.Due.{Due}
use Rattle.system.specs.declared.walk.Walk.{Walk}
use Rattle.system.specs.declared.walk.Fresh.{Fresh}
use Rattle.system.specs.Figures.{between, line_length, line_count, is_system, system_of, next_line, turns_field, v_of, may_fall, looks_back, is_fall}
use Rattle.system.specs.Due.{due_with}

-- "at most 10,000,000 lines"
abbrev pub most_lines : ℕ
most_lines = 10000000

-- the line number is one of the system
unfoldable pub is_line : ℕ → ℕ → Bool
is_line number line = between 1 (line_count (system_of number)) line

-- "system is neither 525 nor 625"
abbrev pub system_refusal : ℕ → Refusal
system_refusal number = refuse (not (is_system number)) no_system 0

-- "line number outside 1 to 525, or 1 to 625"
abbrev pub number_refusal : ℕ → ℕ → Refusal
number_refusal number line = refuse (not (is_line number line)) no_line 0

-- what refuses the numbers of a system and of a line: "1, 2"
unfoldable pub named_refusal : ℕ → ℕ → Refusal
named_refusal number line = first_of (system_refusal number ∷ number_refusal number line ∷ [])

-- "outside 10 to 20 is refusal 2; 625 ignores it"
abbrev pub fall_refusal : ℕ → ℕ → Refusal
fall_refusal number fall = refuse (not (is_fall (system_of number) fall)) no_line 0

-- what refuses the numbers of a line that is to be written, the fall line in the line number's turn: "1, 2"
unfoldable pub written_refusal : ℕ → ℕ → ℕ → Refusal
unfolding named_refusal
written_refusal number line fall = or_else (named_refusal number line) (fall_refusal number fall)

-- "lines read is 10,000,000 or more, or repairs exceed twice lines read", and "a walk whose tally exceeds its repairs is refusal 4"
abbrev pub count_refusal : Walk → Refusal
count_refusal w =
    refuse (nat_le most_lines w.lines || (nat_lt (2 * w.lines) w.repairs || nat_lt w.repairs w.tally)) bad_counts 0

-- what refuses every line at a walk: "1, 2, 4"
unfoldable pub walk_refusal : Walk → Refusal
walk_refusal w = or_else (named_refusal w.system w.line) (count_refusal w)

-- "A fresh walk has zero counts", and its record of V "says no".
abbrev pub fresh_walk : ℕ → ℕ → Walk
fresh_walk number start = record { system = number; line = start; lines = 0; repairs = 0; fallen = 0; tally = 0 }

-- "A fresh walk: 1, 2; its refusal returns a walk all zero"
unfoldable pub fresh_of : ℕ → ℕ → Fresh
fresh_of number start =
    cond ((named_refusal number start).number == 0) (record { number = 0; place = 0; walk = fresh_walk number start })
    (record { number = (named_refusal number start).number; place = 0; walk = fresh_walk 0 0 })

-- the words of the line that a walk awaits, and its bytes, "two per word"
abbrev pub line_words : Walk → ℕ
line_words w = line_length (system_of w.system)

abbrev pub line_bytes : Walk → ℕ
line_bytes w = 2 * line_words w

-- what refuses the awaited line before its words are looked at: "1, 2, 4, 3", where so many are given and so many due
abbrev pub standing_refusal : Walk → ℕ → ℕ → Refusal
standing_refusal w given due = or_else (walk_refusal w) (refuse (not (given == due)) wrong_length 0)

-- V of a corrected code; where there is none the line is refused whatever is due behind it, and the table's 1 stands
abbrev pub v_seen : Correction → Bool
v_seen (Clean fvh) = v_bit fvh == 1
v_seen (Repaired fvh bit) = v_bit fvh == 1
v_seen (Refused number) = true

-- "after yes 0 is due": the record, "0 for no, else yes", on a line on which it is looked at
unfoldable pub has_fallen : System → ℕ → ℕ → Bool
has_fallen s line fallen = looks_back s line && not (fallen == 0)

-- V that is due in a line, by the record and the fourth word of its EAV: "after yes 0 is due, after no either. The corrected V of the EAV
-- decides"; on all other lines the table does
unfoldable pub v_due : System → ℕ → ℕ → ℕ → Bool
v_due s line fallen fourth =
    cond (may_fall s line) (cond (has_fallen s line fallen) false (v_seen (correction_of fourth))) (v_of s line)

-- which V a line may have at this record: either where V may fall and has not, 0 after it has, and on all other lines the table's
pub record MayHave (s : System) (line fallen : ℕ) (v : Bool) : Type 0 where
  pub table : may_fall s line ≡ false → v ≡ v_of s line
  pub stays : has_fallen s line fallen ≡ true → v ≡ false

-- What is due in the line that is lent at a walk, by the fourth word of its EAV: for all who read.
unfoldable pub due_by : Walk → ℕ → Due
unfolding v_due
due_by w fourth = due_with (system_of w.system) w.line (v_due (system_of w.system) w.line w.fallen fourth)

-- the same of the line's words
abbrev pub due_in : Walk → List ℕ → Due
due_in w words = due_by w (slice_index words 3)

-- "The walk records whether its last accepted line had V = 0": 1, or 0
abbrev pub fallen_by : Bool → ℕ
fallen_by v = cond v 0 1

-- Document 02, L9: the tally with the repairs of an accepted line; "since the latest accepted line whose F differs ..., that line included"
abbrev pub tally_with : System → ℕ → ℕ → ℕ → ℕ
tally_with s line tally repairs = cond (turns_field s line) 0 tally + repairs

-- "An accepted line advances the line number, adds 1 to lines read and 0 to 2 to repairs", and is recorded and tallied: told are what was
-- due in it and its report
unfoldable pub advanced_of : Walk → Due → Report → Walk
advanced_of w d report =
    record {
      system = w.system;
      line = next_line d.system w.line;
      lines = w.lines + 1;
      repairs = w.repairs + repairs_of report;
      fallen = fallen_by d.v;
      tally = tally_with d.system w.line w.tally (repairs_of report);
    }

-- the same with counts of 32 bits, for every walk
unfoldable pub moved_of : Walk → Due → Report → Walk
moved_of w d report =
    record {
      system = w.system;
      line = next_line d.system w.line;
      lines = (w.lines + 1) % 2 ^ 32;
      repairs = (w.repairs + repairs_of report) % 2 ^ 32;
      fallen = fallen_by d.v;
      tally = tally_with d.system w.line w.tally (repairs_of report) % 2 ^ 32;
    }
