-- What the judgement of a line's bytes is, refusal by refusal, and where the fast pass finds it well. Assumes nothing.
use Rattle.std.proofs.Common.{◌≡◌, ℕ, suc, ◌+◌, ◌*◌, ◌<◌, ◌≤◌, List, length, sym, ap, ◌∙◌, add-one, arith}
use Rattle.refusal.specs.declared.Refusal.{Refusal}
use Rattle.refusal.specs.Numbers.{wrong_length}
use Rattle.refusal.specs.Answer.{none}
use Rattle.refusal.proofs.Firsts.{first_none, same_number}
use Rattle.words.specs.Bytes.{word_of_bytes, words_of}
use Rattle.words.proofs.Bytes.{words_length, word_at_is}
use Rattle.packets.specs.Fault.{word_at}
use Rattle.timing.specs.declared.Report.{Report}
use Rattle.timing.specs.Report.{code_report_of}
use Rattle.system.specs.declared.System.{System}
use Rattle.system.specs.declared.due.Due.{Due}
use Rattle.system.specs.declared.walk.Walk.{Walk}
use Rattle.system.specs.declared.walk.Judgement.{Judgement}
use Rattle.system.specs.declared.walk.PacketWords.{PacketWords}
use Rattle.system.specs.Figures.{sav_offset, line_length, system_of}
use Rattle.system.specs.Due.{due_with}
use Rattle.system.specs.Walk.{walk_refusal, standing_refusal, advanced_of, line_bytes, due_by, due_in}
use Rattle.system.specs.Judgement.{refused_at, moved_at}
use Rattle.system.proofs.Laws.{Good, accepted_good, line_is_parts, due_system, standing_walk, standing_length, accepted_stood}
use Rattle.line.specs.Fault.{fault_at, word_refusal, counts_of}
use Rattle.line.specs.Parts.{Proper}
use Rattle.reader.specs.Judge.{report_of}
use Rattle.reader.proofs.Judged.{accepted, judged_accepted, number_judged, line_standing, line_words_are, judged_refused, judged_moved}
use Rattle.bytewise.specs.declared.pass.Codes.{Codes}
use Rattle.bytewise.specs.Bytes.{judged_bytes}
use Rattle.bytewise.specs.Passes.{LineBytes, Corrected, line_word, LineWell}
use Rattle.bytewise.proofs.Parts.{same_faults, same_packets}

-- fill is of ten bits at every walk
proper : (w : Walk) (fourth : ℕ) → Proper (due_by w fourth).fill
unfolding due_by due_with
proper w fourth = record { even = omega arith; odd = omega arith }

module _ (w : Walk) (bytes : List ℕ) where
  abbrev standing : Refusal
  standing = standing_refusal w (length bytes) (line_bytes w)

  -- the line is refused before its words are looked at
  pub judged_standing : (standing.number ≡ 0 → ⊥) → judged_bytes w bytes ≡ refused_at w standing
  judged_standing n =
      judged_refused (length bytes) (line_bytes w) w (words_of bytes) standing (line_standing (length bytes) (line_bytes w) w (words_of bytes) n) n

  -- by the walk, or by its length
  pub judged_walk : ((walk_refusal w).number ≡ 0 → ⊥) → judged_bytes w bytes ≡ refused_at w (walk_refusal w)
  judged_walk n =
      let e = standing_walk w (length bytes) (line_bytes w) n in
      judged_standing (λ z. n (sym (same_number e) ∙ z)) ∙ ap (refused_at w) e

  pub judged_count : (walk_refusal w).number ≡ 0 → (length bytes ≡ line_bytes w → ⊥)
      → judged_bytes w bytes ≡ refused_at w (record { number = wrong_length; place = 0 })
  judged_count stands n =
      let e = standing_length w (length bytes) (line_bytes w) stands n in
      judged_standing (λ z. never (sym (same_number e) ∙ z)) ∙ ap (refused_at w) e
    where
      never : ◌≡◌ {A = ℕ} wrong_length 0 → ⊥
      never q = omega arith

  -- past that, what is due in it
  module _ (stands : standing.number ≡ 0) where
    pub whole : length bytes ≡ line_bytes w
    whole = (accepted_stood w (length bytes) (line_bytes w) stands).size

    pub fourth_bytes : 8 ≤ length bytes
    fourth_bytes = omega (arith, whole, line_is_parts (system_of w.system))

    module _ (d : Due) (fourth : ℕ) (is-fourth : fourth ≡ word_of_bytes bytes 6) (is_due : d ≡ due_by w fourth) where
      in_line : d ≡ due_in w (words_of bytes)
      in_line =
          is_due ∙ ap (due_by w) (is-fourth ∙ sym (word_at_is bytes (line_length (system_of w.system)) whole 3 (omega (arith, line_is_parts (system_of w.system)))))

      of_system : d.system ≡ system_of w.system
      of_system = ap (λ (x : Due). x.system) is_due ∙ due_system w fourth

      pub line_bytes_are : LineBytes d bytes
      line_bytes_are =
          record {
            fill = rw is_due (proper w fourth);
            size = whole ∙ ap (λ (s : System). 2 * line_length s) (sym of_system);
          }

      -- the fast pass found the line well
      module _ (codes : Codes) where
        -- its words are those of its bytes
        told_words : (j : ℕ) → j < line_length d.system → word_at (words_of bytes) j ≡ line_word bytes j
        told_words j l = word_at_is bytes _ line_bytes_are.size j l

        no_fault : (packets : PacketWords) → LineWell d bytes packets → word_refusal (due_in w (words_of bytes)) (words_of bytes) ≡ none
        unfolding word_refusal
        no_fault packets found =
            rw (← in_line)
            (first_none (fault_at d (words_of bytes)) (length (words_of bytes)) (λ j l.
            let m : j < line_length d.system = omega (arith, words_length bytes _ line_bytes_are.size) in
            same_faults d (word_at (words_of bytes)) (line_word bytes) told_words j m ∙ found.well j m))

        counted : (packets : PacketWords) → LineWell d bytes packets → packets ≡ counts_of (due_in w (words_of bytes)) (words_of bytes)
        counted packets found =
            found.counted ∙ sym (same_packets d (word_at (words_of bytes)) (line_word bytes) told_words)
            ∙ ap (λ (x : Due). counts_of x (words_of bytes)) in_line

        reported : Corrected d bytes codes
            → record { eav = code_report_of codes.eav; sav = code_report_of codes.sav } ≡ report_of (due_in w (words_of bytes)) (words_of bytes)
        unfolding report_of
        reported told =
            let size = line_bytes_are.size in
            let parts = line_is_parts d.system in
            let s : ℕ = sav_offset d.system in
            let e : 2 * (s + 3) ≡ 2 * s + 6 = omega arith in
            rw (← in_line, word_at_is bytes _ size 3 (omega arith), word_at_is bytes _ size (s + 3) (omega arith), e, told.eav, told.sav)

        pub judged_well : (report : Report) (packets : PacketWords) → report ≡ record { eav = code_report_of codes.eav; sav = code_report_of codes.sav }
            → Corrected d bytes codes → LineWell d bytes packets → judged_bytes w bytes ≡ moved_at w d report packets
        judged_well report packets e told found =
            judged_moved (length bytes) (line_bytes w) w (words_of bytes)
            (same_number (line_words_are (length bytes) (line_bytes w) w (words_of bytes) stands ∙ no_fault packets found))
            ∙ rw (e ∙ reported told, counted packets found, in_line)

-- ---- An accepted line: the walk refused none, the line had its bytes, and it was counted.
pub record Counted (w : Walk) (bytes : List ℕ) : Type 0 where
  pub good : Good w
  pub size : length bytes ≡ line_bytes w
  pub lines : (judged_bytes w bytes).walk.lines ≡ suc w.lines
  pub system : (judged_bytes w bytes).walk.system ≡ w.system

pub accepted_counted : (w : Walk) (bytes : List ℕ) → (judged_bytes w bytes).number ≡ 0 → Counted w bytes
unfolding advanced_of
accepted_counted w bytes z =
    let well = sym (number_judged (length bytes) (line_bytes w) w (words_of bytes)) ∙ z in
    let a = accepted (length bytes) (line_bytes w) w (words_of bytes) well in
    let e = judged_accepted (length bytes) (line_bytes w) w (words_of bytes) well in
    record {
      good = accepted_good w a.walk;
      size = a.size;
      lines = ap (λ (j : Judgement). j.walk.lines) e ∙ add-one w.lines;
      system = ap (λ (j : Judgement). j.walk.system) e;
    }
