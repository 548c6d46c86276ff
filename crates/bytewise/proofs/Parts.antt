-- The words of a line told from its bytes: a line whose parts the fast pass found well has no fault, and lines with the same words have the same
-- faults and packets. Assumes nothing.
use Rattle.std.proofs.Common.{◌≡◌, ℕ, ◌+◌, ◌-◌, ◌*◌, ◌/◌, ◌<◌, ◌≤◌, true, false, List, Ok, length, take, sym, refl, ap, ◌∙◌, subst, ap₂, true≢false, arith, length-take-le, get_or-take}
use Rattle.words.specs.Bytes.{word_of_bytes, words_of}
use Rattle.words.specs.Passes.{Filled, Sampled}
use Rattle.words.proofs.Bytes.{words_length, word_at_is}
use Rattle.packets.specs.Fault.{Space, word_at, space_of, space_told}
use Rattle.packets.proofs.Local.{same_fault, same_space}
use Rattle.system.specs.declared.due.Due.{Due}
use Rattle.system.specs.Figures.{line_length, sav_offset, active_offset}
use Rattle.system.specs.Due.{flags_of}
use Rattle.system.proofs.Laws.{line_is_parts}
use Rattle.line.specs.Fault.{between_offset, fault_of, between_space, active_space, packets_in}
use Rattle.line.specs.Samples.{active_length}
use Rattle.line.specs.Parts.{Proper, CodeWell}
use Rattle.line.proofs.Parts.{between_filled, active_filled, parts_well}
use Rattle.line.proofs.Spaces.{fault_apart, fault_between, fault_active, by_space}
use Rattle.reader.proofs.Parts.{space_to_end}
use Rattle.bytewise.specs.Passes.{line_word, PlainActive, LineWell}

-- ---- words that agree over a line have the same faults there, and the same packets
module _ (d : Due) (u v : ℕ → ℕ) (same : (j : ℕ) → j < line_length d.system → u j ≡ v j) where
  in_between : (j : ℕ) → between_offset ≤ j → j < sav_offset d.system → u j ≡ v j
  in_between j g l = same j (omega (arith, line_is_parts d.system))

  in_active : (j : ℕ) → active_offset d.system ≤ j → j < line_length d.system → u j ≡ v j
  in_active j g l = same j l

  pub same_faults : (i : ℕ) → i < line_length d.system → fault_of d u i ≡ fault_of d v i
  same_faults i l =
      by_space d u (λ n. n ≡ fault_of d v i) i
      (λ f. rw (same i l) (sym (fault_apart d v i f)))
      (λ g m. same_fault u v between_offset (sav_offset d.system) in_between d.fill.even d.fill.odd i g m ∙ sym (fault_between d v i g m))
      (λ g t. same_fault u v (active_offset d.system) (line_length d.system) in_active d.fill.even d.fill.odd i g l ∙ sym (fault_active d v i g t))

  pub same_packets : packets_in d u ≡ packets_in d v
  unfolding packets_in
  same_packets =
      rw (
        same_space u v between_offset (sav_offset d.system) in_between d.fill.even d.fill.odd,
        same_space u v (active_offset d.system) (line_length d.system) in_active d.fill.even d.fill.odd,
      ) refl

module _ (bytes : List ℕ) where
  -- the words of a part that starts at a word, told from the bytes and told from the line
  same_words : (P : (ℕ → ℕ) → Type 0) (at start : ℕ) → at ≡ 2 * start → P (λ k. word_of_bytes bytes (at + 2 * k)) → P (λ k. line_word bytes (start + k))
  same_words P at start e =
      let same : ◌≡◌ {A = ℕ → ℕ} (λ k. word_of_bytes bytes (at + 2 * k)) (λ k. line_word bytes (start + k)) =
      λ i k. ap (word_of_bytes bytes) (twice k) i in
      λ p. subst P same p
    where
      twice : (k : ℕ) → at + 2 * k ≡ 2 * (start + k)
      twice k = omega arith

  -- ---- the space between
  module _ (due : Due) where
    -- all fill
    pub between_fill : Proper due.fill → Filled due.fill.even due.fill.odd (λ k. word_of_bytes bytes (8 + 2 * k)) ((sav_offset due.system - 4) / 2)
        → space_told (Ok 0) ≡ between_space due (line_word bytes)
    between_fill ok both =
        sym
        (between_filled due (line_word bytes) ok
        (same_words (λ w. Filled due.fill.even due.fill.odd w ((sav_offset due.system - 4) / 2)) 8 between_offset (omega arith) both))

    -- judged by words that were taken from the line's bytes
    pub between_taken : length bytes ≡ 2 * line_length due.system → (sav : ℕ) → sav ≡ sav_offset due.system → (words : List ℕ)
        → words ≡ words_of (take (2 * sav) bytes) → space_of words between_offset sav due.fill.even due.fill.odd ≡ between_space due (line_word bytes)
    between_taken size sav is-sav words are_words =
        let long : 2 * sav ≤ length bytes = omega (arith, line_is_parts due.system) in
        let taken : length (take (2 * sav) bytes) ≡ 2 * sav = length-take-le (2 * sav) bytes long in
        let held : length words ≡ sav = ap length are_words ∙ words_length (take (2 * sav) bytes) sav taken in
        let word : (k : ℕ) → between_offset ≤ k → k < sav → word_at words k ≡ line_word bytes k = λ k g l.
        ap (λ (ws : List ℕ). word_at ws k) are_words ∙ word_at_is (take (2 * sav) bytes) sav taken k l
        ∙ ap₂ (λ (low high : ℕ). low + 256 * high)
        (get_or-take (2 * sav) bytes (2 * k) 0 (omega arith)) (get_or-take (2 * sav) bytes (2 * k + 1) 0 (omega arith)) in
        space_to_end words between_offset sav due.fill.even due.fill.odd (omega arith)
        ∙ same_space (word_at words) (line_word bytes) between_offset sav word due.fill.even due.fill.odd
        ∙ rw is-sav refl

    -- ---- the active part, from a byte offset
    module _ (from : ℕ) (is-active : from ≡ 2 * active_offset due.system) where
      pub active_fill : Proper due.fill → due.v ≡ true
          → Filled due.fill.even due.fill.odd (λ k. word_of_bytes bytes (from + 2 * k)) (active_length / 2) → PlainActive due (line_word bytes)
      unfolding packets_in
      active_fill ok v both =
          let space : active_space due (line_word bytes) ≡ record { number = 0; place = 0; packets = 0 } =
          active_filled due (line_word bytes) ok
          (same_words (λ w. Filled due.fill.even due.fill.odd w (active_length / 2)) from (active_offset due.system) is-active both) in
          record {
            well = record { blank = λ _. ap (λ (s : Space). s.number) space; samples = λ f. absurd (true≢false (sym v ∙ f)) };
            counted = rw v (ap (λ (s : Space). s.packets) space);
          }

      pub active_samples : due.v ≡ false → Sampled (λ k. word_of_bytes bytes (from + 2 * k)) active_length → PlainActive due (line_word bytes)
      unfolding packets_in
      active_samples v all =
          record {
            well = record {
              blank = λ t. absurd (true≢false (sym t ∙ v));
              samples = λ _. same_words (λ w. Sampled w active_length) from (active_offset due.system) is-active all;
            };
            counted = rw v refl;
          }

    -- ---- the parts, with the SAV offset, the flags and the packets of the space between as the code has them
    pub line_well : (sav eav-fvh sav-fvh packets : ℕ)
        → sav ≡ sav_offset due.system → eav-fvh ≡ flags_of due true → sav-fvh ≡ flags_of due false
        → CodeWell eav-fvh (λ k. word_of_bytes bytes (0 + 2 * k))
        → space_told (Ok packets) ≡ between_space due (line_word bytes)
        → CodeWell sav-fvh (λ k. word_of_bytes bytes (2 * sav + 2 * k))
        → PlainActive due (line_word bytes) → LineWell due bytes (record { between = packets; active = 0 })
    unfolding packets_in
    line_well sav eav-fvh sav-fvh packets is-sav in_eav in_sav eav between code active =
        record {
          well = parts_well due (line_word bytes)
              (record {
                eav = λ k l. let z : 0 + 2 * k ≡ 2 * k = omega arith in rw (← in_eav) (rw z at (eav k l));
                between = sym (ap (λ (s : Space). s.number) between);
                sav = rw (← in_sav) (same_words (CodeWell sav-fvh) (2 * sav) (sav_offset due.system) (omega arith) code);
                active = active.well;
              });
          counted = rw (← between, active.counted) refl;
        }
