-- Laws of the judgement, for all who judge a line at a walk: each refusal in its turn, what is known of a line that none refuses, and that the
-- answer keeps to its table; and of the active part and the packets that are lent of it. Assumes nothing.
use Prim.Native.Nat.{ℕ, ◌+◌, ◌-◌, ◌≤◌}
use mathlib.Core.Path.{◌≡◌, refl, sym, ap, ◌∙◌}
use mathlib.Core.List.{List, []}
use native.Mathlib.Omega.{arith}
use lib.Dec.{eqb}
use lib.ListN.{length, get_or, take, drop}
use borrow.Author.Tests.{eq-eqb, ne_eqb, eqb-true, eqb-false}
use Rattle.refusal.specs.declared.Refusal.{Refusal}
use Rattle.refusal.specs.Answer.{none}
use Rattle.refusal.specs.Table.{Decides, Keeps}
use Rattle.refusal.proofs.Cases.{by_test}
use Rattle.refusal.proofs.Firsts.{or_else_accepted, or_else_refused, or_else_none, same_number}
use Rattle.refusal.proofs.Tables.{alone, keeps_before, keeps_last, decides_before}
use Rattle.packets.specs.Fault.{word_at}
use Rattle.system.specs.declared.walk.Walk.{Walk}
use Rattle.system.specs.declared.walk.Judgement.{Judgement}
use Rattle.system.specs.Figures.{line_length, active_offset, system_of}
use Rattle.system.specs.Walk.{walk_refusal, standing_refusal, line_words, due_in}
use Rattle.system.specs.Judgement.{refused_at, accepted_at, moved_at}
use Rattle.system.proofs.Laws.{line_is_parts, due_system, accepted_good, accepted_stood, moved_advanced, judgement_accepted, judgement_refused, judgement_number}
use Rattle.system.proofs.Theorems.{standing_exact, standing_decides}
use Rattle.line.specs.Fault.{between_offset, word_refusal, counts_of}
use Rattle.line.specs.Samples.{active_length, packets_of}
use Rattle.line.proofs.Theorems.{words_exact, words_decide}
use Rattle.reader.specs.Judge.{line_refusal, report_of, line_judged, judge_refusal, judged_of, active_of, between_packets_of, active_packets_of}
use Rattle.reader.specs.Refusals.{line_refusals}
use Rattle.reader.proofs.Parts.{counts_within}

module _ (given due : ℕ) (w : Walk) (words : List ℕ) where
  abbrev pub answer : Refusal
  answer = line_refusal given due w words

  abbrev pub judged : Judgement
  judged = line_judged given due w words

  abbrev pub words_answer : Refusal
  words_answer = word_refusal (due_in w words) words

  -- ---- the refusal that has its turn
  pub line_standing : ((standing_refusal w given due).number ≡ 0 → ⊥) → answer ≡ standing_refusal w given due
  unfolding line_refusal
  line_standing n = or_else_refused (standing_refusal w given due) _ n

  pub line_words_are : (standing_refusal w given due).number ≡ 0 → answer ≡ words_answer
  unfolding line_refusal
  line_words_are stands = or_else_accepted (standing_refusal w given due) _ stands ∙ alone _ words_answer (words_exact (due_in w words) words)

  -- ---- no refusal has its turn
  pub record Accepted : Type 0 where
    pub walk : (walk_refusal w).number ≡ 0
    pub size : given ≡ due
    pub well : words_answer.number ≡ 0

  pub accepted : answer.number ≡ 0 → Accepted
  unfolding line_refusal
  accepted e =
      let first = or_else_none (standing_refusal w given due) _ e in
      let second = or_else_none words_answer none first.1 in
      let stood = accepted_stood w given due first.0 in
      record { walk = stood.walk; size = stood.size; well = second.0 }

  pub accepted_is_none : answer.number ≡ 0 → answer ≡ none
  unfolding line_refusal
  accepted_is_none e =
      let first = or_else_none (standing_refusal w given due) _ e in
      let second = or_else_none words_answer none first.1 in
      or_else_accepted _ _ first.0 ∙ or_else_accepted words_answer none second.0

  -- ---- the judgement
  pub judged_refused : (r : Refusal) → answer ≡ r → (r.number ≡ 0 → ⊥) → judged ≡ refused_at w r
  unfolding line_judged
  judged_refused r e n = rw e (judgement_refused r w _ _ _ n)

  pub judged_accepted : answer.number ≡ 0 → judged ≡ accepted_at w (due_in w words) (report_of (due_in w words) words) (counts_of (due_in w words) words)
  unfolding line_judged
  judged_accepted e = judgement_accepted answer w _ _ _ e

  -- with room for one more, as the code has it
  pub judged_moved : answer.number ≡ 0 → judged ≡ moved_at w (due_in w words) (report_of (due_in w words) words) (counts_of (due_in w words) words)
  judged_moved e =
      judged_accepted e
      ∙ ap (λ (v : Walk). record { number = 0; place = 0; report = report_of (due_in w words) words; walk = v; packets = counts_of (due_in w words) words })
      (sym (moved_advanced w (due_in w words) _ (accepted_good w (accepted e).walk)))

  pub number_judged : judged.number ≡ answer.number
  unfolding line_judged
  number_judged = judgement_number answer w _ _ _

  -- its number and place are those of the refusal, or both 0
  pub judged_as_refused : record { number = judged.number; place = judged.place } ≡ answer
  judged_as_refused =
      by_test (eqb answer.number 0)
      (λ t. let z = eqb-true _ _ t in rw (judged_accepted z, accepted_is_none z))
      (λ f. rw (judged_refused _ refl (eqb-false _ _ f)))

  -- a call's answer has the refusal's number
  pub answered : (j : Judgement) → j ≡ judged → j.number ≡ answer.number
  answered j e = ap (λ (i : Judgement). i.number) e ∙ number_judged

-- ---- the answer keeps to the table, and the table decides
module _ (given due : ℕ) (w : Walk) (words : List ℕ) where
  pub line_exact : Keeps (line_refusals given due w words) (line_refusal given due w words)
  unfolding line_refusal
  line_exact =
      keeps_before _ _ (standing_refusal w given due) _ (standing_exact w given due)
      (keeps_last _ (word_refusal (due_in w words) words) (words_exact (due_in w words) words))

  pub line_decides : Decides (line_refusals given due w words)
  line_decides = decides_before _ _ (standing_decides w given due) (words_decide (due_in w words) words)

-- ---- the active part
module _ (w : Walk) (words : List ℕ) where
  -- an accepted line is long enough for it
  pub active_fits : (judge_refusal w words).number ≡ 0 → active_offset (system_of w.system) + active_length ≤ length words
  active_fits e = omega (arith, (accepted (length words) (line_words w) w words e).size, line_is_parts (system_of w.system))

  pub active_refused : ((judge_refusal w words).number ≡ 0 → ⊥) → active_of w words ≡ []
  unfolding active_of
  active_refused n = simp (ne_eqb _ _ n)

  pub active_accepted : (judge_refusal w words).number ≡ 0 → active_of w words ≡ take active_length (drop (active_offset (system_of w.system)) words)
  unfolding active_of
  active_accepted e = simp (eq-eqb _ _ e)

-- ---- the packets
module _ (w : Walk) (words : List ℕ) where
  -- none of a refused line
  module _ (n : (judge_refusal w words).number ≡ 0 → ⊥) where
    pub between_packets_refused : between_packets_of w words ≡ []
    unfolding between_packets_of
    between_packets_refused = simp (ne_eqb _ _ n)

    pub active_packets_refused : active_packets_of w words ≡ []
    unfolding active_packets_of
    active_packets_refused = simp (ne_eqb _ _ n)

  -- of an accepted line the first words of each space, as many as the judgement tells
  module _ (e : (judge_refusal w words).number ≡ 0) where
    counts_judged : (judged_of w words).packets ≡ counts_of (due_in w words) words
    counts_judged = ap (λ (j : Judgement). j.packets) (judged_accepted (length words) (line_words w) w words e)

    pub between_packets_accepted : between_packets_of w words ≡ take (judged_of w words).packets.between (drop between_offset words)
    unfolding between_packets_of packets_of
    between_packets_accepted = simp (eq-eqb _ _ e) (rw counts_judged refl)

    pub active_packets_accepted : active_packets_of w words ≡ take (judged_of w words).packets.active (drop (active_offset (system_of w.system)) words)
    unfolding active_packets_of packets_of
    active_packets_accepted = simp (eq-eqb _ _ e) (rw (counts_judged, due_system w (get_or words 3 0)) refl)

    -- which are words of the line
    in_line : length words ≡ line_length (due_in w words).system
    in_line = (accepted (length words) (line_words w) w words e).size ∙ ap line_length (sym (due_system w (get_or words 3 0)))

    pub between_packets_fit : between_offset + (judged_of w words).packets.between ≤ length words
    between_packets_fit = rw counts_judged (omega (arith, in_line, (counts_within (due_in w words) (word_at words)).0, line_is_parts (due_in w words).system))

    pub active_packets_fit : active_offset (system_of w.system) + (judged_of w words).packets.active ≤ length words
    active_packets_fit =
        rw counts_judged (omega (arith, in_line, (counts_within (due_in w words) (word_at words)).1, ap active_offset (due_system w (get_or words 3 0))))

-- ---- what is lent of a line that was accepted, with its judgement
-- as a slice has it
slice_is : (l : List ℕ) (start n : ℕ) → take (start + n - start) (drop start l) ≡ take n (drop start l)
slice_is l start n = ap (λ (k : ℕ). take k (drop start l)) (omega arith)

module _ (w : Walk) (words : List ℕ) (start : ℕ) (is-start : start ≡ active_offset (system_of w.system)) (stood : none ≡ judge_refusal w words) where
  pub active_lent_fits : start + active_length ≤ length words
  active_lent_fits = rw is-start (active_fits w words (sym (same_number stood)))

  pub active_lent : take (start + active_length - start) (drop start words) ≡ active_of w words
  active_lent = slice_is words start active_length ∙ rw is-start (sym (active_accepted w words (sym (same_number stood))))

module _ (w : Walk) (words : List ℕ) (j : Judgement) (is-judged : j ≡ judged_of w words) (stood : none ≡ judge_refusal w words) where
  pub between_lent_fits : between_offset + j.packets.between ≤ length words
  between_lent_fits = rw is-judged (between_packets_fit w words (sym (same_number stood)))

  pub between_lent : take (between_offset + j.packets.between - between_offset) (drop between_offset words) ≡ between_packets_of w words
  between_lent =
      slice_is words between_offset j.packets.between ∙ rw is-judged (sym (between_packets_accepted w words (sym (same_number stood))))

  module _ (start : ℕ) (is-start : start ≡ active_offset (system_of w.system)) where
    pub active_packets_lent_fits : start + j.packets.active ≤ length words
    active_packets_lent_fits = rw (is-start, is-judged) (active_packets_fit w words (sym (same_number stood)))

    pub active_packets_lent : take (start + j.packets.active - start) (drop start words) ≡ active_packets_of w words
    active_packets_lent =
        slice_is words start j.packets.active ∙ rw (is-start, is-judged) (sym (active_packets_accepted w words (sym (same_number stood))))
