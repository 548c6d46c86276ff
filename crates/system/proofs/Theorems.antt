-- The promises on fresh walks and walks, of the definitions that the calls' contracts cite. Assumes nothing.
use Rattle.std.proofs.Common.{◌≡◌, ℕ, ◌*◌, ◌<◌, true, not, ◌||◌, eqb, ltb, leb, ◌⊎◌, sym, ap, ◌∙◌, subst, inl, inr, ⊎_elim, true≢false, arith, ltb-true, lt-ltb, eq-eqb, ne_eqb, eqb-true, le-leb, leb-false, leb-true}
use borrow.Author.Tests.{lt-leb}
use Rattle.refusal.specs.declared.Refusal.{Refusal}
use Rattle.refusal.specs.Numbers.{no_system, no_line, wrong_length, bad_counts}
use Rattle.refusal.specs.Answer.{or_else}
use Rattle.refusal.specs.Table.{when, Decides, Keeps}
use Rattle.refusal.proofs.Cases.{by_test, not_true, or_either, or_left, or_right}
use Rattle.refusal.proofs.Firsts.{or_else_grouped}
use Rattle.refusal.proofs.Tables.{keeps_when, keeps_unequal, keeps_before, keeps_last, alone, decides_when, decides_before}
use Rattle.timing.specs.declared.Report.{Report}
use Rattle.system.specs.declared.System.TheVariants.{Lines525, Lines625}
use Rattle.system.specs.declared.walk.Walk.{Walk}
use Rattle.system.specs.declared.walk.Fresh.{Fresh}
use Rattle.system.specs.declared.walk.PacketWords.{PacketWords}
use Rattle.system.specs.declared.walk.Judgement.{Judgement}
use Rattle.system.specs.declared.due.Due.{Due}
use Rattle.system.specs.Figures.{system_number, line_count, between, is_system, system_of, is_fall}
use Rattle.system.specs.Walk.{most_lines, is_line, system_refusal, number_refusal, named_refusal, written_refusal, count_refusal, walk_refusal, fresh_of, standing_refusal, moved_of}
use Rattle.system.specs.Judgement.{refused_at, moved_at}
use Rattle.system.specs.Refusals.{NoSystem, NoLine, NoFall, BadCounts, named_refusals, written_refusals, walk_refusals, standing_refusals}
use Rattle.system.proofs.Laws.{between_both}

-- ---- each test is its condition
no_system_is : (number : ℕ) → not (is_system number) ≡ true → NoSystem number
unfolding is_system
no_system_is number e =
    let a = eqb number (system_number Lines525) in
    let b = eqb number (system_number Lines625) in
    let f = not_true (a || b) e in
    (λ q. true≢false (sym (or_left a b (eq-eqb number _ q)) ∙ f), λ q. true≢false (sym (or_right a b (eq-eqb number _ q)) ∙ f))

system_none : (number : ℕ) → NoSystem number → not (is_system number) ≡ true
unfolding is_system
system_none number (a, b) = simp (ne_eqb number _ a, ne_eqb number _ b)

no_line_is : (number line : ℕ) → not (is_line number line) ≡ true → NoLine number line
unfolding is_line
no_line_is number line e =
    let last = line_count (system_of number) in
    by_test (leb 1 line)
    (λ l. by_test (leb line last)
    (λ m. absurd (true≢false (sym (between_both 1 last line (leb-true _ _ l) (leb-true _ _ m)) ∙ not_true _ e)))
    (λ m. inr (leb-false _ _ m)))
    (λ l. inl (leb-false _ _ l))

line_none : (number line : ℕ) → NoLine number line → not (is_line number line) ≡ true
unfolding is_line
line_none number line (inl low) = simp (lt-leb _ _ low)
line_none number line (inr high) =
    by_test (leb 1 line) (λ l. simp (l, lt-leb _ _ high)) (λ l. simp l)

bad_counts_are : (w : Walk) → (leb most_lines w.lines || (ltb (2 * w.lines) w.repairs || ltb w.repairs w.tally)) ≡ true → BadCounts w
bad_counts_are w e =
    ⊎_elim (λ a. inl (leb-true _ _ a))
    (λ b. inr (⊎_elim (λ m. inl (ltb-true _ _ m)) (λ t. inr (ltb-true _ _ t)) (or_either (ltb (2 * w.lines) w.repairs) _ b)))
    (or_either (leb most_lines w.lines) _ e)

counts_bad : (w : Walk) → BadCounts w → (leb most_lines w.lines || (ltb (2 * w.lines) w.repairs || ltb w.repairs w.tally)) ≡ true
counts_bad w (inl a) = or_left _ _ (le-leb _ _ a)
counts_bad w (inr (inl b)) = or_right (leb most_lines w.lines) _ (or_left _ _ (lt-ltb _ _ b))
counts_bad w (inr (inr t)) = or_right (leb most_lines w.lines) _ (or_right (ltb (2 * w.lines) w.repairs) _ (lt-ltb _ _ t))

-- the refusals as the definitions list them
module _ (number line : ℕ) where
  keeps_system : Keeps (when (NoSystem number) no_system 0) (system_refusal number)
  keeps_system = keeps_when (not (is_system number)) (NoSystem number) no_system 0 (no_system_is number) (system_none number) (λ z. omega arith)

  keeps_line : Keeps (when (NoLine number line) no_line 0) (number_refusal number line)
  keeps_line = keeps_when (not (is_line number line)) (NoLine number line) no_line 0 (no_line_is number line) (line_none number line) (λ z. omega arith)

-- ---- Each refusal comes exactly when its condition holds and none earlier does.
module _ (number line : ℕ) where
  pub named_exact : Keeps (named_refusals number line) (named_refusal number line)
  unfolding named_refusal
  named_exact =
      keeps_before _ _ (system_refusal number) _ (keeps_system number line) (keeps_last _ (number_refusal number line) (keeps_line number line))

  pub named_decides : Decides (named_refusals number line)
  named_decides = decides_before _ _ (decides_when (NoSystem number) no_system 0) (decides_when (NoLine number line) no_line 0)

-- and where a line is to be written
no_fall : (number fall : ℕ) → not (is_fall (system_of number) fall) ≡ true → NoFall number fall
unfolding system_of is_fall
no_fall number fall e =
    by_test (eqb number (system_number Lines525))
    (λ t. (eqb-true number _ t, missed (sym (simp t) ∙ e))) (λ f. absurd (true≢false (sym (sym (simp f) ∙ e))))
  where
    missed : not (between 10 20 fall) ≡ true → (fall < 10) ⊎ (20 < fall)
    missed n =
        by_test (leb 10 fall)
        (λ l. by_test (leb fall 20) (λ m. absurd (true≢false (sym (between_both 10 20 fall (leb-true 10 fall l) (leb-true fall 20 m)) ∙ not_true _ n))) (λ m. inr (leb-false fall 20 m)))
        (λ l. inl (leb-false 10 fall l))

fall_none : (number fall : ℕ) → NoFall number fall → not (is_fall (system_of number) fall) ≡ true
unfolding system_of is_fall
fall_none number fall (is, inl low) = simp (eq-eqb number _ is, lt-leb _ _ low)
fall_none number fall (is, inr high) = by_test (leb 10 fall) (λ l. simp (eq-eqb number _ is, l, lt-leb _ _ high)) (λ l. simp (eq-eqb number _ is, l))

module _ (number line fall : ℕ) where
  pub written_exact : Keeps (written_refusals number line fall) (written_refusal number line fall)
  unfolding written_refusal
  written_exact =
      keeps_before _ _ (named_refusal number line) _ (named_exact number line)
      (keeps_when _ (NoFall number fall) no_line 0 (no_fall number fall) (fall_none number fall) (λ z. omega arith))

  pub written_decides : Decides (written_refusals number line fall)
  written_decides = decides_before _ _ (named_decides number line) (decides_when (NoFall number fall) no_line 0)

module _ (w : Walk) where
  pub walk_exact : Keeps (walk_refusals w) (walk_refusal w)
  unfolding walk_refusal named_refusal
  walk_exact =
      let system = system_refusal w.system in
      let line = number_refusal w.system w.line in
      subst (Keeps (walk_refusals w))
      (or_else_grouped system line _ ∙ ap (λ (r : Refusal). or_else (or_else system r) (count_refusal w)) (sym (alone _ line (keeps_line w.system w.line))))
      (keeps_before _ _ system _ (keeps_system w.system w.line)
      (keeps_before _ _ line _ (keeps_line w.system w.line)
      (keeps_when _ (BadCounts w) bad_counts 0 (bad_counts_are w) (counts_bad w) (λ z. omega arith))))

  pub walk_decides : Decides (walk_refusals w)
  walk_decides =
      decides_before _ _ (decides_when (NoSystem w.system) no_system 0)
      (decides_before _ _ (decides_when (NoLine w.system w.line) no_line 0) (decides_when (BadCounts w) bad_counts 0))

  pub standing_exact : (given due : ℕ) → Keeps (standing_refusals w given due) (standing_refusal w given due)
  standing_exact given due = keeps_before _ _ (walk_refusal w) _ walk_exact (keeps_unequal given due 0)

  pub standing_decides : (given due : ℕ) → Decides (standing_refusals w given due)
  standing_decides given due = decides_before _ _ walk_decides (decides_when (given ≡ due → ⊥) wrong_length 0)

-- The number of a fresh walk's answer is that refusal's.
pub fresh_number : (number start : ℕ) → (fresh_of number start).number ≡ (named_refusal number start).number
unfolding fresh_of
fresh_number number start =
    by_test (eqb (named_refusal number start).number 0)
    (λ e. simp e (sym (eqb-true _ _ e))) (λ e. simp e)

-- and so its place: the answer is that refusal.
pub fresh_refusal : (number start : ℕ) → named_refusal number start ≡ record { number = (fresh_of number start).number; place = (fresh_of number start).place }
unfolding fresh_of named_refusal or_else
fresh_refusal number start =
    by_test (is_system number) (λ a. by_test (is_line number start) (λ b. simp (a, b)) (λ b. simp (a, b))) (λ a. simp a)

-- "its refusal returns a walk all zero"
pub fresh_refused_zero : (number start : ℕ) → ((fresh_of number start).number ≡ 0 → ⊥)
    → (fresh_of number start).walk ≡ record { system = 0; line = 0; lines = 0; repairs = 0; fallen = 0; tally = 0 }
unfolding fresh_of
fresh_refused_zero number start refused =
    by_test (eqb (named_refusal number start).number 0)
    (λ e. absurd (refused (fresh_number number start ∙ eqb-true _ _ e))) (λ e. simp e)

-- ---- Two results allowed for one input are the same.
pub fresh_one_result : (number start : ℕ) (r s : Fresh) → r ≡ fresh_of number start → s ≡ fresh_of number start → r ≡ s
fresh_one_result number start r s e f = e ∙ sym f

pub moved_one_result : (w : Walk) (d : Due) (report : Report) (r s : Walk) → r ≡ moved_of w d report → s ≡ moved_of w d report → r ≡ s
moved_one_result w d report r s e f = e ∙ sym f

pub refused_one_result : (w : Walk) (refusal : Refusal) (r s : Judgement) → r ≡ refused_at w refusal → s ≡ refused_at w refusal → r ≡ s
refused_one_result w refusal r s e f = e ∙ sym f

pub accepted_one_result : (w : Walk) (d : Due) (report : Report) (packets : PacketWords) (r s : Judgement)
    → r ≡ moved_at w d report packets → s ≡ moved_at w d report packets → r ≡ s
accepted_one_result w d report packets r s e f = e ∙ sym f
