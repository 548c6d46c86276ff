-- Laws of the systems' figures and of the walk, for those who cite them. Assumes nothing.
use Rattle.std.proofs.Common.{◌≡◌, ℕ, ◌+◌, ◌-◌, ◌*◌, ◌%◌, ◌^◌, ◌<◌, ◌≤◌, Bool, true, false, not, eqb, ltb, leb, sym, refl, ap, ◌∙◌, subst, arith, ltb-false, ltb-true, le-ltb, lt-ltb, eq-eqb, ne_eqb, eqb-true, le-leb, leb-false, leb-true}
use borrow.Author.Tests.{lt-leb, eqb-false}
use Rattle.refusal.specs.declared.Refusal.{Refusal}
use Rattle.refusal.specs.Numbers.{no_system, no_line, wrong_length, bad_counts}
use Rattle.refusal.specs.Answer.{none, refuse, or_else}
use Rattle.refusal.specs.declared.Refused.{Refused}
use Rattle.refusal.specs.Reasons.{number_of, numbered}
use Rattle.refusal.proofs.Results.{reason_counts}
use Rattle.refusal.proofs.Cases.{by_cond, by_test, not_false, and_true, or_neither}
use Rattle.refusal.proofs.Firsts.{or_else_accepted, or_else_refused, or_else_none, same_number, not_made, length_due}
use Rattle.timing.specs.declared.CodeReport.{CodeReport}
use Rattle.timing.specs.declared.CodeReport.TheVariants.{Clean, Repaired}
use Rattle.timing.specs.declared.Report.{Report}
use Rattle.timing.specs.Report.{repairs_in, repairs_of}
use Rattle.system.specs.declared.System.{System}
use Rattle.system.specs.declared.System.TheVariants.{Lines525, Lines625}
use Rattle.system.specs.declared.due.Due.{Due}
use Rattle.system.specs.declared.walk.Walk.{Walk}
use Rattle.system.specs.declared.walk.Fresh.{Fresh}
use Rattle.system.specs.declared.walk.PacketWords.{PacketWords}
use Rattle.system.specs.declared.walk.Judgement.{Judgement}
use Rattle.system.specs.Figures.{system_number, line_length, sav_offset, active_offset, line_count, between, is_system, system_of, is_fall, next_line, turns_field}
use Rattle.system.specs.Due.{due_with, flag, flags_of}
use Rattle.system.specs.Walk.{most_lines, is_line, named_refusal, written_refusal, walk_refusal, fresh_walk, fresh_of, standing_refusal, due_by, tally_with, advanced_of, moved_of}
use Rattle.system.specs.Refusals.{NoSystem}
use Rattle.system.specs.Judgement.{refused_at, accepted_at, judgement_of}

-- ---- the figures fit each other, and are in range
pub line_is_parts : (s : System) → line_length s ≡ active_offset s + 1440
line_is_parts Lines525 = refl
line_is_parts Lines625 = refl

-- no line is longer than the longer system's
pub longest : (s : System) → line_length s ≤ line_length Lines625
longest Lines525 = omega arith
longest Lines625 = omega arith

pub sav_low : (s : System) → 6 ≤ sav_offset s
sav_low Lines525 = omega arith
sav_low Lines625 = omega arith

pub sav_high : (s : System) → sav_offset s ≤ 284
sav_high Lines525 = omega arith
sav_high Lines625 = omega arith

pub sav_even : (s : System) → sav_offset s % 2 ≡ 0
sav_even Lines525 = refl
sav_even Lines625 = refl

pub line_count_low : (s : System) → 1 ≤ line_count s
line_count_low Lines525 = omega arith
line_count_low Lines625 = omega arith

pub line_count_high : (s : System) → line_count s ≤ 625
line_count_high Lines525 = omega arith
line_count_high Lines625 = omega arith

-- ---- ranges of numbers
pub between_both : (a b n : ℕ) → a ≤ n → n ≤ b → between a b n ≡ true
between_both a b n l h = simp (le-leb _ _ l, le-leb _ _ h)

pub between_first : (a b n : ℕ) → between a b n ≡ true → a ≤ n
between_first a b n e = leb-true a n (and_true (leb a n) (leb n b) e).0

pub between_last : (a b n : ℕ) → between a b n ≡ true → n ≤ b
between_last a b n e = leb-true n b (and_true (leb a n) (leb n b) e).1

-- a line 263 lines behind, compared with the first field's
pub lines_behind : (line fall : ℕ) → 264 ≤ line → ltb (line - 263) fall ≡ ltb line (fall + 263)
lines_behind line fall later =
    by_test (ltb line (fall + 263))
    (λ t. lt-ltb (line - 263) fall (omega (arith, later, ltb-true line (fall + 263) t)) ∙ sym t)
    (λ f. le-ltb (line - 263) fall (omega (arith, later, ltb-false line (fall + 263) f)) ∙ sym f)

-- ---- a report tells of no more than two repairs
at_most_one : (r : CodeReport) → repairs_in r ≤ 1
at_most_one Clean = omega arith
at_most_one (Repaired bit) = omega arith

pub at_most_two : (r : Report) → repairs_of r ≤ 2
at_most_two r = omega (arith, at_most_one r.eav, at_most_one r.sav)

-- ---- the tally grows by no more than a line's repairs
pub tally_with_few : (s : System) (line tally repairs : ℕ) → tally_with s line tally repairs ≤ tally + repairs
tally_with_few s line tally repairs = by_test (turns_field s line) (λ t. simp t (omega arith)) (λ f. simp f (omega arith))

-- ---- the numbers of a system and of a line, and a fresh walk
module _ (number line : ℕ) where
  pub named_no_system : is_system number ≡ false → named_refusal number line ≡ record { number = no_system; place = 0 }
  unfolding named_refusal or_else
  named_no_system a = simp a

  pub named_no_line : is_system number ≡ true → is_line number line ≡ false → named_refusal number line ≡ record { number = no_line; place = 0 }
  unfolding named_refusal or_else
  named_no_line a b = simp (a, b)

  pub named_accepted : is_system number ≡ true → is_line number line ≡ true → named_refusal number line ≡ none
  unfolding named_refusal or_else
  named_accepted a b = simp (a, b)

  -- by what taking the system from its number tells
  pub named_none : NoSystem number → named_refusal number line ≡ record { number = no_system; place = 0 }
  unfolding is_system
  named_none (a, b) = named_no_system (simp (ne_eqb number _ a, ne_eqb number _ b))

  named_of : (s : System) → named_refusal (system_number s) line ≡ refuse (not (between 1 (line_count s) line)) no_line 0
  unfolding named_refusal is_line is_system system_of or_else
  named_of Lines525 = by_test (between 1 525 line) (λ t. simp t) (λ f. simp f)
  named_of Lines625 = by_test (between 1 625 line) (λ t. simp t) (λ f. simp f)

  module _ (s : System) (is : system_number s ≡ number) where
    named_line : named_refusal number line ≡ refuse (not (between 1 (line_count s) line)) no_line 0
    named_line = subst (λ (n : ℕ). named_refusal n line ≡ refuse (not (between 1 (line_count s) line)) no_line 0) is (named_of s)

    pub named_outside : between 1 (line_count s) line ≡ false → named_refusal number line ≡ record { number = no_line; place = 0 }
    named_outside f = named_line ∙ simp f

    pub named_inside : between 1 (line_count s) line ≡ true → named_refusal number line ≡ none
    named_inside t = named_line ∙ simp t

  -- and the other way round
  pub record Named : Type 0 where
    pub a_system : is_system number ≡ true
    pub a_line : is_line number line ≡ true

  pub accepted_named : (named_refusal number line).number ≡ 0 → Named
  accepted_named e =
      by_test (is_system number)
      (λ a. by_test (is_line number line) (λ b. record { a_system = a; a_line = b })
      (λ b. absurd (let z = sym (same_number (named_no_line a b)) ∙ e in omega (arith, z))))
      (λ a. absurd (let z = sym (same_number (named_no_system a)) ∙ e in omega (arith, z)))

  pub fresh_named : (named_refusal number line).number ≡ 0 → fresh_of number line ≡ record { number = 0; place = 0; walk = fresh_walk number line }
  unfolding fresh_of
  fresh_named e = simp (eq-eqb _ _ e)

  named_place : (named_refusal number line).place ≡ 0
  unfolding named_refusal or_else
  named_place = by_test (is_system number) (λ a. by_test (is_line number line) (λ b. simp (a, b)) (λ b. simp (a, b))) (λ a. simp a)

  pub fresh_refused : (r : Refused) → numbered r ≡ named_refusal number line
      → fresh_of number line ≡ record { number = number_of r.reason; place = r.place; walk = fresh_walk 0 0 }
  unfolding fresh_of
  fresh_refused r e =
      simp (ne_eqb _ _ (λ z. reason_counts r.reason (same_number e ∙ z)))
      (ap (λ (n : ℕ). zero_walk n 0) (sym (same_number e)) ∙ ap (zero_walk (number_of r.reason)) (sym (ap (λ (a : Refusal). a.place) e ∙ named_place)))
    where
      zero_walk : ℕ → ℕ → Fresh
      zero_walk n p = record { number = n; place = p; walk = fresh_walk 0 0 }

  pub fresh_accepted : is_system number ≡ true → is_line number line ≡ true
      → fresh_of number line ≡ record { number = 0; place = 0; walk = fresh_walk number line }
  fresh_accepted a b = fresh_named (same_number (named_accepted a b))

-- ---- the numbers of a line that is to be written
module _ (number line fall : ℕ) where
  pub record WrittenNamed : Type 0 where
    pub a_system : is_system number ≡ true
    pub a_line : is_line number line ≡ true
    pub a_fall : is_fall (system_of number) fall ≡ true

  pub written_named : WrittenNamed → written_refusal number line fall ≡ none
  unfolding written_refusal
  written_named w = or_else_accepted (named_refusal number line) _ (same_number (named_accepted number line w.a_system w.a_line)) ∙ simp w.a_fall

  -- and the other way round
  pub accepted_written : (written_refusal number line fall).number ≡ 0 → WrittenNamed
  unfolding written_refusal
  accepted_written e =
      let both = or_else_none (named_refusal number line) _ e in
      let named = accepted_named number line both.0 in
      record { a_system = named.a_system; a_line = named.a_line; a_fall = not_false _ (not_made _ no_line 0 (λ z. omega arith) both.1) }

-- ---- a walk that refuses no line
pub record Good (w : Walk) : Type 0 where
  pub system : is_system w.system ≡ true
  pub line : is_line w.system w.line ≡ true
  pub lines : w.lines < most_lines
  pub repairs : w.repairs ≤ 2 * w.lines
  pub tally : w.tally ≤ w.repairs

module _ (w : Walk) where
  pub walk_many_lines : (named_refusal w.system w.line).number ≡ 0 → most_lines ≤ w.lines → walk_refusal w ≡ record { number = bad_counts; place = 0 }
  unfolding walk_refusal
  walk_many_lines named l = or_else_accepted _ _ named ∙ simp (le-leb _ _ l)

  pub good_accepted : Good w → walk_refusal w ≡ none
  unfolding walk_refusal
  good_accepted g =
      or_else_accepted _ _ (same_number (named_accepted w.system w.line g.system g.line))
      ∙ simp (lt-leb _ _ g.lines, le-ltb _ _ g.repairs, le-ltb _ _ g.tally)

  -- and the other way round
  pub accepted_good : (walk_refusal w).number ≡ 0 → Good w
  unfolding walk_refusal
  accepted_good e =
      let both = or_else_none (named_refusal w.system w.line) _ e in
      let named = accepted_named w.system w.line both.0 in
      let few = or_neither (leb most_lines w.lines) _ (not_made _ bad_counts 0 (λ z. omega arith) both.1) in
      let low = or_neither (ltb (2 * w.lines) w.repairs) (ltb w.repairs w.tally) few.1 in
      record { system = named.a_system; line = named.a_line; lines = leb-false _ _ few.0; repairs = ltb-false _ _ low.0; tally = ltb-false _ _ low.1 }

  -- what is due at it is of its system
  pub due_system : (fourth : ℕ) → (due_by w fourth).system ≡ system_of w.system
  unfolding due_by due_with
  due_system fourth = refl

  -- with room for one more its counts do not wrap
  pub moved_advanced : (d : Due) (report : Report) → Good w → moved_of w d report ≡ advanced_of w d report
  unfolding moved_of advanced_of
  moved_advanced d report g =
      let two = at_most_two report in
      let lines : (w.lines + 1) % 2 ^ 32 ≡ w.lines + 1 = omega (arith, g.lines) in
      let repairs : (w.repairs + repairs_of report) % 2 ^ 32 ≡ w.repairs + repairs_of report = omega (arith, g.lines, g.repairs, two) in
      let next = tally_with d.system w.line w.tally (repairs_of report) in
      let few = tally_with_few d.system w.line w.tally (repairs_of report) in
      let tally : next % 2 ^ 32 ≡ next = omega (arith, g.lines, g.repairs, g.tally, two, few) in
      rw (lines, repairs, tally)

  -- ---- before the words are looked at
  module _ (given due : ℕ) where
    pub standing_walk : ((walk_refusal w).number ≡ 0 → ⊥) → standing_refusal w given due ≡ walk_refusal w
    standing_walk n = or_else_refused (walk_refusal w) _ n

    module _ (stands : (walk_refusal w).number ≡ 0) where
      pub standing_length : (given ≡ due → ⊥) → standing_refusal w given due ≡ record { number = wrong_length; place = 0 }
      standing_length n = or_else_accepted (walk_refusal w) _ stands ∙ simp (ne_eqb _ _ n)

      pub standing_accepted : given ≡ due → standing_refusal w given due ≡ none
      standing_accepted e = or_else_accepted (walk_refusal w) _ stands ∙ simp (eq-eqb _ _ e)

    -- what it lets by
    pub record Stood : Type 0 where
      pub walk : (walk_refusal w).number ≡ 0
      pub size : given ≡ due

    pub accepted_stood : (standing_refusal w given due).number ≡ 0 → Stood
    accepted_stood e =
        let both = or_else_none (walk_refusal w) _ e in
        record { walk = both.0; size = length_due given due 0 both.1 }

-- the line after a line of the system is one of the system
pub next_line_in : (number line : ℕ) → is_line number line ≡ true → is_line number (next_line (system_of number) line) ≡ true
unfolding is_line next_line
next_line_in number line h =
    let s = system_of number in
    by_cond (λ n. between 1 (line_count s) n ≡ true) (ltb line (line_count s)) (line + 1) 1
    (λ e. let below = ltb-true line (line_count s) e in between_both 1 (line_count s) (line + 1) (omega arith) (omega arith))
    (λ e. between_both 1 (line_count s) 1 (omega arith) (line_count_low s))

-- ---- F, V, H are a number below 8
flag_low : (t : Bool) → flag t ≤ 1
flag_low true = omega arith
flag_low false = omega arith

pub flags_low : (d : Due) (h : Bool) → flags_of d h < 8
unfolding flags_of
flags_low d h = omega (arith, flag_low d.f, flag_low d.v, flag_low h)

-- ---- a judgement by its refusal: it has the refusal's number, and where that is 0 it is that of an accepted line
module _ (r : Refusal) (w : Walk) (d : Due) (report : Report) (packets : PacketWords) where
  pub judgement_accepted : r.number ≡ 0 → judgement_of r w d report packets ≡ accepted_at w d report packets
  unfolding judgement_of
  judgement_accepted z = simp (eq-eqb _ _ z)

  pub judgement_refused : (r.number ≡ 0 → ⊥) → judgement_of r w d report packets ≡ refused_at w r
  unfolding judgement_of
  judgement_refused n = simp (ne_eqb _ _ n)

  pub judgement_number : (judgement_of r w d report packets).number ≡ r.number
  judgement_number =
      by_test (eqb r.number 0)
      (λ t. let z = eqb-true _ _ t in ap (λ (j : Judgement). j.number) (judgement_accepted z) ∙ sym z)
      (λ f. ap (λ (j : Judgement). j.number) (judgement_refused (eqb-false _ _ f)))

  pub judgement_well : (judgement_of r w d report packets).number ≡ 0 → judgement_of r w d report packets ≡ accepted_at w d report packets
  judgement_well z = judgement_accepted (sym judgement_number ∙ z)
