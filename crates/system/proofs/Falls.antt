-- Where V falls: what is written by a fall line may stand at the walk that reads it, and what is due is what may stand. Assumes nothing.
use Rattle.std.proofs.Common.{◌≡◌, ℕ, ◌+◌, ◌<◌, ◌≤◌, Bool, true, false, ltb, leb, sym, refl, ap, ◌∙◌, ⊎_elim, true≢false, arith, ltb-false, ltb-true, le-ltb, lt-ltb, le-leb, leb-false, leb-true}
use borrow.Author.Tests.{lt-leb}
use Rattle.refusal.proofs.Cases.{by_test, by_cond, and_true, or_either, or_neither, or_left, or_right}
use Rattle.refusal.proofs.Tables.{alone}
use Rattle.timing.specs.declared.Correction.{Correction}
use Rattle.timing.specs.declared.Correction.TheVariants.{Clean, Repaired, Refused}
use Rattle.timing.specs.Code.{correction_of}
use Rattle.system.specs.declared.System.{System}
use Rattle.system.specs.declared.System.TheVariants.{Lines525, Lines625}
use Rattle.system.specs.declared.walk.Walk.{Walk}
use Rattle.system.specs.Figures.{between, system_of, next_line, v_of, may_fall, looks_back, is_fall, v_written}
use Rattle.system.specs.Due.{due_with, due_of}
use Rattle.system.specs.Walk.{named_refusal, written_refusal, v_seen, has_fallen, v_due, MayHave, due_by, fallen_by}
use Rattle.system.specs.Before.{table_due, SaysTable, Untouched}
use Rattle.system.specs.Refusals.{named_refusals}
use Rattle.system.proofs.Laws.{between_both, between_first, between_last}
use Rattle.system.proofs.Theorems.{named_exact}

-- ---- V that is written in 525, by numbers
module _ (line fall : ℕ) where
  before_first : line < 1 → v_written Lines525 line fall ≡ false
  unfolding v_written
  before_first low = simp (lt-leb _ _ low, lt-leb 264 line (omega arith))

  in_first : 1 ≤ line → line < fall → v_written Lines525 line fall ≡ true
  unfolding v_written
  in_first low high = simp (le-leb _ _ low, lt-ltb _ _ high)

  behind_first : fall ≤ line → line < 264 → v_written Lines525 line fall ≡ false
  unfolding v_written
  behind_first past low = by_test (leb 1 line) (λ t. simp (t, le-ltb _ _ past, lt-leb _ _ low)) (λ f. simp (f, lt-leb _ _ low))

  in_second : 264 ≤ line → line < fall + 263 → v_written Lines525 line fall ≡ true
  unfolding v_written
  in_second low high =
      by_test (ltb line fall) (λ t. simp (le-leb 1 line (omega arith), t)) (λ f. simp (le-leb 1 line (omega arith), f, le-leb _ _ low, lt-ltb _ _ high))

  behind_second : 264 ≤ line → fall + 263 ≤ line → v_written Lines525 line fall ≡ false
  unfolding v_written
  behind_second low past = simp (le-leb 1 line (omega arith), le-ltb line fall (omega arith), le-leb _ _ low, le-ltb _ _ past)

-- ---- the table's V, and what is written where V falls as late as it may
below : (n m : ℕ) → ltb n (m + 1) ≡ leb n m
below n m =
    by_test (leb n m) (λ t. lt-ltb n (m + 1) (omega (arith, leb-true n m t)) ∙ sym t) (λ f. le-ltb n (m + 1) (omega (arith, leb-false n m f)) ∙ sym f)

pub falls_late : (s : System) (line : ℕ) → v_written s line 20 ≡ v_of s line
unfolding v_written v_of
falls_late Lines525 line = rw (below line 19, below line 282)
falls_late Lines625 line = refl

-- a line on which V may not have fallen: before the first that may, or behind the last, of each field
not_between : (a b n : ℕ) → between a b n ≡ false → a ≤ n → b < n
not_between a b n f low = by_test (leb n b) (λ t. absurd (true≢false (sym (between_both a b n low (leb-true _ _ t)) ∙ f))) (λ g. leb-false _ _ g)

-- 625 has no choice
no_choice : (line fall : ℕ) → v_written Lines625 line fall ≡ v_of Lines625 line
unfolding v_written
no_choice line fall = refl

-- there the table decides, wherever it falls
outside : (s : System) (line fall : ℕ) → is_fall s fall ≡ true → may_fall s line ≡ false → v_written s line fall ≡ v_of s line
unfolding is_fall may_fall
outside Lines525 line fall is none =
    let low = between_first 10 20 fall is in
    let high = between_last 10 20 fall is in
    let neither = or_neither (between 10 19 line) (between 273 282 line) none in
    same (λ t. not_between 10 19 line neither.0 t) (λ t. not_between 273 282 line neither.1 t) low high ∙ falls_late Lines525 line
  where
    same : (10 ≤ line → 19 < line) → (273 ≤ line → 282 < line) → 10 ≤ fall → fall ≤ 20 → v_written Lines525 line fall ≡ v_written Lines525 line 20
    same first second low high =
        by_test (leb 10 line)
        (λ t. let past = first (leb-true 10 line t) in
        by_test (leb 273 line)
        (λ u. let far = second (leb-true 273 line u) in behind_second line fall (omega arith) (omega arith) ∙ sym (behind_second line 20 (omega arith) (omega arith)))
        (λ u. let near = leb-false 273 line u in
        by_test (leb 264 line)
        (λ v. let there = leb-true 264 line v in in_second line fall there (omega arith) ∙ sym (in_second line 20 there (omega arith)))
        (λ v. let there = leb-false 264 line v in behind_first line fall (omega arith) there ∙ sym (behind_first line 20 (omega arith) there))))
        (λ t. let near = leb-false 10 line t in
        by_test (leb 1 line)
        (λ u. let there = leb-true 1 line u in in_first line fall there (omega arith) ∙ sym (in_first line 20 there (omega arith)))
        (λ u. let there = leb-false 1 line u in before_first line fall there ∙ sym (before_first line 20 there)))
outside Lines625 line fall is none = no_choice line fall

-- ---- what is written may stand
-- at a walk whose record says no
pub fresh_may : (s : System) (line fall : ℕ) → is_fall s fall ≡ true → MayHave s line 0 (v_written s line fall)
unfolding has_fallen
fresh_may s line fall is =
    record { table = outside s line fall is; stays = λ e. absurd (true≢false (sym (and_true (looks_back s line) false e).1)) }

-- and in the line behind one that was written with the same fall line
stays_fallen : (s : System) (line fall : ℕ) → is_fall s fall ≡ true → v_written s line fall ≡ false → looks_back s (next_line s line) ≡ true
    → v_written s (next_line s line) fall ≡ false
unfolding is_fall looks_back next_line
stays_fallen Lines525 line fall is fell looks =
    by_cond (λ n. looks_back Lines525 n ≡ true → v_written Lines525 n fall ≡ false) (ltb line 525) (line + 1) 1
    (λ e there. ⊎_elim (first (between_first 10 20 fall is) (between_last 10 20 fall is)) (second (between_first 10 20 fall is) (between_last 10 20 fall is)) (or_either (between 11 19 (line + 1)) _ there))
    (λ e there. absurd (true≢false (sym there))) looks
  where
    first : 10 ≤ fall → fall ≤ 20 → between 11 19 (line + 1) ≡ true → v_written Lines525 (line + 1) fall ≡ false
    first low high there =
        let from = between_first 11 19 (line + 1) there in
        let to = between_last 11 19 (line + 1) there in
        by_test (ltb line fall)
        (λ t. absurd (true≢false (sym (in_first line fall (omega arith) (ltb-true line fall t)) ∙ fell)))
        (λ f. let past = ltb-false line fall f in behind_first (line + 1) fall (omega arith) (omega arith))

    second : 10 ≤ fall → fall ≤ 20 → between 274 282 (line + 1) ≡ true → v_written Lines525 (line + 1) fall ≡ false
    second low high there =
        let from = between_first 274 282 (line + 1) there in
        by_test (ltb line (fall + 263))
        (λ t. absurd (true≢false (sym (in_second line fall (omega arith) (ltb-true line (fall + 263) t)) ∙ fell)))
        (λ f. let past = ltb-false line (fall + 263) f in behind_second (line + 1) fall (omega arith) (omega arith))
stays_fallen Lines625 line fall is fell looks = absurd (true≢false (sym looks))

pub next_may : (s : System) (line fall : ℕ) → is_fall s fall ≡ true
    → MayHave s (next_line s line) (fallen_by (v_written s line fall)) (v_written s (next_line s line) fall)
unfolding has_fallen
next_may s line fall is =
    record {
      table = outside s (next_line s line) fall is;
      stays = λ e. let both = and_true (looks_back s (next_line s line)) _ e in
          by_test (v_written s line fall)
          (λ t. absurd (true≢false (sym both.1 ∙ simp t)))
          (λ f. stays_fallen s line fall is f both.0);
    }

-- ---- a line on which the record is looked at is one on which V may have fallen
looks_falls : (s : System) (line : ℕ) → looks_back s line ≡ true → may_fall s line ≡ true
unfolding looks_back may_fall
looks_falls Lines525 line looks =
    ⊎_elim
    (λ e. or_left (between 10 19 line) _ (between_both 10 19 line (let from = between_first 11 19 line e in omega arith) (between_last 11 19 line e)))
    (λ e. or_right (between 10 19 line) _ (between_both 273 282 line (let from = between_first 274 282 line e in omega arith) (between_last 274 282 line e)))
    (or_either (between 11 19 line) _ looks)
looks_falls Lines625 line looks = looks

fallen_falls : (s : System) (line fallen : ℕ) → has_fallen s line fallen ≡ true → may_fall s line ≡ true
unfolding has_fallen
fallen_falls s line fallen e = looks_falls s line (and_true (looks_back s line) _ e).0

-- ---- what is due may stand, and is what the EAV says wherever that may stand
pub due_may : (s : System) (line fallen fourth : ℕ) → MayHave s line fallen (v_due s line fallen fourth)
unfolding v_due
due_may s line fallen fourth = record { table = λ f. simp f; stays = λ e. simp (fallen_falls s line fallen e, e) }

pub may_due : (s : System) (line fallen fourth : ℕ) (v : Bool) → MayHave s line fallen v → (may_fall s line ≡ true → v_seen (correction_of fourth) ≡ v)
    → v_due s line fallen fourth ≡ v
unfolding v_due
may_due s line fallen fourth v may seen =
    by_test (may_fall s line)
    (λ t. by_test (has_fallen s line fallen) (λ e. simp (t, e) (sym (may.stays e))) (λ e. simp (t, e) (seen t)))
    (λ f. simp f (sym (may.table f)))

-- ---- on lines on which V may have fallen the table's is 1
falls_table : (s : System) (line : ℕ) → may_fall s line ≡ true → v_of s line ≡ true
unfolding may_fall v_of
falls_table Lines525 line e =
    ⊎_elim
    (λ f. or_left (between 1 19 line) _ (between_both 1 19 line (let from = between_first 10 19 line f in omega arith) (between_last 10 19 line f)))
    (λ f. or_right (between 1 19 line) _ (between_both 264 282 line (let from = between_first 273 282 line f in omega arith) (between_last 273 282 line f)))
    (or_either (between 10 19 line) _ e)
falls_table Lines625 line e = absurd (true≢false (sym e))

-- a line with V = 0 by the table is written so, wherever V falls
pub picture_written : (s : System) (line fall : ℕ) → is_fall s fall ≡ true → v_of s line ≡ false → v_written s line fall ≡ false
picture_written s line fall is picture =
    by_test (may_fall s line)
    (λ t. absurd (true≢false (sym (falls_table s line t) ∙ picture))) (λ f. outside s line fall is f ∙ picture)

says_table : (s : System) (line : ℕ) (c : Correction) → may_fall s line ≡ true → SaysTable s line c → v_seen c ≡ v_of s line
says_table s line (Clean fvh) t says = says
says_table s line (Repaired fvh bit) t says = says
says_table s line (Refused number) t says = sym (falls_table s line t)

-- ---- what is due at a walk
module _ (w : Walk) (fourth : ℕ) where
  abbrev system : System
  system = system_of w.system

  -- is of a V that may stand there
  pub due_stands : (v : Bool) × MayHave system w.line w.fallen v × (due_by w fourth ≡ due_with system w.line v)
  unfolding due_by
  due_stands = (v_due system w.line w.fallen fourth, due_may system w.line w.fallen fourth, refl)

  -- and of the code's V, wherever that may stand
  pub due_seen : (v : Bool) → MayHave system w.line w.fallen v → (may_fall system w.line ≡ true → v_seen (correction_of fourth) ≡ v)
      → due_by w fourth ≡ due_with system w.line v
  unfolding due_by
  due_seen v may seen = ap (due_with system w.line) (may_due system w.line w.fallen fourth v may seen)

  -- Lines that L1 does not touch have the table's V due, as before.
  pub due_as_before : Untouched w fourth → due_by w fourth ≡ table_due w
  due_as_before u =
      due_seen (v_of system w.line)
      (record { table = λ f. refl; stays = λ e. absurd (true≢false (sym e ∙ u.record_silent)) })
      (λ t. says_table system w.line (correction_of fourth) t (u.code t))

-- among them is every line of 625
pub untouched_625 : (w : Walk) (fourth : ℕ) → system_of w.system ≡ Lines625 → Untouched w fourth
unfolding has_fallen may_fall looks_back
untouched_625 w fourth is =
    record {
      record_silent = ap (λ (s : System). has_fallen s w.line w.fallen) is;
      code = λ t. absurd (true≢false (sym t ∙ ap (λ (s : System). may_fall s w.line) is));
    }

-- V may fall as late in every system
late_fall : (s : System) → is_fall s 20 ≡ true
unfolding is_fall
late_fall Lines525 = refl
late_fall Lines625 = refl

-- With fall line 20 only the numbers of a line can refuse it,
pub named_as_before : (number line : ℕ) → written_refusal number line 20 ≡ named_refusal number line
unfolding written_refusal
named_as_before number line = rw (late_fall (system_of number)) (alone (named_refusals number line) (named_refusal number line) (named_exact number line))

-- and what is due in it is the table's, as before.
pub written_as_before : (s : System) (line : ℕ) → due_of s line 20 ≡ due_with s line (v_of s line)
unfolding due_of
written_as_before s line = ap (due_with s line) (falls_late s line)
