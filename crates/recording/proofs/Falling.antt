-- Lines of an image in 525: V that is 0 stays 0 to the end of its field. Assumes nothing.
use Prim.Native.Nat.{ℕ, ◌+◌, ◌<◌, ◌≤◌}
use mathlib.Core.Path.{◌≡◌, sym, subst, ◌∙◌}
use mathlib.Core.Bool.{Bool, false, true≢false}
use native.Mathlib.Omega.{arith}
use lib.Dec.{ltb, leb}
use borrow.Author.Tests.{leb-true, leb-false, le-leb, lt-leb}
use Rattle.refusal.proofs.Cases.{by_test, or_neither}
use Rattle.system.specs.declared.System.TheVariants.{Lines525}
use Rattle.system.specs.Figures.{line_count, between, system_of, v_of, may_fall, looks_back, next_line}
use Rattle.system.specs.Walk.{has_fallen, MayHave, fallen_by}
use Rattle.system.proofs.Laws.{between_both}
use Rattle.recording.specs.Recording.{line_more}
use Rattle.recording.specs.Promise.{StaysDown}

module _ (line : ℕ) where
  -- on the first nine lines of a field V is 1
  first_nine : (fallen : ℕ) (v : Bool) → MayHave Lines525 line fallen v → (v ≡ false) → 1 ≤ line → 9 < line
  unfolding may_fall v_of
  first_nine fallen v may down low =
      by_test (leb line 9)
      (λ t.
      let near = leb-true line 9 t in
      let table = may.table (simp (lt-leb 10 line (omega arith), lt-leb 273 line (omega arith))) in
      absurd (true≢false (sym (table ∙ simp (le-leb 1 line low, le-leb line 19 (omega arith))) ∙ down)))
      (λ f. leb-false line 9 f)

  second_nine : (fallen : ℕ) (v : Bool) → MayHave Lines525 line fallen v → (v ≡ false) → 264 ≤ line → 272 < line
  unfolding may_fall v_of
  second_nine fallen v may down low =
      by_test (leb line 272)
      (λ t.
      let near = leb-true line 272 t in
      let table = may.table (simp (le-leb 10 line (omega arith), lt-leb line 19 (omega arith), lt-leb 273 line (omega arith))) in
      absurd (true≢false (sym (table ∙ simp (le-leb 1 line (omega arith), lt-leb line 19 (omega arith), le-leb 264 line low, le-leb line 282 (omega arith))) ∙ down)))
      (λ f. leb-false line 272 f)

  -- the record is not looked at on the next line: that is none of those on which V may have fallen, but for the first
  not_back : looks_back Lines525 (line + 1) ≡ false → (10 ≤ line → 19 < line + 1) × (273 ≤ line → 282 < line + 1)
  unfolding looks_back
  not_back f =
      let neither = or_neither (between 11 19 (line + 1)) (between 274 282 (line + 1)) f in
      (λ low. past 11 19 neither.0 (omega arith), λ low. past 274 282 neither.1 (omega arith))
    where
      past : (a b : ℕ) → between a b (line + 1) ≡ false → a ≤ line + 1 → b < line + 1
      past a b none low =
          by_test (leb (line + 1) b)
          (λ t. absurd (true≢false (sym (between_both a b (line + 1) low (leb-true (line + 1) b t)) ∙ none))) (λ g. leb-false (line + 1) b g)

  -- so the table has V = 0 there
  in_picture : 19 < line + 1 → (264 ≤ line + 1 → 282 < line + 1) → (may_fall Lines525 (line + 1) ≡ false) × (v_of Lines525 (line + 1) ≡ false)
  unfolding may_fall v_of
  in_picture low far =
      by_test (leb 264 (line + 1))
      (λ t. let past = far (leb-true 264 (line + 1) t) in (
        simp (le-leb 10 (line + 1) (omega arith), lt-leb (line + 1) 19 low, le-leb 273 (line + 1) (omega arith), lt-leb (line + 1) 282 past),
        simp (le-leb 1 (line + 1) (omega arith), lt-leb (line + 1) 19 low, le-leb 264 (line + 1) (omega arith), lt-leb (line + 1) 282 past),
      ))
      (λ f. let near = leb-false 264 (line + 1) f in (
        simp (le-leb 10 (line + 1) (omega arith), lt-leb (line + 1) 19 low, lt-leb 273 (line + 1) (omega arith)),
        simp (le-leb 1 (line + 1) (omega arith), lt-leb (line + 1) 19 low, lt-leb 264 (line + 1) near),
      ))

  next_down : (fallen : ℕ) (v u : Bool) → MayHave Lines525 line fallen v → MayHave Lines525 (line + 1) (fallen_by v) u → 1 ≤ line → (line ≡ 263 → ⊥)
      → v ≡ false → u ≡ false
  unfolding has_fallen
  next_down fallen v u here there low not-263 down =
      let ten = first_nine fallen v here down low in
      by_test (looks_back Lines525 (line + 1))
      (λ looks. there.stays (simp (looks, down)))
      (λ f.
      let behind = not_back f in
      let both = in_picture (behind.0 (omega arith)) (λ l. by_test (leb 264 line)
      (λ t. let far = second_nine fallen v here down (leb-true 264 line t) in behind.1 (omega arith))
      (λ g. let near = leb-false 264 line g in absurd (not-263 (omega arith)))) in
      there.table both.0 ∙ both.1)

  -- after the last line comes line 1, and else the next
  next_is : (next_line Lines525 line ≡ 1 → ⊥) → next_line Lines525 line ≡ line + 1
  unfolding next_line
  next_is not_first = by_test (ltb line (line_count Lines525)) (λ t. simp t) (λ f. absurd (not_first (simp f)))

pub stays_down : StaysDown
unfolding system_of
stays_down line fallen altered l m ls reads (line_more room here written dam he hs (line_more room' there written' dam' he' hs' more)) not-264 not_first down =
    let is = next_is line not_first in
    let low : 1 ≤ line = by_test (leb 1 line) (λ t. leb-true 1 line t) (λ f. let none = leb-false 1 line f in absurd (not_first (is ∙ omega arith))) in
    next_down line fallen l.v m.v here (subst (λ (n : ℕ). MayHave Lines525 n (fallen_by l.v) m.v) is there) low
    (λ e. not-264 (is ∙ omega arith)) down
