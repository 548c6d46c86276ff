-- When an entry is none: what its test says both ways, test by test. Assumes nothing.
use Prim.Native.Nat.{ℕ, ◌<◌, ◌≤◌}
use mathlib.Core.Path.{◌≡◌}
use mathlib.Core.Bool.{true, false}
use mathlib.Core.Logic.{◌⊎◌, inl, inr, ⊎_elim}
use native.Mathlib.Omega.{arith}
use lib.Dec.{ltb, leb, eqb}
use borrow.Author.Tests.{ltb-true, ltb-false, leb-true, leb-false, eqb-true, eqb-false, lt-ltb, le-leb, lt-leb, le-ltb, eq-eqb, ne_eqb}
use Rattle.refusal.proofs.Cases.{or_either, or_neither, or_left, or_right}
use Rattle.captions.specs.declared.Entry.{Entry}
use Rattle.captions.specs.Entry.{ordinal_bound, most_space, most_words, Within, key_of, is_bad}

-- an entry that may come
pub record Comes (least : ℕ) (e : Entry) : Type 0 where
  pub within : Within e
  pub rises : least ≤ key_of e

module _ (least : ℕ) (e : Entry) where
  -- why an entry is none
  abbrev pub Bad : Type 0
  Bad =
      (ordinal_bound ≤ e.ordinal)
      ⊎ (most_space < e.space)
      ⊎ (e.words ≡ 0)
      ⊎ (most_words < e.words)
      ⊎ (key_of e < least)

  pub bad : is_bad least e ≡ true → Bad
  unfolding is_bad
  bad t =
      ⊎_elim (λ a. inl (leb-true _ _ a)) (λ t₁.
      inr (⊎_elim (λ a. inl (ltb-true _ _ a)) (λ t₂.
      inr (⊎_elim (λ a. inl (eqb-true _ _ a)) (λ t₃.
      inr (⊎_elim (λ a. inl (ltb-true _ _ a)) (λ t₄. inr (ltb-true _ _ t₄))
      (or_either (ltb most_words e.words) _ t₃)))
      (or_either (eqb e.words 0) _ t₂)))
      (or_either (ltb most_space e.space) _ t₁)))
      (or_either (leb ordinal_bound e.ordinal) _ t)

  pub bad_back : Bad → is_bad least e ≡ true
  unfolding is_bad
  bad_back (inl a) = or_left _ _ (le-leb _ _ a)
  bad_back (inr (inl a)) = or_right (leb ordinal_bound e.ordinal) _ (or_left _ _ (lt-ltb _ _ a))
  bad_back (inr (inr (inl a))) =
      or_right (leb ordinal_bound e.ordinal) _ (or_right (ltb most_space e.space) _ (or_left _ _ (eq-eqb _ _ a)))
  bad_back (inr (inr (inr (inl a)))) =
      or_right (leb ordinal_bound e.ordinal) _
      (or_right (ltb most_space e.space) _ (or_right (eqb e.words 0) _ (or_left _ _ (lt-ltb _ _ a))))
  bad_back (inr (inr (inr (inr a)))) =
      or_right (leb ordinal_bound e.ordinal) _
      (or_right (ltb most_space e.space) _ (or_right (eqb e.words 0) _ (or_right (ltb most_words e.words) _ (lt-ltb _ _ a))))

  pub comes : is_bad least e ≡ false → Comes least e
  unfolding is_bad
  comes f =
      let a = or_neither (leb ordinal_bound e.ordinal) _ f in
      let b = or_neither (ltb most_space e.space) _ a.1 in
      let c = or_neither (eqb e.words 0) _ b.1 in
      let d = or_neither (ltb most_words e.words) _ c.1 in
      record {
        within =
            record {
              ordinal = leb-false _ _ a.0;
              space = ltb-false _ _ b.0;
              some = not_zero (eqb-false _ _ c.0);
              words = ltb-false _ _ d.0;
            };
        rises = ltb-false _ _ d.1;
      }
    where
      not_zero : (e.words ≡ 0 → ⊥) → 0 < e.words
      not_zero n = omega arith

  pub comes_back : Comes least e → is_bad least e ≡ false
  unfolding is_bad
  comes_back c =
      let w = c.within in
      let some : e.words ≡ 0 → ⊥ = λ z. omega arith in
      simp (lt-leb _ _ w.ordinal, le-ltb _ _ w.space, ne_eqb _ _ some, le-ltb _ _ w.words, le-ltb _ _ c.rises)
