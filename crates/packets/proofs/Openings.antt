-- Where a packet starts. Assumes nothing.
use Prim.Native.Nat.{ℕ, ◌+◌, ◌<◌, ◌≤◌}
use mathlib.Core.Path.{◌≡◌, refl}
use mathlib.Core.Bool.{Bool, true, false, ◌&&◌}
use lib.Dec.{ltb, eqb}
use borrow.Author.Tests.{lt-ltb, le-ltb, ltb-true, eq-eqb, eqb-true}
use Rattle.refusal.proofs.Cases.{and_true}
use Rattle.words.specs.Words.{most_word}
use Rattle.packets.specs.Due.{starts_at}

pub record Started (word : ℕ → ℕ) (stop p : ℕ) : Type 0 where
  pub room : p + 6 < stop
  pub first : word p ≡ 0
  pub second : word (p + 1) ≡ most_word
  pub third : word (p + 2) ≡ most_word

module _ (word : ℕ → ℕ) (stop p : ℕ) where
  pub started : starts_at word stop p ≡ true → Started word stop p
  unfolding starts_at
  started e =
      let a = and_true (ltb (p + 6) stop) _ e in
      let b = and_true (eqb (word p) 0) _ a.1 in
      let c = and_true (eqb (word (p + 1)) most_word) _ b.1 in
      record { room = ltb-true _ _ a.0; first = eqb-true _ _ b.0; second = eqb-true _ _ c.0; third = eqb-true _ _ c.1 }

  pub starts : Started word stop p → starts_at word stop p ≡ true
  unfolding starts_at
  starts s = simp (lt-ltb _ _ s.room, eq-eqb _ _ s.first, eq-eqb _ _ s.second, eq-eqb _ _ s.third)

  -- too few words are left
  pub no_room : stop ≤ p + 6 → starts_at word stop p ≡ false
  unfolding starts_at
  no_room l = simp (le-ltb _ _ l)

  pub by_three : p + 6 < stop → starts_at word stop p ≡ ((eqb (word p) 0 && eqb (word (p + 1)) most_word) && eqb (word (p + 2)) most_word)
  unfolding starts_at
  by_three l = simp (lt-ltb _ _ l) (regroup (eqb (word p) 0) _ _)
    where
      regroup : (a b c : Bool) → (a && (b && c)) ≡ ((a && b) && c)
      regroup true b c = refl
      regroup false b c = refl
