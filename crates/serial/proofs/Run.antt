-- A loop over words that stores what comes out of them, for any step of a word: one turn, and the end. Assumes nothing.
use mathlib.Core.Path.{◌≡◌, refl, sym, ap, ap₂, ◌∙◌}
use mathlib.Core.List.{List, [], ◌∷◌, ◌++◌}
use Prim.Native.Nat.{ℕ, zero, suc, ◌+◌, ◌-◌, ◌≤◌, ◌<◌}
use native.Mathlib.Nat.{le_of_suc-le-suc, not-suc-le-zero}
use native.Mathlib.Numerals.{add-one}
use native.Mathlib.Omega.{arith}
use lib.ListN.{length, get_or, take, set}
use lib.Seq.{take_all, take-suc, take-suc-set}
use Rattle.serial.specs.Serial.{Past, outs, ends}

module _ (f : Past → ℕ → ℕ) (g : Past → ℕ → Past) where
  pub outs_length : (s : Past) (ws : List ℕ) → length (outs f g s ws) ≡ length ws
  outs_length s [] = refl
  outs_length s (w ∷ ws) = ap suc (outs_length (g s w) ws)

  -- the i-th word that comes out
  pub outs_at : (s : Past) (ws : List ℕ) (i : ℕ) → i < length ws
      → get_or (outs f g s ws) i 0 ≡ f (ends f g s (take i ws)) (get_or ws i 0)
  outs_at s [] i h = absurd (not-suc-le-zero h)
  outs_at s (w ∷ ws) zero h = refl
  outs_at s (w ∷ ws) (suc i) h = outs_at (g s w) ws i (le_of_suc-le-suc h)

  ends_suc : (s : Past) (ws : List ℕ) (i : ℕ) → i < length ws
      → ends f g s (take (suc i) ws) ≡ g (ends f g s (take i ws)) (get_or ws i 0)
  ends_suc s [] i h = absurd (not-suc-le-zero h)
  ends_suc s (w ∷ ws) zero h = refl
  ends_suc s (w ∷ ws) (suc i) h = ends_suc (g s w) ws i (le_of_suc-le-suc h)

  -- the past after one word more, after the last of some words, and after all
  pub ends_next : (s : Past) (ws : List ℕ) (i : ℕ) → i < length ws
      → ends f g s (take (i + 1) ws) ≡ g (ends f g s (take i ws)) (get_or ws i 0)
  ends_next s ws i h = rw add-one (ends_suc s ws i h)

  pub ends_last : (s : Past) (ws : List ℕ) (i : ℕ) → 1 ≤ i → i ≤ length ws
      → ends f g s (take i ws) ≡ g (ends f g s (take (i - 1) ws)) (get_or ws (i - 1) 0)
  ends_last s ws i p h =
      let e : i ≡ i - 1 + 1 = omega arith in
      ap (λ (k : ℕ). ends f g s (take k ws)) e ∙ ends_next s ws (i - 1) (omega arith)

  pub ends_all : (s : Past) (ws : List ℕ) (i : ℕ) → length ws ≤ i → ends f g s (take i ws) ≡ ends f g s ws
  ends_all s ws i h = ap (ends f g s) (take_all i ws h)

-- The first i words of the output o are those of the run.
pub record Stored (f : Past → ℕ → ℕ) (g : Past → ℕ → Past) (s : Past) (ws : List ℕ) (i : ℕ) (o : List ℕ) : Type 0 where
  pub same : take i o ≡ take i (outs f g s ws)

pub stored_none : (f : Past → ℕ → ℕ) (g : Past → ℕ → Past) (s : Past) (ws o : List ℕ) → Stored f g s ws 0 o
stored_none f g s ws o = record { same = refl }

module _ {f : Past → ℕ → ℕ} {g : Past → ℕ → Past} {s : Past} {ws o : List ℕ} {i : ℕ} (room : length o ≡ length ws) where
  pub stored_next : {y : ℕ} → Stored f g s ws i o → i < length ws → y ≡ f (ends f g s (take i ws)) (get_or ws i 0)
      → Stored f g s ws (i + 1) (set o i y)
  stored_next {y} a h e =
      let put = take-suc-set o i y (omega arith) in
      let due = take-suc (outs f g s ws) i 0 (rw (outs_length f g s ws) h) in
      record { same = rw add-one (put ∙ ap₂ (λ (l : List ℕ) (x : ℕ). l ++ (x ∷ [])) a.same (e ∙ sym (outs_at f g s ws i h)) ∙ sym due) }

  pub stored_all : Stored f g s ws i o → length ws ≤ i → o ≡ outs f g s ws
  stored_all a h = sym (take_all i o (omega arith)) ∙ a.same ∙ take_all i (outs f g s ws) (rw (outs_length f g s ws) h)
