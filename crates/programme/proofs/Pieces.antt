-- A programme in several recordings: where one of them ends, and that the frames which it takes have room. Assumes nothing.
use Prim.Native.Nat.{ℕ, ◌+◌, ◌<◌, ◌≤◌}
use mathlib.Core.Path.{◌≡◌, sym, ◌∙◌}
use mathlib.Core.Bool.{true, false, ◌&&◌}
use native.Mathlib.Omega.{arith}
use lib.Dec.{ltb, eqb}
use borrow.Author.Tests.{ltb-true, ltb-false, lt-ltb, eqb-true, eq-eqb}
use Rattle.refusal.proofs.Cases.{by_cond, and_true}
use Rattle.system.specs.declared.walk.Walk.{Walk}
use Rattle.system.specs.Figures.{line_count, system_of}
use Rattle.system.specs.Walk.{most_lines}
use Rattle.programme.specs.Record.{ends_piece, frames_lines, piece_lines}

-- the lines of a frame of the walk's system
abbrev frame : Walk → ℕ
frame w = line_count (system_of w.system)

module _ (w : Walk) (most : ℕ) where
  -- ---- The tests in turn.
  pub between_frames : w.line ≡ 1 → 0 < w.lines → ends_piece w most ≡ ltb most (w.lines + frame w)
  unfolding ends_piece
  between_frames a b = simp (eq-eqb _ _ a, lt-ltb 0 w.lines b)

  -- ---- The promises.
  -- A recording ends between frames, never empty, and only where one frame more would be over.
  pub piece_ends : ends_piece w most ≡ true → (w.line ≡ 1) × (0 < w.lines) × (most < w.lines + frame w)
  unfolding ends_piece
  piece_ends e =
      let t = and_true (eqb w.line 1) (ltb 0 w.lines && ltb most (w.lines + frame w)) e in
      let u = and_true (ltb 0 w.lines) (ltb most (w.lines + frame w)) t.1 in
      (eqb-true _ _ t.0, ltb-true _ _ u.0, ltb-true _ _ u.1)

  -- Where it goes on with a frame more, that frame has room: no line of it is over the most.
  pub piece_has_room : w.line ≡ 1 → 0 < w.lines → ends_piece w most ≡ false → w.lines + frame w ≤ most
  piece_has_room a b e = ltb-false _ _ (sym (between_frames a b) ∙ e)

-- A recording that is to have so many frames at most is never let over the limit.
pub piece_within_limit : (number frames : ℕ) → piece_lines number frames ≤ most_lines
unfolding piece_lines
piece_within_limit number frames =
    by_cond (λ (n : ℕ). n ≤ most_lines) (ltb (frames_lines (system_of number) frames) most_lines) _ _
    (λ t. omega (arith, ltb-true (frames_lines (system_of number) frames) most_lines t))
    (λ f. omega arith)
