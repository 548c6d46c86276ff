-- Sample buffers are refused by nothing exactly where each has its length. Assumes nothing.
use Prim.Native.Nat.{ℕ}
use mathlib.Core.Path.{◌≡◌}
use mathlib.Core.Bool.{not}
use lib.Dec.{eqb}
use lib.ListN.{length}
use borrow.Author.Tests.{eq-eqb}
use Rattle.refusal.specs.Numbers.{wrong_length}
use Rattle.refusal.specs.Answer.{none, refuse, or_else}
use Rattle.refusal.proofs.Firsts.{or_else_none, length_due}
use Rattle.line.specs.Lengths.{buffer_refusal}
use Rattle.line.specs.Samples.{Samples, y_length, c_length}
use Rattle.line.specs.Fit.{Measured}

pub lengths_accepted : (y cb cr : ℕ) → y ≡ y_length → cb ≡ c_length → cr ≡ c_length → buffer_refusal y cb cr ≡ none
unfolding buffer_refusal or_else
lengths_accepted y cb cr a b c = simp (eq-eqb y y_length a, eq-eqb cb c_length b, eq-eqb cr c_length c)

module _ (p : Samples) where
  pub measured_accepted : Measured p → buffer_refusal (length p.y) (length p.cb) (length p.cr) ≡ none
  measured_accepted m = lengths_accepted _ _ _ m.y m.cb m.cr

  pub accepted_measured : (buffer_refusal (length p.y) (length p.cb) (length p.cr)).number ≡ 0 → Measured p
  unfolding buffer_refusal
  accepted_measured e =
      let first = or_else_none (refuse (not (eqb (length p.y) y_length)) wrong_length 1) _ e in
      let second = or_else_none (refuse (not (eqb (length p.cb) c_length)) wrong_length 2) _ first.1 in
      let third = or_else_none (refuse (not (eqb (length p.cr) c_length)) wrong_length 3) none second.1 in
      record { y = length_due _ _ 1 first.0; cb = length_due _ _ 2 second.0; cr = length_due _ _ 3 third.0 }
