-- What the last arm of a `match` on a number knows: it is none of the n numbers below n, so where it is at most n it is n. No proof needs it while
-- correction does not ask its table. Assumes nothing.
use mathlib.Core.Path.{◌≡◌}
use Prim.Native.Nat.{ℕ, zero, suc, ◌≤◌}
use native.Mathlib.Omega.{arith}

-- none of the n numbers below n
abbrev pub NoneBelow : ℕ → ℕ → Type 0
NoneBelow zero k = Unit {0}
NoneBelow (suc n) k = NoneBelow n k × (k ≡ n → ⊥)

none_below : (n k : ℕ) → NoneBelow n k → n ≤ k
none_below zero k none = omega arith
none_below (suc n) k none = let least = none_below n k none.0 in omega (arith, none.1)

pub the_last : (n k : ℕ) → k ≤ n → NoneBelow n k → k ≡ n
the_last n k most none = let least = none_below n k none in omega arith
