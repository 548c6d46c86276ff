-- Equality of corrections as a test that computes. Assumes nothing.
use mathlib.Core.Path.{◌≡◌, ap}
use mathlib.Core.Bool.{Bool, false}
use lib.Dec.{T, eqb, eqb→eq}
use Rattle.timing.specs.declared.Correction.{Correction}
use Rattle.timing.specs.declared.Correction.TheVariants.{Clean, Repaired, Refused}
use Rattle.timing.proofs.Every.{both, both_left, both_right}

abbrev pub same : Correction → Correction → Bool
same (Clean k) (Clean l) = eqb k l
same (Clean k) (Repaired l b) = false
same (Clean k) (Refused n) = false
same (Repaired k a) (Clean l) = false
same (Repaired k a) (Repaired l b) = both (eqb k l) (eqb a b)
same (Repaired k a) (Refused n) = false
same (Refused m) (Clean l) = false
same (Refused m) (Repaired l b) = false
same (Refused m) (Refused n) = eqb m n

pub same_to_eq : (x y : Correction) → T (same x y) → x ≡ y
same_to_eq (Clean k) (Clean l) t = ap Clean (eqb→eq k l t)
same_to_eq (Clean k) (Repaired l b) t = absurd t
same_to_eq (Clean k) (Refused n) t = absurd t
same_to_eq (Repaired k a) (Clean l) t = absurd t
same_to_eq (Repaired k a) (Repaired l b) t =
    let e = eqb→eq k l (both_left (eqb k l) (eqb a b) t) in
    let f = eqb→eq a b (both_right (eqb k l) (eqb a b) t) in
    cc
same_to_eq (Repaired k a) (Refused n) t = absurd t
same_to_eq (Refused m) (Clean l) t = absurd t
same_to_eq (Refused m) (Repaired l b) t = absurd t
same_to_eq (Refused m) (Refused n) t = ap Refused (eqb→eq m n t)
