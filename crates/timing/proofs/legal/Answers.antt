-- `timing::legal` meets its contract: the code's bits are the document's for each F, V and H, which is computed. Assumes nothing.
use Prim.Native.Nat.{ℕ, ◌*◌, ◌/◌, ◌%◌}
use native.Mathlib.Omega.{arith}
use lib.Bits.{bit_xor}
use lib.Dec.{eqb, eqb→eq}
use Rattle.timing.specs.Code.{seven_bits, legal_of}
use Rattle.timing.proofs.Every.{lift3}
use Rattle.timing.proofs.legal.Goals as goal

-- what the code computes
abbrev computed : ℕ → ℕ → ℕ → ℕ
computed f v h = bit_xor (bit_xor (f * 71) (v * 43)) (h * 29)

pub returns : goal.returns
unfolding legal_of
returns c =
    let fvh : ℕ = c.args.fvh in
    eqb→eq _ _
    (lift3 2 2 2 (λ f v h. eqb (computed f v h) (seven_bits f v h)) tt (fvh / 4 % 2) (fvh / 2 % 2) (fvh % 2)
    (omega arith) (omega arith) (omega arith))
