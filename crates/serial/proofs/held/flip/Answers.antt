-- `flip` meets its contract: of all 32 bits turned round the low nine come last, and the shift leaves them. Assumes nothing.
use mathlib.Core.Path.{◌≡◌, refl, sym, ap, ◌∙◌}
use mathlib.Core.Bool.{Bool}
use mathlib.Core.List.{List, [], ◌∷◌}
use Prim.Native.Nat.{ℕ, zero, suc, ◌+◌, ◌*◌, ◌/◌, ◌%◌, ◌^◌}
use native.Mathlib.Nat.{mod-lt}
use native.Mathlib.Omega.{arith}
use Rattle.std.specs.Int.{reverse_bits_onto}
use Rattle.serial.specs.Bits.{one?, num}
use Rattle.serial.proofs.Bits.{digit_one}
use Rattle.serial.proofs.Machine.{num_shr}
use Rattle.serial.proofs.held.flip.Goals as goal

-- k bits, lowest first, each put before those that came before it
flipped : ℕ → ℕ → List Bool → List Bool
flipped zero n bs = bs
flipped (suc k) n bs = flipped k (n / 2) (one? (n % 2) ∷ bs)

reversed : (k n : ℕ) (bs : List Bool) → reverse_bits_onto k n (num bs) ≡ num (flipped k n bs)
unfolding reverse_bits_onto flipped
reversed zero n bs = refl
reversed (suc k) n bs =
    ap (λ (d : ℕ). reverse_bits_onto k (n / 2) (num bs * 2 + d)) (sym (digit_one (n % 2) (mod-lt n (omega arith))))
    ∙ reversed k (n / 2) (one? (n % 2) ∷ bs)

pub returns : goal.returns
unfolding flipped
returns c =
    ap (λ (n : ℕ). n / 2 ^ 23) (c.reverse_bits.ensures ∙ reversed 32 c.args.nine []) ∙ num_shr 23 (flipped 32 c.args.nine [])
