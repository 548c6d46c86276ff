-- `Held::of` meets its contract: bits turned round twice are the bits. Assumes nothing.
use mathlib.Core.Path.{ap, ◌∙◌}
use mathlib.Core.Bool.{Bool}
use mathlib.Core.List.{List, reverse}
use Prim.Native.Nat.{ℕ, ◌%◌}
use Rattle.serial.specs.Bits.{bits, one?}
use Rattle.serial.proofs.Bits.{bits_num}
use Rattle.serial.proofs.held.Held.of.Goals as goal

pub returns : goal.returns
returns c =
    let s = c.args.state in
    let last = one? (s.last % 2) in
    ap (λ (n : ℕ). record { scrambled = reverse (bits 9 n); last = last }) c.flip.ensures
    ∙ ap (λ (bs : List Bool). record { scrambled = reverse bs; last = last }) (bits_num (reverse (bits 9 s.scrambled)))
