-- `Held::state` meets its contract: the nine bits are turned round, and a bit held is its own digit. Assumes nothing.
use mathlib.Core.Path.{sym, ap₂}
use Prim.Native.Nat.{ℕ}
use Rattle.serial.proofs.Bits.{digit_held}
use Rattle.serial.proofs.held.Held.state.Goals as goal

pub returns : goal.returns
returns c =
    ap₂ (λ (m n : ℕ). record { scrambled = m; last = n }) c.flip.ensures (sym (digit_held c.args.self.last c.args.self.one))
