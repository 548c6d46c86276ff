-- `packets::fault::header_word` meets its contract: the nine bits with their inverse. Assumes nothing.
use mathlib.Core.Path.{ap, ◌∙◌}
use Prim.Native.Nat.{ℕ, ◌+◌, ◌*◌}
use Rattle.packets.specs.Packet.{inverted, header_of}
use Rattle.packets.proofs.fault.header_word.Goals as goal

pub returns : goal.returns
unfolding header_of
returns c = c.nine_bits.ensures ∙ ap (λ (n : ℕ). inverted (c.args.byte + 256 * n)) c.parity.ensures
