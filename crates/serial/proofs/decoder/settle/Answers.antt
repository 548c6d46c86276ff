-- `settle` meets its contract: ten channel bits push every bit of the past out of the state. Assumes nothing.
use mathlib.Core.Path.{refl}
use Rattle.serial.specs.Serial.{past_decoding}
use Rattle.serial.proofs.Machine.{is_word, is_xor, is_shr, is_shl, is_mask, past_is}
use Rattle.serial.proofs.decoder.settle.Goals as goal

pub returns : goal.returns
unfolding past_decoding
returns c =
    let channel = is_word c.from-channel.ensures c.requires in
    λ s. past_is refl refl (is_mask 9 (is_shr 1 (is_xor channel (is_shl 1 channel)))) (is_shr 9 channel)
