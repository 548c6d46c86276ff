-- `decode_word` meets its contract: followed on the bits, its two exclusive ors are the definition's. Assumes nothing.
use native.Mathlib.Omega.{arith}
use mathlib.Core.Path.{◌∙◌}
use Rattle.serial.specs.Serial.{decode_word}
use Rattle.serial.proofs.Machine.{is_word, is_bits, is_xor, is_shr, is_shl, is_mask, is_mod}
use Rattle.serial.proofs.decoder.decode_word.Goals as goal

pub returns : goal.returns
unfolding decode_word
returns c =
    let a = c.args in
    let channel = is_word c.from-channel.ensures c.requires in
    let h = is_bits 9 {x = a.held.scrambled} (omega arith) in
    let last = is_bits 1 {x = a.held.last} (omega arith) in
    let s = is_mask 10 (is_xor channel (is_xor (is_shl 1 channel) last)) in
    let five = is_xor (is_shl 5 s) (is_shr 4 h) in
    let nine = is_xor (is_shl 9 s) h in
    c.low_ten.ensures ∙ (is_mod 10 (is_xor s (is_xor five nine))).eq
