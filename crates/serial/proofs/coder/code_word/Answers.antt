-- `code_word` meets its contract: followed on the bits, it scrambles all ten and then runs the exclusive or over them. Assumes nothing.
use native.Mathlib.Omega.{arith}
use native.Mathlib.Nat.{mod-eq_of_lt}
use mathlib.Core.Path.{◌∙◌}
use Rattle.serial.proofs.Machine.{is_word, is_bits, is_xor, is_shr, is_shl, is_mask, is_lt}
use Rattle.serial.proofs.Coding.{is_scrambled, is_channel, word_coded, past_coded}
use Rattle.serial.proofs.coder.code_word.Goals as goal

pub returns : goal.returns
returns c =
    let a = c.args in
    let plain = is_word c.from-plain.ensures c.requires in
    let h = is_bits 9 {x = a.held.scrambled} (omega arith) in
    let earlier = is_xor (is_shr 4 h) h in
    let low = is_xor plain earlier in
    let s = is_scrambled a.held a.word (is_mask 10 (is_xor plain (is_xor (is_xor (is_shl 5 low) (is_shl 9 low)) earlier))) in
    let y = is_channel {l = a.held.last} (is_lt s) (omega arith) in
    record { word = c.low_ten.ensures ∙ mod-eq_of_lt (is_lt y) ∙ word_coded a.held a.word s y; past = past_coded a.held a.word s y }
