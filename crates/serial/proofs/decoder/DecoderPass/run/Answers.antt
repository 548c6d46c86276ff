-- `run` of the decoder meets its contract: i words are stored; a word settles the past after it. Assumes nothing.
use native.Mathlib.Omega.{arith}
use mathlib.Core.Path.{◌≡◌, sym, ap, ◌∙◌}
use Prim.Native.Nat.{ℕ, ◌<◌, ◌-◌}
use lib.ListN.{length, get_or, take, length-set}
use Rattle.serial.specs.Serial.{Past, ends}
use Rattle.serial.specs.Held.{past_held}
use Rattle.serial.proofs.Steps.{decode, after_decode}
use Rattle.serial.proofs.Run.{ends_last, ends_all, stored_none, stored_next, stored_all}
use Rattle.serial.proofs.decoder.DecoderPass.run.Goals as goal

pub loop-i-init : goal.loop-i-init
loop-i-init c =
    let some : 0 < length c.args.words.now = grind arith in
    stored_next c.requires.room (stored_none decode after_decode (past_held c.args.held) c.args.words.now c.args.out.now) some c.decode_word.ensures

pub loop-i-preserved : goal.loop-i-preserved
loop-i-preserved c =
    let s = past_held c.args.held in
    let ws = c.args.words.now in
    let i = c.loop-i.i in
    let room : length c.loop-i.out ≡ length ws = omega (arith, length-set {A = ℕ}) in
    let settled = c.settle.ensures (ends decode after_decode s (take (i - 1) ws)) ∙ sym (ends_last decode after_decode s ws i (omega arith) (omega arith)) in
    stored_next room c.loop-i.invariant c.loop-i-test.true (c.decode_word-in-loop-i.ensures ∙ ap (λ (t : Past). decode t (get_or ws i 0)) settled)

pub returns-clause-output : goal.returns-clause-output
returns-clause-output c = stored_all (omega (arith, length-set {A = ℕ})) c.loop-i.invariant (grind arith)

pub returns-clause-after : goal.returns-clause-after
returns-clause-after c =
    let s = past_held c.args.held in
    let ws = c.args.words.now in
    let n = length ws in
    let some : 0 < n = grind arith in
    c.settle-2.ensures (ends decode after_decode s (take (n - 1) ws)) ∙ sym (ends_last decode after_decode s ws n some (omega arith))
    ∙ ends_all decode after_decode s ws n (omega arith)
