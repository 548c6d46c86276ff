-- `bytewise::pass::key` meets its contract: 32764 takes the samples, and no other word, to the bits of the lowest numbers. Assumes nothing.
use Rattle.std.proofs.Common.{ℕ, ◌+◌, ◌%◌, arith, to_z-of_z, w16}
use Rattle.bytewise.proofs.Keys.{key_bits}
use Rattle.bytewise.proofs.pass.key.Goals as goal

pub returns : goal.returns
returns c = λ h.
    let sum : ℕ = (c.args.word + 32764) % 65536 in
    let low = rw (to_z-of_z {w = w16} {z = c.cast_signed.result} (record { sfits = c.cast_signed.type_inv })) at h in
    let told = key_bits sum (omega arith) (rw c.cast_signed.ensures at low) in
    (omega (arith, told, c.ranges.word.fits), omega (arith, told, c.ranges.word.fits))
