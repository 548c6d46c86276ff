-- `station::sidecar::counted` meets its contract: one more, or as many. Assumes nothing.
use Rattle.std.proofs.Common.{◌≡◌, ℕ, ◌+◌, ◌%◌, ◌^◌, ◌<◌, Bool, true, false, if◌then◌else◌, ap, ◌∙◌, refl, arith}
use mir.Val.{bool_byte}
use Rattle.station.proofs.sidecar.counted.Goals as goal

one_more : (lines : ℕ) (some : Bool) → lines < 2 ^ 64 → (lines + bool_byte some) % 2 ^ 64 ≡ (if some then (lines + 1) % 2 ^ 64 else lines)
one_more lines true fits = refl
one_more lines false fits = omega arith

pub returns : goal.returns
returns c =
    c.wrapping_add_u64.ensures.value ∙ ap (λ (n : ℕ). (c.args.lines + n) % 2 ^ 64) c.from.ensures
    ∙ one_more c.args.lines c.args.some c.ranges.lines.fits
