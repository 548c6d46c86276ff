-- A buffer that is filled has no more than its bytes, and more after each read that does not end it. Assumes nothing.
use Rattle.std.proofs.Common.{◌≡◌, ℕ, ◌+◌, ◌^◌, ◌<◌, ◌≤◌, false, subst, true≢false, arith}
use Rattle.intake.specs.declared.Told.{Told}
use Rattle.intake.specs.declared.Told.TheVariants.{Failed, Ended, Bytes}
use Rattle.intake.specs.declared.Filled.{Filled}
use Rattle.intake.specs.Arrival.{WithinRoom, filled_after}

pub filled_within : (f : Filled) (told : Told) (room : ℕ) → WithinRoom told room → f.have + room < 2 ^ 64
    → ((filled_after f told room).have ≤ f.have + room) × ((filled_after f told room).done ≡ false → f.have < (filled_after f told room).have)
filled_within f Failed room w small = (omega arith, λ e. absurd (true≢false e))
filled_within f Ended room w small = (omega arith, λ e. absurd (true≢false e))
filled_within f (Bytes count) room w small = (omega (arith, w.0, w.1), λ e. omega (arith, w.0, w.1))

-- bytes that were told of have room
pub room_for : (told : Told) (count room : ℕ) → told ≡ Bytes count → WithinRoom told room → count ≤ room
room_for told count room e w = (subst (λ (t : Told). WithinRoom t room) e w).1
