-- `intake::tells` meets its contract: each test of the code is one of the definition's. Assumes nothing.
use Rattle.std.proofs.Common.{◌≡◌, pos, negsuc, ℤ, sym, refl, arith, le-ltb, eq-eqb, ne_eqb, to_z-of_z}
use Rattle.std.specs.Int.Signed.{lt_z}
use Rattle.intake.specs.Arrival.{is_negative, told_of}
use Rattle.intake.proofs.tells.Goals as goal

negative : (z : ℤ) → is_negative z ≡ lt_z z (pos 0)
negative (pos k) = sym (le-ltb k 0 (omega arith))
negative (negsuc k) = refl

pub returns-then-room-eq0-clause-told : goal.returns-then-room-eq0-clause-told
unfolding told_of
returns-then-room-eq0-clause-told c = simp (eq-eqb _ _ c.if-room-eq0.true)

pub returns-then-got-lt0-clause-told : goal.returns-then-got-lt0-clause-told
unfolding told_of
returns-then-got-lt0-clause-told c =
    simp (ne_eqb _ _ c.if-room-eq0.false, negative c.args.got, rw (to_z-of_z c.ranges.got) at c.if-got-lt0.true)

pub returns-then-count-eq0-clause-told : goal.returns-then-count-eq0-clause-told
unfolding told_of
returns-then-count-eq0-clause-told c =
    let z = to_z-of_z c.ranges.got in
    simp (ne_eqb _ _ c.if-room-eq0.false, negative c.args.got, rw z at c.if-got-lt0.false, sym (rw z at c.count-count.ensures.value), eq-eqb _ _ c.if-count-eq0.true)

pub returns-clause-told : goal.returns-clause-told
unfolding told_of
returns-clause-told c =
    let z = to_z-of_z c.ranges.got in
    simp (ne_eqb _ _ c.if-room-eq0.false, negative c.args.got, rw z at c.if-got-lt0.false, sym (rw z at c.count-count.ensures.value), ne_eqb _ _ c.if-count-eq0.false)
