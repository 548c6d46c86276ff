-- What is due at an offset, part by part and by cases. Assumes nothing.
use Prim.Native.Nat.{ℕ, ◌+◌, ◌-◌, ◌%◌, ◌<◌, ◌≤◌}
use mathlib.Core.Path.{◌≡◌, refl}
use mathlib.Core.Bool.{true, false}
use native.Mathlib.Omega.{arith}
use lib.Dec.{ltb, eqb}
use borrow.Author.Tests.{ltb-true, ltb-false, le-ltb, lt-ltb}
use Rattle.refusal.proofs.Cases.{by_cond}
use Rattle.system.specs.Figures.{sav_offset, active_offset}
use Rattle.system.proofs.Laws.{sav_low}
use Rattle.system.specs.declared.due.Due.{Due}
use Rattle.line.specs.declared.What.{What}
use Rattle.line.specs.declared.What.TheVariants.{Ones, Zeros, Fourth, Fill, Sample}
use Rattle.system.specs.Due.{flags_of}
use Rattle.line.specs.Offsets.{code_at, fill_at, due_at}

module _ (d : Due) (i : ℕ) where
  pub due_eav : i < 4 → due_at d i ≡ code_at (flags_of d true) i
  unfolding due_at
  due_eav l = simp (lt-ltb _ _ l)

  pub due_space : 4 ≤ i → i < sav_offset d.system → due_at d i ≡ fill_at d.fill i
  unfolding due_at
  due_space g l = simp (le-ltb _ _ g, lt-ltb _ _ l)

  pub due_sav : sav_offset d.system ≤ i → i < active_offset d.system → due_at d i ≡ code_at (flags_of d false) (i - sav_offset d.system)
  unfolding due_at
  due_sav g l =
      let past : 4 ≤ i = omega (arith, sav_low d.system) in
      simp (le-ltb _ _ past, le-ltb _ _ g, lt-ltb _ _ l)

  module _ (g : active_offset d.system ≤ i) where
    pub due_blank : d.v ≡ true → due_at d i ≡ fill_at d.fill i
    unfolding due_at
    due_blank v =
        let past : 4 ≤ i = omega arith in
        let past_sav : sav_offset d.system ≤ i = omega arith in
        simp (le-ltb _ _ past, le-ltb _ _ past_sav, le-ltb _ _ g, v)

    pub due_sample : d.v ≡ false → due_at d i ≡ Sample
    unfolding due_at
    due_sample v =
        let past : 4 ≤ i = omega arith in
        let past_sav : sav_offset d.system ≤ i = omega arith in
        simp (le-ltb _ _ past, le-ltb _ _ past_sav, le-ltb _ _ g, v)

-- To show something of what is due at an offset, show it of each kind.
pub by_due : (d : Due) (P : What → Type 0) (i : ℕ) → P Ones → P Zeros
    → (i ≡ 3 → P (Fourth (flags_of d true))) → (i ≡ sav_offset d.system + 3 → P (Fourth (flags_of d false)))
    → P (Fill d.fill.even) → P (Fill d.fill.odd) → (d.v ≡ false → active_offset d.system ≤ i → P Sample) → P (due_at d i)
unfolding due_at
by_due d P i ones zeros eav sav even odd sample =
    let s = sav_offset d.system in
    let fill = by_cond P (eqb (i % 2) 0) (Fill d.fill.even) (Fill d.fill.odd) (λ e. even) (λ e. odd) in
    by_cond P (ltb i 4) (code_at (flags_of d true) i) _
    (λ l. by_cond P (eqb i 0) Ones _ (λ e. ones)
    (λ n. by_cond P (ltb i 3) Zeros (Fourth (flags_of d true)) (λ e. zeros) (λ g. eav (omega (arith, ltb-true i 4 l, ltb-false i 3 g)))))
    (λ g. by_cond P (ltb i s) (fill_at d.fill i) _ (λ e. fill)
    (λ g2. by_cond P (ltb i (s + 4)) (code_at (flags_of d false) (i - s)) _
    (λ l. by_cond P (eqb (i - s) 0) Ones _ (λ e. ones)
    (λ n. by_cond P (ltb (i - s) 3) Zeros (Fourth (flags_of d false)) (λ e. zeros)
    (λ h. sav (omega (arith, ltb-false i s g2, ltb-true i (s + 4) l, ltb-false (i - s) 3 h)))))
    (λ g3. by_cond P d.v (fill_at d.fill i) Sample (λ e. fill) (λ e. sample e (ltb-false i (s + 4) g3)))))

-- the two fourth words
pub eav_due : (d : Due) → due_at d 3 ≡ (Fourth (flags_of d true))
unfolding due_at
eav_due d = refl

pub sav_due : (d : Due) → due_at d (sav_offset d.system + 3) ≡ (Fourth (flags_of d false))
unfolding due_at
sav_due d =
    let s = sav_offset d.system in
    let e : s + 3 - s ≡ 3 = omega arith in
    let a : 4 ≤ s + 3 = omega (arith, sav_low d.system) in
    let b : s ≤ s + 3 = omega arith in
    let c : s + 3 < s + 4 = omega arith in
    simp (le-ltb _ _ a, le-ltb _ _ b, lt-ltb _ _ c, e)
