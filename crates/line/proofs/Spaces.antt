-- The two spaces of a line: which offsets lie in them, and what is wrong there and elsewhere. Assumes nothing.
use Prim.Native.Nat.{ℕ, ◌+◌, ◌-◌, ◌<◌, ◌≤◌}
use mathlib.Core.Path.{◌≡◌, refl, sym, ◌∙◌}
use mathlib.Core.Bool.{true, false, true≢false}
use native.Mathlib.Omega.{arith}
use lib.Dec.{ltb, eqb}
use borrow.Author.Tests.{ltb-true, ltb-false, le-ltb, lt-ltb, le-leb, lt-leb}
use Rattle.refusal.proofs.Cases.{by_test, by_cond}
use Rattle.packets.specs.declared.due.What as packet
use Rattle.packets.specs.Due as spaceDue
use Rattle.packets.specs.Fault as spaceFault
use Rattle.system.specs.Figures.{line_length, sav_offset, active_offset}
use Rattle.system.proofs.Laws.{sav_low}
use Rattle.system.specs.declared.due.Due.{Due}
use Rattle.system.specs.Due.{flags_of}
use Rattle.line.specs.declared.What.{What}
use Rattle.line.specs.declared.What.TheVariants.{Ones, Zeros, Fourth, Sample}
use Rattle.line.specs.Offsets.{due_at}
use Rattle.line.specs.Fault.{in_space, space_start, space_stop, Wanted, within, apart, wanted_at, fault_where, fault_of}
use Rattle.line.proofs.Dues.{due_eav, due_sav, due_sample}

-- ---- which offsets lie in a space
module _ (d : Due) (i : ℕ) where
  pub eav_apart : i < 4 → in_space d i ≡ false
  eav_apart l =
      let below : i < active_offset d.system = omega (arith, sav_low d.system) in
      simp (lt-leb _ _ l, lt-leb _ _ below)

  pub between_space_is : 4 ≤ i → i < sav_offset d.system → in_space d i ≡ true
  between_space_is g l = simp (le-leb _ _ g, lt-ltb _ _ l)

  pub sav_apart : sav_offset d.system ≤ i → i < active_offset d.system → in_space d i ≡ false
  sav_apart g l =
      let past : 4 ≤ i = omega (arith, sav_low d.system) in
      simp (le-leb _ _ past, le-ltb _ _ g, lt-leb _ _ l)

  pub active_space_is : active_offset d.system ≤ i → in_space d i ≡ d.v
  active_space_is g =
      let past : 4 ≤ i = omega (arith, sav_low d.system) in
      let behind : sav_offset d.system ≤ i = omega arith in
      simp (le-leb _ _ past, le-ltb _ _ behind, le-leb _ _ g)

-- To show something of an offset, show it of each part's.
pub by_part : (d : Due) (P : Type 0) (i : ℕ) → (i < 4 → P) → (4 ≤ i → i < sav_offset d.system → P)
    → (sav_offset d.system ≤ i → i < active_offset d.system → P) → (active_offset d.system ≤ i → P) → P
by_part d P i eav between sav active =
    by_test (ltb i 4) (λ t. eav (ltb-true _ _ t))
    (λ f. by_test (ltb i (sav_offset d.system)) (λ t. between (ltb-false _ _ f) (ltb-true _ _ t))
    (λ g. by_test (ltb i (active_offset d.system)) (λ t. sav (ltb-false i (sav_offset d.system) g) (ltb-true i (active_offset d.system) t))
    (λ h. active (ltb-false i (active_offset d.system) h))))

-- ---- what is wanted, and what is wrong
module _ (d : Due) (word : ℕ → ℕ) (i : ℕ) where
  pub wanted_apart : in_space d i ≡ false → wanted_at d word i ≡ apart (due_at d i)
  unfolding wanted_at
  wanted_apart f = simp f

  pub fault_apart : in_space d i ≡ false → fault_of d word i ≡ fault_where (due_at d i) (word i)
  unfolding fault_of
  fault_apart f = rw (wanted_apart f) refl

  pub wanted_between : 4 ≤ i → i < sav_offset d.system
      → wanted_at d word i ≡ within (spaceDue.due_at word 4 (sav_offset d.system) d.fill.even d.fill.odd i)
  unfolding wanted_at
  wanted_between g l = simp (le-leb _ _ g, lt-ltb _ _ l)

  pub fault_between : 4 ≤ i → i < sav_offset d.system
      → fault_of d word i ≡ spaceFault.fault_at word 4 (sav_offset d.system) d.fill.even d.fill.odd i
  unfolding fault_of spaceFault.fault_at
  fault_between g l = rw (wanted_between g l) refl

  pub wanted_active : active_offset d.system ≤ i → d.v ≡ true
      → wanted_at d word i ≡ within (spaceDue.due_at word (active_offset d.system) (line_length d.system) d.fill.even d.fill.odd i)
  unfolding wanted_at
  wanted_active g v =
      let past : 4 ≤ i = omega arith in
      let behind : sav_offset d.system ≤ i = omega arith in
      simp (le-leb _ _ past, le-ltb _ _ behind, le-leb _ _ g, v)

  pub fault_active : active_offset d.system ≤ i → d.v ≡ true
      → fault_of d word i ≡ spaceFault.fault_at word (active_offset d.system) (line_length d.system) d.fill.even d.fill.odd i
  unfolding fault_of spaceFault.fault_at
  fault_active g v = rw (wanted_active g v) refl

-- To show something of what the offset alone says to be due, outside the spaces, show it of each kind.
pub by_apart : (d : Due) (P : What → Type 0) (i : ℕ) → in_space d i ≡ false → P Ones → P Zeros
    → (i ≡ 3 → P (Fourth (flags_of d true))) → (i ≡ sav_offset d.system + 3 → P (Fourth (flags_of d false)))
    → (d.v ≡ false → active_offset d.system ≤ i → P Sample) → P (due_at d i)
by_apart d P i outside ones zeros eav sav sample =
    let s = sav_offset d.system in
    by_part d (P (due_at d i)) i
    (λ l. rw (due_eav d i l)
    (by_cond P (eqb i 0) Ones _ (λ e. ones)
    (λ n. by_cond P (ltb i 3) Zeros (Fourth (flags_of d true)) (λ e. zeros) (λ g. eav (omega (arith, ltb-false i 3 g))))))
    (λ g l. absurd (true≢false (sym (between_space_is d i g l) ∙ outside)))
    (λ g l. rw (due_sav d i g l)
    (by_cond P (eqb (i - s) 0) Ones _ (λ e. ones)
    (λ n. by_cond P (ltb (i - s) 3) Zeros (Fourth (flags_of d false)) (λ e. zeros) (λ h. sav (omega (arith, ltb-false (i - s) 3 h))))))
    (λ g. let v = sym (active_space_is d i g) ∙ outside in rw (due_sample d i g v) (sample v g))

-- To show something of the fault at an offset, show it outside the spaces and in each.
pub by_space : (d : Due) (word : ℕ → ℕ) (P : ℕ → Type 0) (i : ℕ)
    → (in_space d i ≡ false → P (fault_where (due_at d i) (word i)))
    → (4 ≤ i → i < sav_offset d.system → P (spaceFault.fault_at word 4 (sav_offset d.system) d.fill.even d.fill.odd i))
    → (active_offset d.system ≤ i → d.v ≡ true → P (spaceFault.fault_at word (active_offset d.system) (line_length d.system) d.fill.even d.fill.odd i))
    → P (fault_of d word i)
by_space d word P i outside between active =
    let elsewhere : in_space d i ≡ false → P (fault_of d word i) = λ f. rw (fault_apart d word i f) (outside f) in
    by_part d (P (fault_of d word i)) i
    (λ l. elsewhere (eav_apart d i l))
    (λ g l. rw (fault_between d word i g l) (between g l))
    (λ g l. elsewhere (sav_apart d i g l))
    (λ g. by_test d.v (λ v. rw (fault_active d word i g v) (active g v)) (λ f. elsewhere (active_space_is d i g ∙ f)))

-- To show something of what is wanted at an offset, show it of whatever is due in a space and of what the offset says elsewhere.
pub by_wanted : (d : Due) (word : ℕ → ℕ) (P : Wanted → Type 0) (i : ℕ) → ((due : packet.What) → P (within due))
    → (in_space d i ≡ false → P (apart (due_at d i))) → P (wanted_at d word i)
unfolding wanted_at
by_wanted d word P i in_one outside =
    by_cond P (in_space d i) (within (spaceDue.due_at word (space_start d i) (space_stop d i) d.fill.even d.fill.odd i)) (apart (due_at d i))
    (λ e. in_one _) outside
