-- A line whose parts a pass found well has no fault. What is asked of the spaces is only that: how a pass finds it is its own affair.
-- Assumes nothing.
use Prim.Native.Nat.{ℕ, zero, suc, ◌+◌, ◌-◌, ◌*◌, ◌/◌, ◌%◌, ◌<◌, ◌≤◌}
use mathlib.Core.Path.{◌≡◌, refl, ap, ◌∙◌}
use mathlib.Core.List.{[]}
use mathlib.Core.Bool.{true, false}
use native.Mathlib.Omega.{arith}
use lib.Dec.{eqb}
use borrow.Author.Tests.{eqb-true, eqb-false}
use Rattle.refusal.specs.Answer.{first_from}
use Rattle.refusal.proofs.Cases.{by_test}
use Rattle.words.specs.Words.{most_word}
use Rattle.packets.specs.Packet.{fill_word}
use Rattle.packets.specs.Fault.{space_to, ready_refusal}
use Rattle.packets.proofs.Walks.{space_back}
use Rattle.timing.specs.Code.{correction_of}
use Rattle.timing.specs.Report.{number_where}
use Rattle.system.specs.declared.due.Due.{Due}
use Rattle.words.specs.declared.FillWords.{FillWords}
use Rattle.system.specs.Figures.{line_length, sav_offset, active_offset}
use Rattle.system.specs.Due.{flags_of}
use Rattle.system.proofs.Laws.{line_is_parts, sav_low, sav_even}
use Rattle.line.specs.Fault.{least_ones, most_zeros, fault_of, between_space, active_space}
use Rattle.line.specs.Samples.{active_length}
use Rattle.line.specs.Parts.{Proper, CodeWell, ActiveWell}
use Rattle.words.specs.Passes.{Filled}
use Rattle.line.proofs.Dues.{due_eav, due_sav, due_sample}
use Rattle.line.proofs.Faults.{ones_well, zeros_well, fourth_fault, sample_well}
use Rattle.line.proofs.Spaces.{by_part, eav_apart, sav_apart, active_space_is, fault_apart, fault_between, fault_active}
use Rattle.packets.proofs.Ready.{ready_reads}

-- a timing code whose four words are well
pub four_well : (fvh : ℕ) (word : ℕ → ℕ) → least_ones ≤ word 0 → word 0 ≤ most_word → word 1 ≤ most_zeros → word 2 ≤ most_zeros
    → number_where fvh (correction_of (word 3)) ≡ 0 → CodeWell fvh word
four_well fvh word low high second third fourth zero l = ones_well (word 0) low high
four_well fvh word low high second third fourth (suc zero) l = zeros_well (word 1) second
four_well fvh word low high second third fourth (suc (suc zero)) l = zeros_well (word 2) third
four_well fvh word low high second third fourth (suc (suc (suc zero))) l = fourth_fault fvh (word 3) ∙ fourth
four_well fvh word low high second third fourth (suc (suc (suc (suc k)))) l = absurd (omega arith)

-- ---- pairs of fill from an even offset are a space of fill alone, without a fault
module _ (fill : FillWords) (word : ℕ → ℕ) (from pairs : ℕ) (ok : Proper fill) (even : from % 2 ≡ 0)
    (both : Filled fill.even fill.odd (λ k. word (from + k)) pairs) where
  is_fill : (i : ℕ) → from ≤ i → i < from + 2 * pairs → word i ≡ fill_word fill.even fill.odd i
  is_fill i g l =
      let here = both ((i - from) / 2) (omega arith) in
      by_test (eqb (i % 2) 0)
      (λ t. let at = first (eqb-true _ _ t) in simp t (ap word at ∙ here.0))
      (λ f. let at = second (eqb-false _ _ f) in simp f (ap word at ∙ here.1))
    where
      first : i % 2 ≡ 0 → i ≡ from + 2 * ((i - from) / 2)
      first z = omega arith

      second : (i % 2 ≡ 0 → ⊥) → i ≡ from + (2 * ((i - from) / 2) + 1)
      second z = omega arith

  pub filled_space : (stop : ℕ) → stop ≡ from + 2 * pairs
      → space_to word from stop fill.even fill.odd ≡ record { number = 0; place = 0; packets = 0 }
  unfolding ready_refusal first_from
  filled_space stop e =
      ready_reads 0 [] refl word from stop fill.even fill.odd ok.even ok.odd (omega arith) (λ j l. absurd (omega arith))
      (λ i g l. is_fill i (omega arith) (omega arith))

-- the space between, and the active part, all fill
module _ (d : Due) (word : ℕ → ℕ) (ok : Proper d.fill) where
  pub between_filled : Filled d.fill.even d.fill.odd (λ k. word (4 + k)) ((sav_offset d.system - 4) / 2)
      → between_space d word ≡ record { number = 0; place = 0; packets = 0 }
  between_filled both =
      filled_space d.fill word 4 ((sav_offset d.system - 4) / 2) ok refl both (sav_offset d.system) (omega (arith, sav_even d.system, sav_low d.system))

  pub active_filled : Filled d.fill.even d.fill.odd (λ k. word (active_offset d.system + k)) (active_length / 2)
      → active_space d word ≡ record { number = 0; place = 0; packets = 0 }
  active_filled both =
      filled_space d.fill word (active_offset d.system) (active_length / 2) ok (omega (arith, sav_even d.system)) both (line_length d.system)
      (omega (arith, line_is_parts d.system))

-- the parts of a line, of the words that are told by their offsets
pub record WellParts (d : Due) (word : ℕ → ℕ) : Type 0 where
  pub eav : CodeWell (flags_of d true) word
  pub between : (between_space d word).number ≡ 0
  pub sav : CodeWell (flags_of d false) (λ k. word (sav_offset d.system + k))
  pub active : ActiveWell d word

pub parts_well : (d : Due) (word : ℕ → ℕ) → WellParts d word → (i : ℕ) → i < line_length d.system → fault_of d word i ≡ 0
parts_well d word p i l =
    let s = sav_offset d.system in
    let a = active_offset d.system in
    let whole = line_is_parts d.system in
    by_part d (fault_of d word i ≡ 0) i
    (λ m. fault_apart d word i (eav_apart d i m) ∙ rw (due_eav d i m) (p.eav i m))
    (λ g m. fault_between d word i g m ∙ space_back word 4 s d.fill.even d.fill.odd p.between i g m)
    (λ g m.
    let e : s + (i - s) ≡ i = omega arith in
    fault_apart d word i (sav_apart d i g m) ∙ rw (due_sav d i g m) (rw e at (p.sav (i - s) (omega arith))))
    (λ g. by_test d.v
    (λ v. fault_active d word i g v ∙ space_back word a (line_length d.system) d.fill.even d.fill.odd (p.active.blank v) i g l)
    (λ v.
    let e : a + (i - a) ≡ i = omega arith in
    let sample = rw e at (p.active.samples v (i - a) (omega arith)) in
    fault_apart d word i (active_space_is d i g ∙ v) ∙ rw (due_sample d i g v) (sample_well (word i) sample.0 sample.1)))
