-- A written line that damage struck, read: no fault, and its samples and packets back, or 8 in its place. By what is due at each offset.
-- Assumes nothing.
use Prim.Native.Nat.{ℕ, zero, suc, ◌+◌, ◌-◌, ◌/◌, ◌%◌, ◌<◌, ◌≤◌}
use mathlib.Core.Path.{◌≡◌, refl, sym, ap, subst, ◌∙◌}
use mathlib.Core.List.{List}
use mathlib.Core.Bool.{true, false, cond}
use native.Mathlib.Omega.{arith}
use lib.Dec.{ltb, eqb}
use lib.ListN.{length, get_or, take, drop, length-take, length-drop}
use lib.Seq.{ext_get_or, get_or-take, get_or-drop}
use borrow.Author.Tests.{le-ltb, lt-ltb, eq-eqb}
use Rattle.refusal.specs.Answer.{none}
use Rattle.refusal.proofs.Cases.{by_test, by_cond}
use Rattle.refusal.proofs.Firsts.{first_none, first_at}
use Rattle.packets.specs.Fault.{Space, word_at}
use Rattle.packets.proofs.Walks.{space_back}
use Rattle.timing.specs.declared.Correction.{Correction}
use Rattle.timing.specs.Code.{legal_of, fourth_of, seven_of, distance_of, correction_of}
use Rattle.timing.specs.Report.{number_where, code_report_of, repairs_in}
use Rattle.timing.proofs.Laws.{fourth_high, fourth_seven, found, at_distance, found_accepted, found_repairs}
use Rattle.system.specs.Figures.{line_length, sav_offset, active_offset}
use Rattle.system.proofs.Laws.{line_is_parts, sav_low, flags_low}
use Rattle.system.specs.declared.due.Due.{Due}
use Rattle.line.specs.declared.What.{What}
use Rattle.line.specs.declared.What.TheVariants.{Fourth, Fill}
use Rattle.system.specs.Due.{flags_of}
use Rattle.line.specs.Offsets.{fill_at, due_at}
use Rattle.line.specs.Fault.{fault_where, in_space, fault_at, word_refusal, between_space, active_space, packets_in}
use Rattle.line.specs.Samples.{Content, sample_at, word_where, bare_at, written_at, line_of, samples_of, packets_of}
use Rattle.line.specs.Fit.{Fit}
use Rattle.line.specs.Parts.{Proper}
use Rattle.line.specs.Damage.{Near, DamagedUpTo, told_of}
use Rattle.line.proofs.Dues.{eav_due, sav_due, due_eav, due_space, due_blank, due_sample}
use Rattle.line.proofs.Faults.{ones_well, zeros_well, fourth_fault, sample_well}
use Rattle.line.proofs.Spaces.{eav_apart, sav_apart, active_space_is, fault_apart, by_apart, by_space}
use Rattle.line.proofs.Writing.{line_length_is, line_word, no_active, written_apart, between_stands, active_stands, between_answers, active_answers}
use Rattle.line.proofs.Places.{samples_back}

-- a fourth word that is read n bits from the one written
abbrev Away : ℕ → ℕ → ℕ → Type 0
Away fvh n r = (r / 512 ≡ fourth_of fvh / 512) × (distance_of (seven_of r) (seven_of (fourth_of fvh)) ≡ n)

away_found : (fvh r n : ℕ) → fvh < 8 → Away fvh n r → n ≤ 2 → correction_of r ≡ found fvh (seven_of r) n
away_found fvh r n hk h l =
    at_distance fvh r n hk (h.0 ∙ fourth_high fvh) (ap (λ (q : ℕ). distance_of (seven_of r) q) (sym (fourth_seven fvh)) ∙ h.1) l

away_well : (fvh r n : ℕ) → fvh < 8 → Away fvh n r → n ≤ 1 → fault_where (Fourth fvh) r ≡ 0
away_well fvh r n hk h l = fourth_fault fvh r ∙ ap (number_where fvh) (away_found fvh r n hk h (omega arith)) ∙ found_accepted fvh (seven_of r) n l

found_told : (fvh r n : ℕ) → distance_of (seven_of r) (seven_of (fourth_of fvh)) ≡ n → n ≤ 1 → code_report_of (found fvh (seven_of r) n) ≡ told_of fvh r
found_told fvh r n e l = go n (ap (λ (q : ℕ). distance_of (seven_of r) q) (sym (fourth_seven fvh)) ∙ e) l
  where
    go : (k : ℕ) → distance_of (seven_of r) (legal_of fvh) ≡ k → k ≤ 1 → code_report_of (found fvh (seven_of r) k) ≡ told_of fvh r
    go zero q h = simp (eq-eqb _ _ q)
    go (suc zero) q h = simp q
    go (suc (suc k)) q h = absurd (omega arith)

-- the first three words of EAV are the same in every line
header : (d b : Due) (i : ℕ) → i < 3 → due_at d i ≡ due_at b i
header d b i l =
    let four : i < 4 = omega arith in
    due_eav d i four ∙ rw (lt-ltb _ _ l) (sym (due_eav b i four ∙ rw (lt-ltb _ _ l)))

module _ (d : Due) (ok : Proper d.fill) (c : Content) (fit : Fit d c) (read : List ℕ) (e s end : ℕ) (low : end ≤ line_length d.system)
    (dam : DamagedUpTo end d (line_of d c) read e s) where
  pub read_length : length read ≡ line_length d.system
  read_length = dam.size ∙ line_length_is d c

  near : (i : ℕ) → i < end → Near (due_at d i) (cond (ltb i 4) e s) (written_at d c i) (get_or read i 0)
  near i l = rw (line_word d c i (omega arith)) at (dam.words i l)

  -- outside the spaces packets are not met
  near_apart : (i : ℕ) → i < end → in_space d i ≡ false → Near (due_at d i) (cond (ltb i 4) e s) (bare_at d c.samples i) (get_or read i 0)
  near_apart i l outside = rw (written_apart d c fit.packets i outside) at (near i l)

  -- in the spaces nothing is changed
  kept : (i : ℕ) → i < end → due_at d i ≡ fill_at d.fill i → word_at read i ≡ written_at d c i
  kept i l fill =
      by_cond (λ (x : What). Near x (cond (ltb i 4) e s) (written_at d c i) (get_or read i 0) → word_at read i ≡ written_at d c i) (eqb (i % 2) 0)
      (Fill d.fill.even) (Fill d.fill.odd) (λ t q. q) (λ t q. q)
      (subst (λ (x : What). Near x (cond (ltb i 4) e s) (written_at d c i) (get_or read i 0)) fill (near i l))

  pub between_read : sav_offset d.system ≤ end
      → between_space d (word_at read) ≡ record { number = 0; place = 0; packets = length c.packets.between }
  between_read past = between_answers d c fit.packets ok (word_at read) (λ i g l. kept i (omega arith) (due_space d i g l))

  pub active_read : d.v ≡ true → end ≡ line_length d.system
      → active_space d (word_at read) ≡ record { number = 0; place = 0; packets = length c.packets.active }
  active_read v whole = active_answers d c fit.packets ok (word_at read) v (λ i g l. kept i (omega arith) (due_blank d i g v))

  in_line : sav_offset d.system + 1444 ≡ line_length d.system
  in_line = omega (arith, line_is_parts d.system)

  -- no fault at an offset whose code is struck in at most one bit, where its space was read whole
  well : (i : ℕ) → i < end → (i ≡ 3 → e ≤ 1) → (i ≡ sav_offset d.system + 3 → s ≤ 1) → (4 ≤ i → sav_offset d.system ≤ end)
      → (active_offset d.system ≤ i → end ≡ line_length d.system) → fault_at d read i ≡ 0
  well i l he hs past-between past-active =
      by_space d (word_at read) (λ n. n ≡ 0) i
      (λ outside. well_apart outside)
      (λ g m. space_back (word_at read) 4 (sav_offset d.system) d.fill.even d.fill.odd
      (ap (λ (a : Space). a.number) (between_read (past-between g))) i g m)
      (λ g v. space_back (word_at read) (active_offset d.system) (line_length d.system) d.fill.even d.fill.odd
      (ap (λ (a : Space). a.number) (active_read v (past-active g))) i g (omega arith))
    where
      well_apart : in_space d i ≡ false → fault_where (due_at d i) (word_at read i) ≡ 0
      well_apart outside =
          let r : ℕ = get_or read i 0 in
          by_apart d (λ x. Near x (cond (ltb i 4) e s) (word_where x (sample_at c.samples (i - active_offset d.system))) r → fault_where x r ≡ 0) i outside
          (λ n. ones_well r (omega arith) (omega arith)) (λ n. zeros_well r (omega arith))
          (λ q n. away_well (flags_of d true) r (cond (ltb i 4) e s) (flags_low d true) n (rw q (he q)))
          (λ q n. let past : 4 ≤ sav_offset d.system + 3 = omega (arith, sav_low d.system) in
          away_well (flags_of d false) r (cond (ltb i 4) e s) (flags_low d false) n (rw q (simp (le-ltb _ _ past) (hs q))))
          (λ v g n. let k = fit.range v (i - active_offset d.system) (omega (arith, in_line)) in rw n (sample_well _ k.0 k.1))
          (near_apart i l outside)

  -- what correction finds in the two codes
  eav_away : 3 < end → Away (flags_of d true) e (get_or read 3 0)
  eav_away l = rw (eav_due d) at (near_apart 3 l (eav_apart d 3 (omega arith)))

  sav_away : sav_offset d.system + 3 < end → Away (flags_of d false) s (get_or read (sav_offset d.system + 3) 0)
  sav_away l =
      let past : 4 ≤ sav_offset d.system + 3 = omega (arith, sav_low d.system) in
      let outside = sav_apart d (sav_offset d.system + 3) (omega arith) (omega arith) in
      simp (sav_due d, le-ltb _ _ past) at (near_apart (sav_offset d.system + 3) l outside)

  pub eav_found : 3 < end → e ≤ 2 → correction_of (get_or read 3 0) ≡ found (flags_of d true) (seven_of (get_or read 3 0)) e
  eav_found l two = away_found (flags_of d true) (get_or read 3 0) e (flags_low d true) (eav_away l) two

  pub sav_found : sav_offset d.system + 3 < end → s ≤ 2
      → correction_of (get_or read (sav_offset d.system + 3) 0) ≡ found (flags_of d false) (seven_of (get_or read (sav_offset d.system + 3) 0)) s
  sav_found l two = away_found (flags_of d false) (get_or read (sav_offset d.system + 3) 0) s (flags_low d false) (sav_away l) two

  -- At most one inverted bit a code: no word is refused.
  pub damaged_accepted : end ≡ line_length d.system → e ≤ 1 → s ≤ 1 → word_refusal d read ≡ none
  unfolding word_refusal
  damaged_accepted whole he hs =
      first_none (fault_at d read) (length read) (λ i l. well i (omega (arith, read_length)) (λ q. he) (λ q. hs) (λ g. omega (arith, in_line)) (λ g. whole))

  -- Each code is told as repaired exactly where a bit is inverted.
  pub eav_counted : 3 < end → e ≤ 1 → repairs_in (code_report_of (correction_of (get_or read 3 0))) ≡ e
  eav_counted l he = ap (λ (c : Correction). repairs_in (code_report_of c)) (eav_found l (omega arith)) ∙ found_repairs _ _ e he

  pub sav_counted : sav_offset d.system + 3 < end → s ≤ 1 → repairs_in (code_report_of (correction_of (get_or read (sav_offset d.system + 3) 0))) ≡ s
  sav_counted l hs = ap (λ (c : Correction). repairs_in (code_report_of c)) (sav_found l (omega arith)) ∙ found_repairs _ _ s hs

  -- and its report names exactly the inverted bit
  pub eav_told : 3 < end → e ≤ 1 → code_report_of (correction_of (get_or read 3 0)) ≡ told_of (flags_of d true) (get_or read 3 0)
  eav_told l he = ap code_report_of (eav_found l (omega arith)) ∙ found_told (flags_of d true) (get_or read 3 0) e (eav_away l).1 he

  pub sav_told : sav_offset d.system + 3 < end → s ≤ 1
      → code_report_of (correction_of (get_or read (sav_offset d.system + 3) 0)) ≡ told_of (flags_of d false) (get_or read (sav_offset d.system + 3) 0)
  sav_told l hs =
      ap code_report_of (sav_found l (omega arith)) ∙ found_told (flags_of d false) (get_or read (sav_offset d.system + 3) 0) s (sav_away l).1 hs

  -- Two inverted bits in EAV: 8 there, whatever the reader takes to be due in the rest of the line.
  pub two_in_eav : (b : Due) → 3 < end → e ≡ 2 → word_refusal b read ≡ record { number = 8; place = 3 }
  unfolding word_refusal
  two_in_eav b end-past t =
      let eight : fault_at b read 3 ≡ 8 =
      fault_apart b (word_at read) 3 (eav_apart b 3 (omega arith)) ∙ ap (λ (x : What). fault_where x (get_or read 3 0)) (eav_due b)
      ∙ fourth_fault (flags_of b true) (get_or read 3 0)
      ∙ ap (number_where (flags_of b true)) (eav_found end-past (omega arith) ∙ ap (found (flags_of d true) (seven_of (get_or read 3 0))) t) in
      first_at (fault_at b read) (length read) 3 (omega (arith, read_length, in_line))
      (λ i l.
      let four : i < 4 = omega arith in
      fault_apart b (word_at read) i (eav_apart b i four) ∙ ap (λ (x : What). fault_where x (get_or read i 0)) (header b d i l)
      ∙ sym (fault_apart d (word_at read) i (eav_apart d i four))
      ∙ well i (omega arith) (λ q. absurd (omega arith)) (λ q. absurd (omega (arith, sav_low d.system))) (λ g. absurd (omega arith))
      (λ g. absurd (omega arith)))
      (λ z. omega arith)
      ∙ ap (λ (n : ℕ). record { number = n; place = 3 }) eight

  -- Two inverted bits in SAV, and at most one in EAV: 8 there.
  pub two_in_sav : sav_offset d.system + 3 < end → e ≤ 1 → s ≡ 2 → word_refusal d read ≡ record { number = 8; place = sav_offset d.system + 3 }
  unfolding word_refusal
  two_in_sav end-past he t =
      let at = sav_offset d.system + 3 in
      let eight : fault_at d read at ≡ 8 =
      fault_apart d (word_at read) at (sav_apart d at (omega arith) (omega arith)) ∙ ap (λ (x : What). fault_where x (get_or read at 0)) (sav_due d)
      ∙ fourth_fault (flags_of d false) (get_or read at 0)
      ∙ ap (number_where (flags_of d false)) (sav_found end-past (omega arith) ∙ ap (found (flags_of d false) (seven_of (get_or read at 0))) t) in
      first_at (fault_at d read) (length read) at (omega (arith, read_length, in_line))
      (λ i l. well i (omega arith) (λ q. he) (λ q. absurd (omega arith)) (λ g. omega arith) (λ g. absurd (omega arith)))
      (λ z. omega arith)
      ∙ ap (λ (n : ℕ). record { number = n; place = at }) eight

  -- The samples come back.
  pub samples_unchanged : end ≡ line_length d.system → d.v ≡ false → samples_of d read ≡ c.samples
  samples_unchanged whole v =
      samples_back d c.samples read fit.lengths
      (λ j l.
      let a = active_offset d.system in
      let e : a + j - a ≡ j = omega arith in
      simp (due_sample d (a + j) (omega arith) v, e) at (near_apart (a + j) (omega (arith, in_line)) (active_space_is d (a + j) (omega arith) ∙ v)))

  -- and so do the packets
  module _ (whole : end ≡ line_length d.system) where
    pub counts_read : packets_in d (word_at read) ≡ record { between = length c.packets.between; active = length c.packets.active }
    unfolding packets_in
    counts_read =
        rw (between_read (omega (arith, in_line)))
        (by_test d.v (λ v. simp v (rw (active_read v whole) refl))
        (λ v. let none : length c.packets.active ≡ 0 = no_active d c fit.packets v in simp v (rw none refl)))

    part_back : (from : ℕ) (ready : List ℕ) → from + length ready ≤ length read
        → ((j : ℕ) → j < length ready → get_or read (from + j) 0 ≡ get_or ready j 0) → take (length ready) (drop from read) ≡ ready
    part_back from ready fits same =
        let size : length (take (length ready) (drop from read)) ≡ length ready = simp (length-take, length-drop) (omega arith) in
        ext_get_or 0 (take (length ready) (drop from read)) ready size
        (λ j l. get_or-take (length ready) (drop from read) j 0 (omega arith) ∙ get_or-drop from read j 0 ∙ same j (omega arith))

    pub packets_unchanged : packets_of d read ≡ c.packets
    unfolding packets_of
    packets_unchanged =
        let room = fit.packets in
        let between = part_back 4 c.packets.between (omega (arith, room.within_between_room, read_length, in_line))
        (λ j l. kept (4 + j) (omega (arith, in_line, room.within_between_room)) (due_space d (4 + j) (omega arith) (omega (arith, room.within_between_room)))
        ∙ between_stands d c room j l) in
        let active = by_test {A = take (length c.packets.active) (drop (active_offset d.system) read) ≡ c.packets.active} d.v
        (λ v. let fits = rw v at room.within_active_room in
        part_back (active_offset d.system) c.packets.active (omega (arith, read_length, in_line))
        (λ j l. kept (active_offset d.system + j) (omega (arith, in_line)) (due_blank d (active_offset d.system + j) (omega arith) v)
        ∙ active_stands d c room j l))
        (λ v. part_back (active_offset d.system) c.packets.active (omega (arith, no_active d c room v, read_length, in_line))
        (λ j l. absurd (omega (arith, no_active d c room v)))) in
        rw counts_read (λ i. record { between = between i; active = active i })
