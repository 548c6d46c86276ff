-- A line without fault is the image of a line that can be written; and damage of every kind is damage. Assumes nothing.
use Prim.Native.Nat.{ℕ, ◌+◌, ◌-◌, ◌*◌, ◌/◌, ◌%◌, ◌<◌, ◌≤◌}
use mathlib.Core.Path.{◌≡◌, refl, sym, ap, subst, ◌∙◌}
use mathlib.Core.List.{List}
use mathlib.Core.Bool.{Bool, true, false, cond}
use native.Mathlib.Omega.{arith}
use lib.Bits.{bit_xor}
use lib.Count.{ones_in, ones}
use lib.Dec.{T, ltb, eqb, eqb→eq, ltb→lt}
use lib.ListN.{length, get_or, take, drop, length-take, length-drop}
use lib.Seq.{get_or-take, get_or-drop}
use borrow.Author.Tests.{le-ltb, ltb-true, ltb-false}
use Rattle.refusal.specs.Answer.{first_from}
use Rattle.refusal.proofs.Cases.{by_test, by_cond}
use Rattle.refusal.proofs.Firsts.{first_none_back}
use Rattle.packets.specs.Fault.{Space, word_at, ready_refusal}
use Rattle.timing.specs.Code.{legal_of, fourth_of, seven_of, distance_of, correction_of}
use Rattle.timing.specs.Report.{code_report_of, repairs_in}
use Rattle.timing.proofs.Every.{both, both_left, both_right, every, lift, lift2}
use Rattle.timing.proofs.Laws.{fourth_high, fourth_seven, accepted_away}
use Rattle.system.specs.Figures.{line_length, sav_offset, active_offset}
use Rattle.system.proofs.Laws.{line_is_parts, sav_low, flags_low}
use Rattle.system.specs.declared.due.Due.{Due}
use Rattle.system.specs.declared.walk.PacketWords.{PacketWords}
use Rattle.line.specs.declared.What.{What}
use Rattle.line.specs.declared.What.TheVariants.{Fourth, Fill}
use Rattle.system.specs.Due.{flags_of}
use Rattle.line.specs.Offsets.{fill_at, due_at}
use Rattle.line.specs.Fault.{fault_where, in_space, fault_at, word_refusal, between_space, active_space, packets_in}
use Rattle.line.specs.Samples.{Content, sample_at, word_where, bare_at, written_at, line_of, samples_of, packets_of, content_of}
use Rattle.line.specs.Fit.{Carried, Fit}
use Rattle.line.specs.Damage.{Near, Damaged, struck_where, struck}
use Rattle.words.proofs.Tabs.{length_tab, get_d_tab}
use Rattle.line.proofs.Dues.{due_space, due_blank, due_sample}
use Rattle.line.proofs.Faults.{ones_told, zeros_told, fourth_fault, sample_told}
use Rattle.line.proofs.Spaces.{by_part, eav_apart, sav_apart, active_space_is, fault_apart, fault_between, fault_active, by_apart}
use Rattle.line.proofs.Places.{taken_measured, taken_in_place}
use Rattle.line.proofs.Writing.{line_length_is, line_word, written_apart, between_stands, between_fill, active_stands, active_fill}
use Rattle.packets.proofs.Walks.{space_none}
use Rattle.packets.proofs.Ready.{ReadReady, read_ready}

-- how many repairs the code with its fourth word at an offset tells
abbrev pub repairs_at : List ℕ → ℕ → ℕ
repairs_at words i = repairs_in (code_report_of (correction_of (get_or words i 0)))

-- to show that a line is damaged so, show it of each word as it is written
written_near : (d : Due) (c : Content) (read : List ℕ) (e s : ℕ) → length read ≡ line_length d.system
    → ((i : ℕ) → i < line_length d.system → Near (due_at d i) (cond (ltb i 4) e s) (written_at d c i) (get_or read i 0))
    → Damaged d (line_of d c) read e s
written_near d c read e s size h =
    record {
      size = size ∙ sym (line_length_is d c);
      words = λ i l. let m : i < line_length d.system = omega (arith, line_length_is d c) in rw (line_word d c i m) (h i m);
    }

-- where fill is due by the offset, a word that is read as it was written is near
same_near : (d : Due) (i n w r : ℕ) → due_at d i ≡ fill_at d.fill i → r ≡ w → Near (due_at d i) n w r
same_near d i n w r fill same =
    subst (λ (x : What). Near x n w r) (sym fill)
    (by_cond (λ (x : What). Near x n w r) (eqb (i % 2) 0) (Fill d.fill.even) (Fill d.fill.odd) (λ t. same) (λ t. same))

-- no words are refused by nothing
no_words : (from : ℕ) (ready : List ℕ) → length ready ≡ 0 → (ready_refusal from ready).number ≡ 0
unfolding ready_refusal first_from
no_words from ready e = rw e refl

-- ---- A line whose words are not refused is such an image of the line that is written of the samples and packets that it gives.
module _ (d : Due) (words : List ℕ) (size : length words ≡ line_length d.system) (accepted : (word_refusal d words).number ≡ 0) where
  no_fault : (i : ℕ) → i < line_length d.system → fault_at d words i ≡ 0
  unfolding word_refusal
  no_fault i l = first_none_back (fault_at d words) (length words) accepted i (omega (arith, size))

  apart_well : (i : ℕ) → i < line_length d.system → in_space d i ≡ false → fault_where (due_at d i) (get_or words i 0) ≡ 0
  apart_well i l outside = sym (fault_apart d (word_at words) i outside) ∙ no_fault i l

  in_line : sav_offset d.system + 1444 ≡ line_length d.system
  in_line = omega (arith, line_is_parts d.system)

  -- ---- the spaces
  abbrev counts : PacketWords
  counts = packets_in d (word_at words)

  abbrev a : ℕ
  a = active_offset d.system

  between_none : (between_space d (word_at words)).number ≡ 0
  between_none =
      ap (λ (q : Space). q.number) (space_none (word_at words) 4 (sav_offset d.system) d.fill.even d.fill.odd
      (λ i g l. sym (fault_between d (word_at words) i g l) ∙ no_fault i (omega (arith, in_line))))

  active_none : d.v ≡ true → (active_space d (word_at words)).number ≡ 0
  active_none v =
      ap (λ (q : Space). q.number) (space_none (word_at words) a (line_length d.system) d.fill.even d.fill.odd
      (λ i g l. sym (fault_active d (word_at words) i g v) ∙ no_fault i l))

  between_low : 4 ≤ sav_offset d.system
  between_low = omega (arith, sav_low d.system)

  active_low : a ≤ line_length d.system
  active_low = omega (arith, in_line)

  -- what a space without a fault is
  between_told : ReadReady (word_at words) 4 (sav_offset d.system) d.fill.even d.fill.odd
  between_told = read_ready (word_at words) 4 (sav_offset d.system) d.fill.even d.fill.odd between_low between_none

  active_told : d.v ≡ true → ReadReady (word_at words) a (line_length d.system) d.fill.even d.fill.odd
  active_told v = read_ready (word_at words) a (line_length d.system) d.fill.even d.fill.odd active_low (active_none v)

  counted_active : d.v ≡ true → counts.active ≡ (active_space d (word_at words)).packets
  unfolding packets_in
  counted_active v = simp v

  none_active : d.v ≡ false → counts.active ≡ 0
  unfolding packets_in
  none_active v = simp v

  counted_between : counts.between ≡ (between_space d (word_at words)).packets
  unfolding packets_in
  counted_between = refl

  between_fits : 4 + counts.between ≤ sav_offset d.system
  between_fits = omega (arith, counted_between, between_told.fits)

  active_fits : a + counts.active ≤ line_length d.system
  active_fits =
      by_test d.v
      (λ v. omega (arith, counted_active v, (active_told v).fits))
      (λ v. omega (arith, none_active v, active_low))

  -- the first words of a space
  front : ℕ → ℕ → List ℕ
  front from n = take n (drop from words)

  front_length : (from n : ℕ) → from + n ≤ line_length d.system → length (front from n) ≡ n
  unfolding front
  front_length from n fits = simp (length-take, length-drop) (omega (arith, size))

  front_word : (from n j : ℕ) → j < n → get_or (front from n) j 0 ≡ get_or words (from + j) 0
  unfolding front
  front_word from n j l = get_or-take n (drop from words) j 0 l ∙ get_or-drop from words j 0

  between_is : (packets_of d words).between ≡ front 4 counts.between
  unfolding packets_of front
  between_is = refl

  active_is : (packets_of d words).active ≡ front a counts.active
  unfolding packets_of front
  active_is = refl

  between_length : length (packets_of d words).between ≡ counts.between
  between_length = ap length between_is ∙ front_length 4 counts.between (omega (arith, between_fits, in_line))

  active_length : length (packets_of d words).active ≡ counts.active
  active_length = ap length active_is ∙ front_length a counts.active active_fits

  between_word : (j : ℕ) → j < counts.between → get_or (packets_of d words).between j 0 ≡ get_or words (4 + j) 0
  between_word j l = ap (λ (ws : List ℕ). get_or ws j 0) between_is ∙ front_word 4 counts.between j l

  active_word : (j : ℕ) → j < counts.active → get_or (packets_of d words).active j 0 ≡ get_or words (a + j) 0
  active_word j l = ap (λ (ws : List ℕ). get_or ws j 0) active_is ∙ front_word a counts.active j l

  pub accepted_carried : Carried d (packets_of d words)
  accepted_carried =
      record {
        within_between_room = omega (arith, between_length, between_fits);
        within_active_room = by_test d.v (λ v. simp v (omega (arith, active_length, active_fits, in_line))) (λ v. simp v (omega (arith, active_length, none_active v)));
        between_well = between_told.ready 4
            (packets_of d words).between (between_length ∙ counted_between) (λ j l. sym (between_word j (omega (arith, between_length))));
        active_well = by_test d.v
            (λ v. (active_told v).ready a
            (packets_of d words).active (active_length ∙ counted_active v) (λ j l. sym (active_word j (omega (arith, active_length)))))
            (λ v. no_words a (packets_of d words).active (active_length ∙ none_active v));
      }

  pub accepted_fit : Fit d (content_of d words)
  accepted_fit =
      record {
        lengths = taken_measured d words;
        range = λ v j l.
            rw (taken_in_place d words j l)
            (sample_told (get_or words (a + j) 0)
            (rw (due_sample d (a + j) (omega arith) v) at (apart_well (a + j) (omega (arith, in_line)) (active_space_is d (a + j) (omega arith) ∙ v))));
        packets = accepted_carried;
      }

  -- in the spaces the words are those that are written
  between_written : (i : ℕ) → 4 ≤ i → i < sav_offset d.system → get_or words i 0 ≡ written_at d (content_of d words) i
  between_written i g l =
      by_test (ltb i (4 + counts.between))
      (λ t. let m = ltb-true i (4 + counts.between) t in
      let e : 4 + (i - 4) ≡ i = omega arith in
      let j : i - 4 < counts.between = omega arith in
      subst (λ (k : ℕ). get_or words k 0 ≡ written_at d (content_of d words) k) e
      (sym (between_stands d (content_of d words) accepted_carried (i - 4) (omega (arith, between_length)) ∙ between_word (i - 4) j)))
      (λ f. let m = ltb-false i (4 + counts.between) f in
      between_told.fill i (omega (arith, counted_between)) l
      ∙ sym (between_fill d (content_of d words) accepted_carried i (omega (arith, between_length)) l))

  active_written : d.v ≡ true → (i : ℕ) → a ≤ i → i < line_length d.system → get_or words i 0 ≡ written_at d (content_of d words) i
  active_written v i g l =
      by_test (ltb i (a + counts.active))
      (λ t. let m = ltb-true i (a + counts.active) t in
      let e : a + (i - a) ≡ i = omega arith in
      let j : i - a < counts.active = omega arith in
      subst (λ (k : ℕ). get_or words k 0 ≡ written_at d (content_of d words) k) e
      (sym (active_stands d (content_of d words) accepted_carried (i - a) (omega (arith, active_length)) ∙ active_word (i - a) j)))
      (λ f. let m = ltb-false i (a + counts.active) f in
      (active_told v).fill i (omega (arith, counted_active v)) l
      ∙ sym (active_fill d (content_of d words) accepted_carried v i (omega (arith, active_length))))

  -- ---- the line
  fourth_near : (fvh r : ℕ) → fvh < 8 → fault_where (Fourth fvh) r ≡ 0
      → (r / 512 ≡ fourth_of fvh / 512) × (distance_of (seven_of r) (seven_of (fourth_of fvh)) ≡ repairs_in (code_report_of (correction_of r)))
  fourth_near fvh r hk e =
      let b = accepted_away fvh r hk (sym (fourth_fault fvh r) ∙ e) in
      (b.0 ∙ sym (fourth_high fvh), ap (λ (q : ℕ). distance_of (seven_of r) q) (fourth_seven fvh) ∙ b.1)

  apart_near : (i : ℕ) → i < line_length d.system → in_space d i ≡ false
      → Near (due_at d i) (cond (ltb i 4) (repairs_at words 3) (repairs_at words (sav_offset d.system + 3))) (bare_at d (samples_of d words) i) (get_or words i 0)
  apart_near i l outside =
      let r : ℕ = get_or words i 0 in
      let e = repairs_at words 3 in
      let s = repairs_at words (sav_offset d.system + 3) in
      by_apart d (λ x. fault_where x r ≡ 0 → Near x (cond (ltb i 4) e s) (word_where x (sample_at (samples_of d words) (i - a))) r) i outside
      (λ n. let k = ones_told r n in omega arith) (λ n. let k = zeros_told r n in omega arith)
      (λ q n. rw q (fourth_near (flags_of d true) (get_or words 3 0) (flags_low d true) (rw q at n)))
      (λ q n. let past : 4 ≤ sav_offset d.system + 3 = omega (arith, sav_low d.system) in
      rw q (simp (le-ltb _ _ past) (fourth_near (flags_of d false) (get_or words (sav_offset d.system + 3) 0) (flags_low d false) (rw q at n))))
      (λ v g n.
      let back : a + (i - a) ≡ i = omega arith in
      sym (taken_in_place d words (i - a) (omega (arith, in_line)) ∙ ap (λ (k : ℕ). get_or words k 0) back))
      (apart_well i l outside)

  pub accepted_image : Damaged d (line_of d (content_of d words)) words (repairs_at words 3) (repairs_at words (sav_offset d.system + 3))
  accepted_image =
      written_near d (content_of d words) words _ _ size
      (λ i l.
      let n = cond (ltb i 4) (repairs_at words 3) (repairs_at words (sav_offset d.system + 3)) in
      let elsewhere : in_space d i ≡ false → Near (due_at d i) n (written_at d (content_of d words) i) (get_or words i 0) = λ outside.
      subst (λ (w : ℕ). Near (due_at d i) n w (get_or words i 0)) (sym (written_apart d (content_of d words) accepted_carried i outside)) (apart_near i l outside) in
      by_part d (Near (due_at d i) n (written_at d (content_of d words) i) (get_or words i 0)) i
      (λ m. elsewhere (eav_apart d i m))
      (λ g m. same_near d i n _ _ (due_space d i g m) (between_written i g m))
      (λ g m. elsewhere (sav_apart d i g m))
      (λ g. by_test d.v
      (λ v. same_near d i n _ _ (due_blank d i g v) (active_written v i g l))
      (λ v. elsewhere (active_space_is d i g ∙ v))))

-- ---- Damage of every kind is damage: any of the seven bits of each code, any low bits.
mask_counted : ℕ → ℕ → Bool
mask_counted fvh mask =
    both (ltb (bit_xor (legal_of fvh) mask) 128) (eqb (distance_of (bit_xor (legal_of fvh) mask) (legal_of fvh)) (ones mask))

mask_counted_all : T (every 8 (λ fvh. every 128 (mask_counted fvh)))
unfolding mask_counted legal_of distance_of ones_in ones
mask_counted_all = tt

module _ (fvh mask low : ℕ) (hk : fvh < 8) (hm : mask < 128) (hl : low < 4) where
  told : T (both (ltb (bit_xor (legal_of fvh) mask) 128) (eqb (distance_of (bit_xor (legal_of fvh) mask) (legal_of fvh)) (ones mask)))
  unfolding mask_counted
  told = lift2 8 128 mask_counted mask_counted_all fvh mask hk hm

  struck_fourth : ((512 + 4 * bit_xor (seven_of (fourth_of fvh)) mask + low) / 512 ≡ fourth_of fvh / 512)
      × (distance_of (seven_of (512 + 4 * bit_xor (seven_of (fourth_of fvh)) mask + low)) (seven_of (fourth_of fvh)) ≡ ones mask)
  struck_fourth =
      let small = ltb→lt (bit_xor (legal_of fvh) mask) 128 (both_left (ltb (bit_xor (legal_of fvh) mask) 128) _ told) in
      let high : (512 + 4 * bit_xor (legal_of fvh) mask + low) / 512 ≡ 1 = omega arith in
      let back : seven_of (512 + 4 * bit_xor (legal_of fvh) mask + low) ≡ bit_xor (legal_of fvh) mask = omega arith in
      rw (fourth_seven fvh, fourth_high fvh) (
        high,
        ap (λ (q : ℕ). distance_of q (legal_of fvh)) back
            ∙ eqb→eq _ _ (both_right (ltb (bit_xor (legal_of fvh) mask) 128) _ told),
      )

-- what is written in a timing word, and elsewhere, struck
module _ (d : Due) (c : Content) (k : Carried d c.packets) where
  -- to show something of each written word by what its offset says to be due
  by_written : (P : What → ℕ → Type 0) (i : ℕ)
      → (in_space d i ≡ false → P (due_at d i) (bare_at d c.samples i))
      → ((w : ℕ) → P (Fill d.fill.even) w) → ((w : ℕ) → P (Fill d.fill.odd) w)
      → P (due_at d i) (written_at d c i)
  by_written P i outside even odd =
      let elsewhere : in_space d i ≡ false → P (due_at d i) (written_at d c i) = λ f.
      subst (P (due_at d i)) (sym (written_apart d c k i f)) (outside f) in
      let filled : due_at d i ≡ fill_at d.fill i → P (due_at d i) (written_at d c i) = λ e.
      subst (λ (x : What). P x (written_at d c i)) (sym e)
      (by_cond (λ (x : What). P x (written_at d c i)) (eqb (i % 2) 0) (Fill d.fill.even) (Fill d.fill.odd) (λ t. even _) (λ t. odd _)) in
      by_part d (P (due_at d i) (written_at d c i)) i
      (λ l. elsewhere (eav_apart d i l)) (λ g l. filled (due_space d i g l)) (λ g l. elsewhere (sav_apart d i g l))
      (λ g. by_test d.v (λ v. filled (due_blank d i g v)) (λ v. elsewhere (active_space_is d i g ∙ v)))

  pub every_kind_of_damage : (eav sav : ℕ) (low : ℕ → ℕ) → eav < 128 → sav < 128 → ((i : ℕ) → low i < 4)
      → Damaged d (line_of d c) (struck d eav sav low (line_of d c)) (ones eav) (ones sav)
  unfolding struck
  every_kind_of_damage eav sav low he hs hl =
      let strike : ℕ → ℕ = λ i. struck_where (due_at d i) (cond (ltb i 4) eav sav) (low i) (get_or (line_of d c) i 0) in
      written_near d c (struck d eav sav low (line_of d c)) (ones eav) (ones sav) (length_tab strike (length (line_of d c)) ∙ line_length_is d c)
      (λ i l.
      rw (get_d_tab strike (length (line_of d c)) i (omega (arith, line_length_is d c)), line_word d c i l)
      (by_written (λ x w. Near x (cond (ltb i 4) (ones eav) (ones sav)) w (struck_where x (cond (ltb i 4) eav sav) (low i) w)) i
      (λ outside.
      by_apart d (λ x. Near x (cond (ltb i 4) (ones eav) (ones sav)) (word_where x (sample_at c.samples (i - active_offset d.system)))
      (struck_where x (cond (ltb i 4) eav sav) (low i) (word_where x (sample_at c.samples (i - active_offset d.system))))) i outside
      (let h = hl i in omega arith) (let h = hl i in omega arith)
      (λ q. rw q (struck_fourth (flags_of d true) eav (low 3) (flags_low d true) he (hl 3)))
      (λ q. let past : 4 ≤ sav_offset d.system + 3 = omega (arith, sav_low d.system) in
      rw q (simp (le-ltb _ _ past) (struck_fourth (flags_of d false) sav (low (sav_offset d.system + 3)) (flags_low d false) hs (hl _))))
      (λ v g. refl))
      (λ w. refl) (λ w. refl)))

-- ---- A written line is itself with nothing inverted.
none_away : (fvh : ℕ) → fvh < 8 → distance_of (seven_of (fourth_of fvh)) (seven_of (fourth_of fvh)) ≡ 0
unfolding fourth_of distance_of
none_away fvh h = eqb→eq _ _ (lift 8 (λ fvh. eqb (distance_of (seven_of (fourth_of fvh)) (seven_of (fourth_of fvh))) 0) tt fvh h)

pub undamaged : (d : Due) (c : Content) → Carried d c.packets → Damaged d (line_of d c) (line_of d c) 0 0
undamaged d c k =
    written_near d c (line_of d c) 0 0 (line_length_is d c)
    (λ i l.
    let n : ◌≡◌ {A = ℕ} (cond (ltb i 4) 0 0) 0 = by_cond (λ (k : ℕ). k ≡ 0) (ltb i 4) 0 0 (λ e. refl) (λ e. refl) in
    rw (n, line_word d c i l)
    (by_written d c k (λ x w. Near x 0 w w) i
    (λ outside.
    by_apart d (λ x. Near x 0 (word_where x (sample_at c.samples (i - active_offset d.system))) (word_where x (sample_at c.samples (i - active_offset d.system)))) i outside
    refl refl (λ q. (refl, none_away (flags_of d true) (flags_low d true))) (λ q. (refl, none_away (flags_of d false) (flags_low d false)))
    (λ v g. refl))
    (λ w. refl) (λ w. refl)))
