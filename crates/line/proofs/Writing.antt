-- The line that is written of what it carries: its words in and outside the spaces, and what its spaces answer. Assumes nothing.
use Prim.Native.Nat.{ℕ, ◌+◌, ◌-◌, ◌%◌, ◌<◌, ◌≤◌}
use mathlib.Core.Path.{◌≡◌, sym, ap, ◌∙◌}
use mathlib.Core.List.{List}
use mathlib.Core.Bool.{true, false, cond, ◌&&◌, true≢false}
use native.Mathlib.Omega.{arith}
use lib.Dec.{ltb, leb, eqb}
use lib.ListN.{length, get_or}
use borrow.Author.Tests.{lt-ltb, le-ltb, le-leb, lt-leb, ltb-true, ltb-false}
use Rattle.refusal.proofs.Cases.{by_test}
use Rattle.packets.specs.Packet.{fill_word, Stands}
use Rattle.system.specs.declared.due.Due.{Due}
use Rattle.words.specs.declared.FillWords.{FillWords}
use Rattle.system.specs.Figures.{line_length, sav_offset, active_offset}
use Rattle.system.proofs.Laws.{line_is_parts, sav_low}
use Rattle.words.proofs.Tabs.{length_tab, get_d_tab}
use Rattle.line.specs.Offsets.{fill_at}
use Rattle.line.specs.Fault.{between_offset, in_space, between_space, active_space}
use Rattle.line.specs.Samples.{Content, word_where, bare_at, laid_at, written_at, line_of}
use Rattle.line.specs.Fit.{Carried}
use Rattle.line.specs.Parts.{Proper}
use Rattle.line.proofs.Dues.{due_space, due_blank}
use Rattle.line.proofs.Spaces.{by_part, between_space_is, active_space_is}
use Rattle.packets.proofs.Ready.{ready_reads}

-- ---- words laid over others
module _ (ready : List ℕ) (from : ℕ) (under : ℕ → ℕ) where
  pub laid_below : (i : ℕ) → i < from → laid_at ready from under i ≡ under i
  laid_below i l = simp (lt-leb _ _ l)

  pub laid_there : (j : ℕ) → j < length ready → laid_at ready from under (from + j) ≡ get_or ready j 0
  laid_there j l =
      let past : from ≤ from + j = omega arith in
      let inside : from + j < from + length ready = omega arith in
      let e : from + j - from ≡ j = omega arith in
      simp (le-leb _ _ past, lt-ltb _ _ inside, e)

  pub laid_behind : (i : ℕ) → from + length ready ≤ i → laid_at ready from under i ≡ under i
  laid_behind i l =
      let past : from ≤ i = omega arith in
      simp (le-leb _ _ past, le-ltb _ _ l)

-- fill is the same word, told in either way
fill_word_is : (fill : FillWords) (i sample : ℕ) → word_where (fill_at fill i) sample ≡ fill_word fill.even fill.odd i
fill_word_is fill i sample = by_test (eqb (i % 2) 0) (λ t. simp t) (λ f. simp f)

-- ---- a written line's length and words
module _ (d : Due) (c : Content) where
  pub line_length_is : length (line_of d c) ≡ line_length d.system
  unfolding line_of
  line_length_is = length_tab (written_at d c) (line_length d.system)

  pub line_word : (i : ℕ) → i < line_length d.system → get_or (line_of d c) i 0 ≡ written_at d c i
  unfolding line_of
  line_word i l = get_d_tab (written_at d c) (line_length d.system) i l

  -- below the active part only the packets of the space between are laid
  below_active : (i : ℕ) → i < active_offset d.system
      → written_at d c i ≡ laid_at c.packets.between between_offset (bare_at d c.samples) i
  below_active i l = laid_below c.packets.active (active_offset d.system) (laid_at c.packets.between between_offset (bare_at d c.samples)) i l

  module _ (k : Carried d c.packets) where
    -- from SAV on those of the active part
    past_sav : (i : ℕ) → sav_offset d.system ≤ i
        → written_at d c i ≡ laid_at c.packets.active (active_offset d.system) (bare_at d c.samples) i
    past_sav i l =
        by_test (ltb i (active_offset d.system))
        (λ t. let m = ltb-true i (active_offset d.system) t in
        below_active i m ∙ laid_behind c.packets.between between_offset (bare_at d c.samples) i (omega (arith, k.within_between_room))
        ∙ sym (laid_below c.packets.active (active_offset d.system) (bare_at d c.samples) i m))
        (λ f. let m = ltb-false i (active_offset d.system) f in
        ap (λ (under : ℕ). cond (leb (active_offset d.system) i && ltb i (active_offset d.system + length c.packets.active))
        (get_or c.packets.active (i - active_offset d.system) 0) under)
        (laid_behind c.packets.between between_offset (bare_at d c.samples) i (omega (arith, k.within_between_room))))

    -- where V is 0 no packets are laid over samples
    pub no_active : d.v ≡ false → length c.packets.active ≡ 0
    no_active v = let room = rw v at k.within_active_room in omega arith

    -- outside the spaces the line is that without packets
    pub written_apart : (i : ℕ) → in_space d i ≡ false → written_at d c i ≡ bare_at d c.samples i
    written_apart i outside =
        by_part d (written_at d c i ≡ bare_at d c.samples i) i
        (λ l. below_active i (omega (arith, sav_low d.system)) ∙ laid_below c.packets.between between_offset (bare_at d c.samples) i l)
        (λ g l. absurd (true≢false (sym (between_space_is d i g l) ∙ outside)))
        (λ g l. past_sav i g ∙ laid_below c.packets.active (active_offset d.system) (bare_at d c.samples) i l)
        (λ g. past_sav i (omega arith)
        ∙ laid_behind c.packets.active (active_offset d.system) (bare_at d c.samples) i
        (omega (arith, no_active (sym (active_space_is d i g) ∙ outside))))

    -- in the space between its packets stand, and fill behind them
    pub between_stands : Stands (written_at d c) between_offset c.packets.between
    between_stands j l =
        below_active (between_offset + j) (omega (arith, k.within_between_room))
        ∙ laid_there c.packets.between between_offset (bare_at d c.samples) j l

    pub between_fill : (i : ℕ) → between_offset + length c.packets.between ≤ i → i < sav_offset d.system
        → written_at d c i ≡ fill_word d.fill.even d.fill.odd i
    between_fill i g l =
        below_active i (omega arith) ∙ laid_behind c.packets.between between_offset (bare_at d c.samples) i g
        ∙ rw (due_space d i (omega arith) l) (fill_word_is d.fill i _)

    -- and in the active part, where V is 1
    pub active_stands : Stands (written_at d c) (active_offset d.system) c.packets.active
    active_stands j l =
        past_sav (active_offset d.system + j) (omega arith)
        ∙ laid_there c.packets.active (active_offset d.system) (bare_at d c.samples) j l

    pub active_fill : d.v ≡ true → (i : ℕ) → active_offset d.system + length c.packets.active ≤ i
        → written_at d c i ≡ fill_word d.fill.even d.fill.odd i
    active_fill v i g =
        past_sav i (omega arith) ∙ laid_behind c.packets.active (active_offset d.system) (bare_at d c.samples) i g
        ∙ rw (due_blank d i (omega arith) v) (fill_word_is d.fill i _)

    -- The spaces of a line that has the written words there answer those packets, without a fault.
    module _ (ok : Proper d.fill) (word : ℕ → ℕ) where
      pub between_answers : ((i : ℕ) → between_offset ≤ i → i < sav_offset d.system → word i ≡ written_at d c i)
          → between_space d word ≡ record { number = 0; place = 0; packets = length c.packets.between }
      between_answers same =
          ready_reads between_offset c.packets.between k.between_well word between_offset (sav_offset d.system) d.fill.even d.fill.odd
          ok.even ok.odd k.within_between_room
          (λ j l. same (between_offset + j) (omega arith) (omega (arith, k.within_between_room)) ∙ between_stands j l)
          (λ i g l. same i (omega arith) l ∙ between_fill i g l)

      pub active_answers : d.v ≡ true → ((i : ℕ) → active_offset d.system ≤ i → i < line_length d.system → word i ≡ written_at d c i)
          → active_space d word ≡ record { number = 0; place = 0; packets = length c.packets.active }
      active_answers v same =
          let room = rw v at k.within_active_room in
          let whole = line_is_parts d.system in
          ready_reads (active_offset d.system) c.packets.active k.active_well word (active_offset d.system) (line_length d.system)
          d.fill.even d.fill.odd ok.even ok.odd (omega arith)
          (λ j l. same (active_offset d.system + j) (omega arith) (omega arith) ∙ active_stands j l)
          (λ i g l. same i (omega arith) l ∙ active_fill v i g)
