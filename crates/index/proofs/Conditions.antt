-- The conditions of 19 and 20 are what the tests say. Assumes nothing.
use Prim.Native.Nat.{ℕ, zero, suc, ◌+◌, ◌*◌, ◌<◌, ◌≤◌}
use mathlib.Core.Path.{◌≡◌, refl}
use mathlib.Core.List.{List, [], ◌∷◌}
use mathlib.Core.Bool.{true, ◌&&◌}
use mathlib.Core.Logic.{◌⊎◌}
use native.Mathlib.Omega.{arith}
use lib.ListN.{length}
use lib.Dec.{eqb, ltb, leb}
use borrow.Author.Tests.{eq-eqb, eqb-true, lt-ltb, ltb-true, le-leb, leb-true}
use Rattle.refusal.proofs.Cases.{and_true}
use Rattle.system.specs.Walk.{most_lines}
use Rattle.index.specs.declared.entry.Entry.{Entry}
use Rattle.index.specs.Entries.{entry_length, entries_of, entries_well}
use Rattle.index.specs.Parts.{trailer_length, offset_in, entries_in, lines_in, parts_fit, in_range, sound}
use Rattle.index.specs.Refusals.{Fits, ordinal_at, repairs_at, Rises, Sound, Within}
use Rattle.index.proofs.Entries.{Well, well, well_back}

-- ---- The range.
pub range_within : (lines a b : ℕ) → in_range lines a b ≡ true → Within lines a b
unfolding in_range
range_within lines a b h =
    let both = and_true (leb a b) (ltb b lines) h in
    record { order = leb-true _ _ both.0; last = ltb-true _ _ both.1 }

pub within_range : (lines a b : ℕ) → Within lines a b → in_range lines a b ≡ true
unfolding in_range
within_range lines a b w = simp (le-leb _ _ w.order, lt-ltb _ _ w.last)

-- ---- The conditions are what the tests say.
fits_tests : (size : ℕ) (t index : List ℕ) (file : ℕ) → Fits size t index file → parts_fit size t index file ≡ true
unfolding parts_fit
fits_tests size t index file f =
    simp (eq-eqb _ _ f.trailer, le-leb _ _ f.few, eq-eqb _ _ f.offset, eq-eqb _ _ f.entries, eq-eqb _ _ f.whole)

tests_fit : (size : ℕ) (t index : List ℕ) (file : ℕ) → parts_fit size t index file ≡ true → Fits size t index file
unfolding parts_fit
tests_fit size t index file h =
    let a = eqb (length t) trailer_length in
    let b = leb (lines_in t) most_lines in
    let c = eqb (offset_in t) (lines_in t * size) in
    let d = eqb (length index) (entry_length * entries_in t) in
    let e = eqb (offset_in t + length index + trailer_length) file in
    let abcd = and_true (a && b && c && d) e h in
    let abc = and_true (a && b && c) d abcd.0 in
    let ab = and_true (a && b) c abc.0 in
    let one = and_true a b ab.0 in
    record {
      trailer = eqb-true _ _ one.0;
      few = leb-true _ _ one.1;
      offset = eqb-true _ _ ab.1;
      entries = eqb-true _ _ abc.1;
      whole = eqb-true _ _ abcd.1;
    }

well_low : (es : List Entry) (least lines : ℕ) → entries_well least lines es ≡ true → (j : ℕ) → j < length es → least ≤ ordinal_at es j
well_low [] least lines h j l = absurd (omega arith)
well_low (e ∷ es) least lines h zero l = (well least lines e es h).low
well_low (e ∷ es) least lines h (suc j) l =
    let w = well least lines e es h in
    omega (arith, w.low, well_low es (suc e.ordinal) lines w.rest j (omega arith))

pub well_rises : (es : List Entry) (least lines : ℕ) → entries_well least lines es ≡ true → Rises lines es
well_rises [] least lines h =
    record { rising = λ j l. absurd (omega arith); below = λ j l. absurd (omega arith); repairs = λ j l. absurd (omega arith) }
well_rises (e ∷ es) least lines h =
    let w = well least lines e es h in
    let r = well_rises es (suc e.ordinal) lines w.rest in
    record { rising = rising w r; below = below w r; repairs = repairs w r }
  where
    rising : Well least lines e es → Rises lines es → (j : ℕ) → suc j < suc (length es) → ordinal_at (e ∷ es) j < ordinal_at es j
    rising w r zero l = well_low es (suc e.ordinal) lines w.rest 0 (omega arith)
    rising w r (suc j) l = r.rising j (omega arith)

    below : Well least lines e es → Rises lines es → (j : ℕ) → j < suc (length es) → ordinal_at (e ∷ es) j < lines
    below w r zero l = w.high
    below w r (suc j) l = r.below j (omega arith)

    repairs : Well least lines e es → Rises lines es → (j : ℕ) → j < suc (length es)
        → (repairs_at (e ∷ es) j ≡ 1) ⊎ (repairs_at (e ∷ es) j ≡ 2)
    repairs w r zero l = w.repairs
    repairs w r (suc j) l = r.repairs j (omega arith)

pub rises_well : (es : List Entry) (least lines : ℕ) → (1 ≤ length es → least ≤ ordinal_at es 0) → Rises lines es → entries_well least lines es ≡ true
unfolding entries_well
rises_well [] least lines low r = refl
rises_well (e ∷ es) least lines low r =
    well_back least lines e es
    (record {
      low = low (omega arith);
      high = r.below 0 (omega arith);
      repairs = r.repairs 0 (omega arith);
      rest =
          rises_well es (suc e.ordinal) lines (λ l. r.rising 0 (omega arith))
          (record {
            rising = λ j l. r.rising (suc j) (omega arith);
            below = λ j l. r.below (suc j) (omega arith);
            repairs = λ j l. r.repairs (suc j) (omega arith);
          });
    })

module _ (size : ℕ) (t index : List ℕ) (file : ℕ) where
  pub sound_conditions : sound size t index file ≡ true → Sound size t index file
  unfolding sound
  sound_conditions h =
      let both = and_true (parts_fit size t index file) (entries_well 0 (lines_in t) (entries_of index)) h in
      record { fits = tests_fit size t index file both.0; rises = well_rises (entries_of index) 0 (lines_in t) both.1 }

  pub conditions_sound : Sound size t index file → sound size t index file ≡ true
  unfolding sound
  conditions_sound s =
      simp (fits_tests size t index file s.fits, rises_well (entries_of index) 0 (lines_in t) (λ l. omega arith) s.rises)
