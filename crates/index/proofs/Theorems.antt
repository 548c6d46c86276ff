-- The promises on an index and a trailer, of the definitions that the calls' contracts cite. Assumes nothing.
use Prim.Native.Nat.{ℕ, ◌+◌, ◌*◌, ◌^◌, ◌<◌, ◌≤◌}
use mathlib.Core.Path.{◌≡◌, refl, sym, ap, ap₂, subst, ◌∙◌}
use mathlib.Core.List.{List, [], ◌++◌, flatten}
use mathlib.Core.Bool.{Bool, true, false, not, true≢false}
use native.Mathlib.Omega.{arith}
use native.Mathlib.Nat.{mul-le-mul, lt_of_le_of_lt}
use lib.ListN.{length, get_or}
use lib.Dec.{lit<}
use borrow.Author.Tests.{eq-eqb, ne_eqb}
use Rattle.refusal.specs.declared.Refusal.{Refusal}
use Rattle.refusal.specs.Numbers.{wrong_length, bad_parts, bad_range}
use Rattle.refusal.specs.Answer.{none, refuse, or_else}
use Rattle.refusal.specs.Table.{when, Decides, Keeps}
use Rattle.refusal.proofs.Cases.{by_test, not_true, not_false}
use Rattle.refusal.proofs.Firsts.{or_else_accepted, or_else_none, not_made}
use Rattle.refusal.proofs.Tables.{keeps_when, keeps_unequal, keeps_before, decides_when, decides_before}
use Rattle.words.specs.Bytes.{number_bytes}
use Rattle.system.specs.declared.System.TheVariants.{Lines625}
use Rattle.system.specs.Figures.{line_length, system_of}
use Rattle.system.specs.Walk.{most_lines, named_refusal}
use Rattle.system.specs.Refusals.{named_refusals}
use Rattle.system.proofs.Laws.{longest}
use Rattle.system.proofs.Theorems.{named_exact, named_decides}
use Rattle.index.specs.declared.entry.Entry.{Entry}
use Rattle.index.specs.declared.trailer.Trailer.{Trailer}
use Rattle.index.specs.Entries.{entry_length, entry_of, entry_bytes, index_of, index_bytes, entries_of, none_within, clean, repairs_from, Repairs, Bytes}
use Rattle.index.specs.Parts.{trailer_length, trailer_bytes, offset_in, entries_in, lines_in, trailer_of, line_size, index_part, trailer_part, in_range, sound, parts_refusal, range_refusal, asked_by, answer_of, room_refusal, entry_after, trailer_after}
use Rattle.index.specs.Asking.{begun_of, fed_of, refusal_of, closed_of, fed_all}
use Rattle.index.specs.Refusals.{Fits, Rises, Sound, Within, IndexOf, parts_refusals, ask_refusals, room_refusals}
use Rattle.index.proofs.Numbers.{number_past, number_first}
use Rattle.index.proofs.Entries.{entry_back, entries_back, index_length, bytes_back, index_well, index_small, index_count, index_clean, clean_each, clean_all, repairs_back, told}
use Rattle.index.proofs.Questions.{fed_pieces}
use Rattle.index.proofs.Answers.{parts_sound, refusal_whole, steps_whole}
use Rattle.index.proofs.Conditions.{range_within, within_range, well_rises, rises_well, sound_conditions, conditions_sound}

module _ (system start : ℕ) (t index : List ℕ) (file : ℕ) where
  -- ---- 1, 2 and 19 exactly when their conditions hold and none earlier does, and that leaves one answer only.
  abbrev Unsound : Type 0
  Unsound = Sound (line_size system) t index file → ⊥

  unsound : not (sound (line_size system) t index file) ≡ true → Unsound
  unsound e s = true≢false (sym (conditions_sound _ _ _ _ s) ∙ not_true _ e)

  unsound_back : Unsound → not (sound (line_size system) t index file) ≡ true
  unsound_back n =
      by_test (sound (line_size system) t index file) (λ s. absurd (n (sound_conditions _ _ _ _ s))) (λ f. ap not f)

  pub parts_exact : Keeps (parts_refusals system start t index file) (parts_refusal system start t index file)
  unfolding parts_refusal
  parts_exact =
      keeps_before (named_refusals system start) (when Unsound bad_parts 0) (named_refusal system start)
      (refuse (not (sound (line_size system) t index file)) bad_parts 0) (named_exact system start)
      (keeps_when (not (sound (line_size system) t index file)) Unsound bad_parts 0 unsound unsound_back (λ z. omega arith))

  pub parts_decide : Decides (parts_refusals system start t index file)
  parts_decide = decides_before _ _ (named_decides system start) (decides_when Unsound bad_parts 0)

  -- ---- and then 20.
  module _ (a b : ℕ) where
    abbrev Outside : Type 0
    Outside = Within (lines_in t) a b → ⊥

    outside : not (in_range (lines_in t) a b) ≡ true → Outside
    outside e w = true≢false (sym (within_range _ _ _ w) ∙ not_true _ e)

    outside_back : Outside → not (in_range (lines_in t) a b) ≡ true
    outside_back n = by_test (in_range (lines_in t) a b) (λ s. absurd (n (range_within _ _ _ s))) (λ f. ap not f)

    pub ask_exact : Keeps (ask_refusals system start t index file a b)
        (record { number = (answer_of system start t index file a b).number; place = (answer_of system start t index file a b).place })
    unfolding answer_of
    ask_exact =
        keeps_before (parts_refusals system start t index file) (when Outside bad_range 0) (parts_refusal system start t index file)
        (range_refusal (lines_in t) a b) parts_exact
        (keeps_when (not (in_range (lines_in t) a b)) Outside bad_range 0 outside outside_back (λ z. omega arith))

    pub ask_decides : Decides (ask_refusals system start t index file a b)
    ask_decides = decides_before _ _ parts_decide (decides_when Outside bad_range 0)

    -- ---- For every cutting of the index, the steps answer and refuse as the whole call does.
    module _ (pieces : List (List ℕ)) (whole : flatten pieces ≡ index) where
      all_fed : fed_all (begun_of system start t file a b) pieces ≡ fed_of (begun_of system start t file a b) index
      all_fed = fed_pieces (begun_of system start t file a b) pieces ∙ ap (fed_of (begun_of system start t file a b)) whole

      pub any_pieces : closed_of (fed_all (begun_of system start t file a b) pieces) ≡ answer_of system start t index file a b
      any_pieces = ap closed_of all_fed ∙ steps_whole system start t index file a b

      pub any_pieces_refusal : refusal_of (fed_all (begun_of system start t file a b) pieces) ≡ parts_refusal system start t index file
      any_pieces_refusal = ap refusal_of all_fed ∙ refusal_whole system start t index file a b

    -- ---- Nothing is ever answered from parts that do not fit.
    pub unfit_unanswered : ((answer_of system start t index file a b).number ≡ 0 → Sound (line_size system) t index file × Within (lines_in t) a b)
        × (((answer_of system start t index file a b).number ≡ 0 → ⊥) → (answer_of system start t index file a b).clean ≡ false)
    unfolding answer_of
    unfit_unanswered = (fit, λ n. simp (ne_eqb _ _ n))
      where
        fit : (or_else (parts_refusal system start t index file) (range_refusal (lines_in t) a b)).number ≡ 0
            → Sound (line_size system) t index file × Within (lines_in t) a b
        fit z =
            let both = or_else_none (parts_refusal system start t index file) (range_refusal (lines_in t) a b) z in (
              sound_conditions _ _ _ _ (parts_sound system start t index file a b both.0),
              range_within _ _ _ (not_false _ (not_made (not (in_range (lines_in t) a b)) bad_range 0 (λ y. omega arith) both.1)),
            )

  -- ---- Parts that are not refused.
  module _ (named : named_refusal system start ≡ none) (fit : Sound (line_size system) t index file) where
    pub sound_accepted : parts_refusal system start t index file ≡ none
    unfolding parts_refusal
    sound_accepted =
        ap₂ or_else named (ap (λ (s : Bool). refuse (not s) bad_parts 0) (conditions_sound _ _ _ _ fit)) ∙ or_else_accepted none none refl

    answered_with : (a b : ℕ) (r : Refusal) → range_refusal (lines_in t) a b ≡ r
        → answer_of system start t index file a b ≡ asked_by r (none_within a b (entries_of index))
    unfolding answer_of
    answered_with a b r e =
        ap (λ (s : Refusal). asked_by s (none_within a b (entries_of index))) (ap₂ or_else sound_accepted e ∙ or_else_accepted none r refl)

    -- number 0, and clean where no entry is among the lines asked for
    pub answered : (a b : ℕ) → Within (lines_in t) a b
        → answer_of system start t index file a b ≡ record { number = 0; place = 0; clean = none_within a b (entries_of index) }
    answered a b w = answered_with a b none (ap (λ (s : Bool). refuse (not s) bad_range 0) (within_range _ _ _ w))

    -- 20 for lines that the file has not
    pub range_refused : (a b : ℕ) → (Within (lines_in t) a b → ⊥)
        → answer_of system start t index file a b ≡ record { number = bad_range; place = 0; clean = false }
    range_refused a b n =
        answered_with a b (record { number = bad_range; place = 0 }) (ap (λ (s : Bool). refuse s bad_range 0) (outside_back a b n))

    -- "given that all lines are accepted and the index is theirs": clean is what reading every line says
    pub theirs_answered : (rs : List ℕ) (a b : ℕ) → IndexOf index (lines_in t) rs → Within (lines_in t) a b
        → answer_of system start t index file a b ≡ record { number = 0; place = 0; clean = clean a b rs }
    theirs_answered rs a b i w =
        let few = fit.fits.few in
        let n = i.count in
        answered a b w
        ∙ ap (λ (c : Bool). record { number = 0; place = 0; clean = c })
        (ap (λ (x : List ℕ). none_within a b (entries_of x)) (sym i.same)
        ∙ ap (none_within a b) (entries_back (index_of rs) (index_small rs 0 i.each (omega arith))) ∙ index_clean a b rs 0)

-- The answer from reading every line: every line of a to b has no repairs.
pub clean_every : (a b : ℕ) (rs : List ℕ)
    → (clean a b rs ≡ true → (k : ℕ) → a ≤ k → k ≤ b → get_or rs k 0 ≡ 0)
    × (((k : ℕ) → a ≤ k → k ≤ b → get_or rs k 0 ≡ 0) → clean a b rs ≡ true)
clean_every a b rs =
    (λ c k l m. clean_each a b rs 0 k c (omega arith) (omega arith), λ h. clean_all a b rs 0 (λ k l m. h k (omega arith) (omega arith)))

-- ---- A trailer's bytes tell it.
module _ (t : Trailer) where
  pub trailer_length_is : length (trailer_bytes t) ≡ trailer_length
  unfolding trailer_bytes number_bytes
  trailer_length_is = refl

  pub trailer_offset : t.offset < 256 ^ 8 → offset_in (trailer_bytes t) ≡ t.offset
  unfolding trailer_bytes
  trailer_offset l = number_first 8 t.offset (number_bytes 4 t.entries ++ number_bytes 4 t.lines) l

  pub trailer_entries : t.entries < 256 ^ 4 → entries_in (trailer_bytes t) ≡ t.entries
  unfolding trailer_bytes number_bytes
  trailer_entries l =
      number_past (number_bytes 8 t.offset) (number_bytes 4 t.entries ++ number_bytes 4 t.lines) 4
      ∙ number_first 4 t.entries (number_bytes 4 t.lines) l

  pub trailer_lines : t.lines < 256 ^ 4 → lines_in (trailer_bytes t) ≡ t.lines
  unfolding trailer_bytes number_bytes
  trailer_lines l =
      number_past (number_bytes 8 t.offset ++ number_bytes 4 t.entries) (number_bytes 4 t.lines) 4 ∙ number_first 4 t.lines [] l

  pub trailer_back : t.offset < 256 ^ 8 → t.entries < 256 ^ 4 → t.lines < 256 ^ 4 → trailer_of (trailer_bytes t) ≡ t
  unfolding trailer_of
  trailer_back o e l = simp (eq-eqb _ _ trailer_length_is, trailer_offset o, trailer_entries e, trailer_lines l)

-- An entry's bytes tell it.
pub entry_of_put : (e : Entry) → e.ordinal < 256 ^ 4 → e.repairs < 65536 → entry_of (entry_bytes e) ≡ e
entry_of_put e o r = entry_back e (record { ordinal = o; repairs = r })

-- ---- The parts that are made of any list of repairs are sound.
-- no line is longer than the longer system's: the offset fits its eight bytes
pub offset_fits : (size lines : ℕ) → size ≤ 2 * line_length Lines625 → lines ≤ most_lines → lines * size < 256 ^ 8
offset_fits size lines l m = lt_of_le_of_lt (mul-le-mul m l) (lit< tt)

pub system_fits : (system lines : ℕ) → lines ≤ most_lines → lines * line_size system < 256 ^ 8
system_fits system lines m = offset_fits (line_size system) lines (omega (arith, longest (system_of system))) m

module _ (size : ℕ) (rs : List ℕ) (each : Repairs rs) (few : length rs ≤ most_lines) (fit : length rs * size < 256 ^ 8) where
  abbrev Made : Trailer
  Made = record { offset = length rs * size; entries = length (index_of rs); lines = length rs }

  pub made_lines : lines_in (trailer_part size rs) ≡ length rs
  made_lines = trailer_lines Made (omega arith)

  pub made_entries : entries_of (index_part rs) ≡ index_of rs
  made_entries = entries_back (index_of rs) (index_small rs 0 each (omega arith))

  made_fits : Fits size (trailer_part size rs) (index_part rs) (length rs * size + length (index_part rs) + trailer_length)
  made_fits =
      let offset = trailer_offset Made fit in
      let entries = trailer_entries Made (omega (arith, index_count rs 0)) in
      record {
        trailer = trailer_length_is Made;
        few = rw made_lines few;
        offset = offset ∙ ap (λ (n : ℕ). n * size) (sym made_lines);
        entries = index_length (index_of rs) ∙ ap (λ (n : ℕ). entry_length * n) (sym entries);
        whole = ap (λ (n : ℕ). n + length (index_part rs) + trailer_length) offset;
      }

  pub made_sound : Sound size (trailer_part size rs) (index_part rs) (length rs * size + length (index_part rs) + trailer_length)
  made_sound =
      record {
        fits = made_fits;
        rises =
            subst (λ (n : ℕ). Rises n (entries_of (index_part rs))) (sym made_lines)
            (subst (λ (es : List Entry). Rises (length rs) es) (sym made_entries)
            (well_rises (index_of rs) 0 (length rs) (index_well rs 0 0 (length rs) each (omega arith) (omega arith))));
      }

  -- and their index is that of those repairs
  pub made_index : IndexOf (index_part rs) (lines_in (trailer_part size rs)) rs
  made_index = record { each = each; count = sym made_lines; same = refl }

-- ---- An index that 19 does not refuse is the index of exactly one list of repairs.
pub record OneList (index : List ℕ) (lines : ℕ) : Type 0 where
  pub list : List ℕ
  pub holds : IndexOf index lines list
  pub only : (rs : List ℕ) → IndexOf index lines rs → rs ≡ list

pub one_list : (size : ℕ) (t index : List ℕ) (file : ℕ) → Bytes index → Sound size t index file → OneList index (lines_in t)
one_list size t index file bytes s =
    let few = s.fits.few in
    let lines = lines_in t in
    let es = entries_of index in
    let w = rises_well es 0 lines (λ l. omega arith) s.rises in
    let k = told lines 0 lines es (omega arith) w in
    record {
      list = repairs_from lines 0 es;
      holds =
          record {
            each = k.each;
            count = k.count;
            same = ap index_bytes k.same ∙ bytes_back (entries_in t) index bytes s.fits.entries;
          };
      only =
          λ rs i.
          let n = i.count in
          let back : entries_of index ≡ index_of rs =
          ap entries_of (sym i.same) ∙ entries_back (index_of rs) (index_small rs 0 i.each (omega arith))
          in
          sym (repairs_back rs 0 i.each) ∙ ap (λ (m : ℕ). repairs_from m 0 (index_of rs)) n
          ∙ ap (repairs_from lines 0) (sym back);
    }

-- ---- The two puts: 3 exactly for room of another length, and that leaves one result only.
pub entry_put_exact : (room : ℕ) → Keeps (room_refusals entry_length room) (room_refusal entry_length room)
entry_put_exact room = keeps_unequal room entry_length 0

pub trailer_put_exact : (room : ℕ) → Keeps (room_refusals trailer_length room) (room_refusal trailer_length room)
trailer_put_exact room = keeps_unequal room trailer_length 0

pub put_decides : (due room : ℕ) → Decides (room_refusals due room)
put_decides due room = decides_when (room ≡ due → ⊥) wrong_length 0

pub entry_put_one_result : (e : Entry) (before : List ℕ) (r s : Refusal) (after other : List ℕ) → r ≡ room_refusal entry_length (length before)
    → after ≡ entry_after e before → s ≡ room_refusal entry_length (length before) → other ≡ entry_after e before → (r ≡ s) × (after ≡ other)
entry_put_one_result e before r s after other a b c d = (a ∙ sym c, b ∙ sym d)

pub trailer_put_one_result : (t : Trailer) (before : List ℕ) (r s : Refusal) (after other : List ℕ) → r ≡ room_refusal trailer_length (length before)
    → after ≡ trailer_after t before → s ≡ room_refusal trailer_length (length before) → other ≡ trailer_after t before → (r ≡ s) × (after ≡ other)
trailer_put_one_result t before r s after other a b c d = (a ∙ sym c, b ∙ sym d)
