-- A line that is put part by part is the line that is due: in each part the words that are put are the line's own. And ready words that are
-- laid into it make the line that is written. Assumes nothing.
use Prim.Native.Nat.{ℕ, ◌+◌, ◌-◌, ◌%◌, ◌<◌, ◌≤◌}
use mathlib.Core.Path.{◌≡◌, refl, sym, ap, ◌∙◌}
use mathlib.Core.Bool.{true, false}
use mathlib.Core.List.{List}
use native.Mathlib.Omega.{arith}
use lib.Dec.{ltb, eqb}
use lib.ListN.{length, get_or}
use Rattle.refusal.proofs.Cases.{by_cond}
use Rattle.system.specs.Figures.{line_length, sav_offset, active_offset}
use Rattle.system.specs.declared.due.Due.{Due}
use Rattle.line.specs.declared.What.{What}
use Rattle.line.specs.declared.What.TheVariants.{Ones, Zeros, Fourth, Fill}
use Rattle.system.specs.Due.{flags_of}
use Rattle.line.specs.Offsets.{code_at, fill_at, due_at}
use Rattle.line.specs.Samples.{Samples, Packets, active_length, sample_at, word_where, bare_at, laid_at, bare_of, written_at, line_of, part_samples}
use Rattle.line.specs.Fault.{between_offset}
use Rattle.line.proofs.Places.{part_in_place}
use Rattle.line.proofs.Dues.{due_eav, due_space, due_sav, due_blank, due_sample}
use Rattle.words.proofs.Tabs.{length_tab, get_d_tab, is_tab}
use Rattle.writer.specs.Passes.{Put, Laid, Blanked, code_word, fill_word, active_word}
use Rattle.writer.proofs.Puts.{then_put, laid_put, laid_over}

-- the words of a code and of fill do not depend on a sample
code_any : (fvh k s : ℕ) → word_where (code_at fvh k) 0 ≡ word_where (code_at fvh k) s
code_any fvh k s =
    by_cond same (eqb k 0) Ones _ (λ e. refl) (λ e. by_cond same (ltb k 3) Zeros (Fourth fvh) (λ f. refl) (λ f. refl))
  where
    same : What → Type 0
    same x = word_where x 0 ≡ word_where x s

fill_any : (d : Due) (i s : ℕ) → word_where (fill_at d.fill i) 0 ≡ word_where (fill_at d.fill i) s
fill_any d i s = by_cond (λ x. word_where x 0 ≡ word_where x s) (eqb (i % 2) 0) (Fill d.fill.even) (Fill d.fill.odd) (λ e. refl) (λ e. refl)

module _ (d : Due) (p : Samples) where
  -- the line's word at an offset, by what is due there
  due_word : (i : ℕ) (x : What) → due_at d i ≡ x → word_where x (sample_at p (i - active_offset d.system)) ≡ bare_at d p i
  due_word i x e = ap (λ (y : What). word_where y (sample_at p (i - active_offset d.system))) (sym e)

  eav_words : (i : ℕ) → i < 4 → code_word (flags_of d true) 0 i ≡ bare_at d p i
  eav_words i l =
      let start : i - 0 ≡ i = omega arith in
      rw start (code_any _ i _ ∙ due_word i _ (due_eav d i l))

  sav_words : (i : ℕ) → sav_offset d.system ≤ i → i < active_offset d.system → code_word (flags_of d false) (sav_offset d.system) i ≡ bare_at d p i
  sav_words i g l = code_any _ (i - sav_offset d.system) _ ∙ due_word i _ (due_sav d i g l)

  fill_words : (i : ℕ) → due_at d i ≡ fill_at d.fill i → fill_word d i ≡ bare_at d p i
  fill_words i e = fill_any d i _ ∙ due_word i _ e

pub blanked : (d : Due) (p : Samples) (l0 l1 l2 l3 : List ℕ) (eavFlags savFlags savAt : ℕ) → length l0 ≡ line_length d.system
    → eavFlags ≡ flags_of d true → savFlags ≡ flags_of d false → savAt ≡ sav_offset d.system
    → Put (code_word eavFlags 0) 0 4 l0 l1 → Put (fill_word d) 4 savAt l1 l2 → Put (code_word savFlags savAt) savAt (savAt + 4) l2 l3
    → Blanked d p l3
blanked d p l0 l1 l2 l3 eavFlags savFlags savAt size e f a eav space sav =
    let line = bare_at d p in
    let to_space = then_put _ _ l0 line _ l1 (rw e at eav) (λ i l. absurd (omega arith)) (λ i l g. eav_words d p i l) in
    let to-sav = then_put _ _ l1 line _ l2 (rw a at space) to_space (λ i l g. fill_words d p i (due_space d i g l)) in
    record {
      size = sav.size ∙ space.size ∙ eav.size ∙ size;
      there = then_put _ _ l2 line _ l3 (rw (f, a) at sav) to-sav (λ i l g. sav_words d p i g l);
    }

-- and then the active part, of fill or of samples
module _ (d : Due) (p : Samples) (l3 l4 : List ℕ) (done : Blanked d p l3) (at to : ℕ) (a : at ≡ active_offset d.system) (e : to ≡ line_length d.system) where
  whole : (word : ℕ → ℕ) → Put word at to l3 l4 → ((i : ℕ) → active_offset d.system ≤ i → word i ≡ bare_at d p i) → l4 ≡ bare_of d p
  unfolding bare_of
  whole word active same =
      is_tab (bare_at d p) (line_length d.system) l4 (active.size ∙ done.size)
      (λ i l. then_put word _ l3 (bare_at d p) to l4 (rw a at active) done.there (λ j m g. same j g) i (omega arith))

  pub blank_whole : d.v ≡ true → Put (fill_word d) at to l3 l4 → l4 ≡ bare_of d p
  blank_whole v active = whole (fill_word d) active (λ i g. fill_words d p i (due_blank d i g v))

  pub picture_whole : d.v ≡ false → Put (active_word p at) at to l3 l4 → l4 ≡ bare_of d p
  picture_whole v active = whole (active_word p at) active (λ i g. rw a (due_word d p i _ (due_sample d i g v)))

-- an active part that is laid into its place is its own samples
pub part_put : (part before after : List ℕ) (at : ℕ) → length part ≡ active_length → at + active_length ≤ length before → Laid part at before after
    → Put (active_word (part_samples part) at) at (at + active_length) before after
part_put part before after at long room laid =
    let put = laid_put part at before after (at + active_length) (omega arith) room laid in
    record {
      size = put.size;
      kept = put.kept;
      there = λ i l g. put.there i l g ∙ sym (part_in_place part (i - at) (omega arith));
    }

-- ---- the line without packets has the line's length
pub bare_length : (d : Due) (p : Samples) → length (bare_of d p) ≡ line_length d.system
unfolding bare_of
bare_length d p = length_tab (bare_at d p) (line_length d.system)

-- and ready words laid into it, those of the space between first, make the line that is written
pub packets_whole : (d : Due) (p : Samples) (k : Packets) (l0 l1 l2 : List ℕ) (at : ℕ) → at ≡ active_offset d.system → l0 ≡ bare_of d p
    → Laid k.between between_offset l0 l1 → Laid k.active at l1 l2 → l2 ≡ line_of d (record { samples = p; packets = k })
unfolding bare_of line_of
packets_whole d p k l0 l1 l2 at a bare between active =
    is_tab (written_at d (record { samples = p; packets = k })) (line_length d.system) l2 (active.size ∙ between.size ∙ size) word
  where
    size : length l0 ≡ line_length d.system
    size = ap length bare ∙ bare_length d p

    bare_word : (i : ℕ) → i < line_length d.system → get_or l0 i 0 ≡ bare_at d p i
    bare_word i l = ap (λ (words : List ℕ). get_or words i 0) bare ∙ get_d_tab (bare_at d p) (line_length d.system) i l

    word : (i : ℕ) → i < line_length d.system → get_or l2 i 0 ≡ written_at d (record { samples = p; packets = k }) i
    word i l =
        active.word i (omega (arith, between.size, size)) ∙ ap (λ (from : ℕ). laid_at k.active from (λ j. get_or l1 j 0) i) a
        ∙ laid_over k.active (active_offset d.system) (λ j. get_or l1 j 0) (laid_at k.between between_offset (bare_at d p)) i
        (between.word i (omega (arith, size)) ∙ laid_over k.between between_offset (λ j. get_or l0 j 0) (bare_at d p) i (bare_word i l))
