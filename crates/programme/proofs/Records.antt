-- Laws of recording a line: what refuses it, test by test in turn, and what its words and bytes then are. Assumes nothing.
use Prim.Native.Nat.{ℕ, ◌*◌, ◌-◌, ◌<◌}
use mathlib.Core.Path.{◌≡◌, refl, sym, ap, subst, ◌∙◌}
use mathlib.Core.Bool.{Bool, true, false, cond, not, true≢false, ◌||◌}
use mathlib.Core.List.{List}
use mathlib.Core.Logic.{◌⊎◌, inr}
use native.Mathlib.Omega.{arith}
use lib.Dec.{ltb, eqb}
use lib.ListN.{length}
use borrow.Author.Tests.{lt-ltb, ltb-true, eq-eqb, ne_eqb, eqb-false}
use Rattle.std.specs.Prelude.{Result, Ok, Err, IsOk}
use Rattle.std.proofs.lemmas.Bool.{false≢true}
use Rattle.refusal.specs.declared.Refusal.{Refusal}
use Rattle.refusal.specs.declared.Refused.{Refused}
use Rattle.refusal.specs.Reasons.{answered}
use Rattle.refusal.specs.Numbers.{wrong_length, over_ten, outside}
use Rattle.refusal.specs.Answer.{none, refuse, written_by, or_else}
use Rattle.refusal.specs.Table.{Row, when, Lowest, Keeps}
use Rattle.refusal.proofs.Cases.{by_test, not_true, not_false}
use Rattle.refusal.proofs.Firsts.{or_else_accepted, or_else_grouped, or_else_none, same_number, length_due, written_accepted, written_refused}
use Rattle.refusal.proofs.Results.{reason_counts}
use Rattle.refusal.proofs.Tables.{keeps_when, keeps_before, numbers_when, keeps_lowest}
use Rattle.words.specs.Bytes.{bytes_of, pairs_refusal}
use Rattle.words.proofs.Bytes.{pairs_accepted}
use Rattle.words.proofs.Tabs.{same_tab}
use Rattle.timing.specs.Report.{clean_report}
use Rattle.system.specs.declared.due.Due.{Due}
use Rattle.system.specs.declared.walk.Walk.{Walk}
use Rattle.system.specs.Figures.{line_length, active_offset, system_of, is_fall}
use Rattle.system.specs.Due.{due_with, due_of}
use Rattle.system.specs.Walk.{written_refusal, walk_refusal, line_words, line_bytes}
use Rattle.system.specs.Judgement.{refused_at, accepted_at, moved_at}
use Rattle.system.proofs.Laws.{accepted_good, written_named, accepted_written, accepted_stood, standing_accepted, moved_advanced, judgement_accepted, judgement_refused}
use Rattle.words.specs.Words.{least_sample, most_sample}
use Rattle.line.specs.Fault.{between_offset}
use Rattle.line.specs.Samples.{Samples, Packets, Content, active_length, sample_at, word_where, laid_at, written_at, line_of, part_samples}
use Rattle.line.proofs.Dues.{by_due}
use Rattle.line.proofs.Writing.{line_length_is}
use Rattle.words.proofs.Passes.{reserved_test}
use Rattle.writer.specs.Refusals.{packets_refusals}
use Rattle.writer.specs.Write.{outside_at, packets_refusal, sample_refusal, part_refusal, part_content}
use Rattle.writer.proofs.Laws.{part_carried}
use Rattle.writer.proofs.Theorems.{packets_exact}
use Rattle.writer.proofs.Places.{samples_blank, samples_picture}
use Rattle.v210.specs.Row.{row_length, row_words, row_word, most_row_word, spare_at, unpacked_of, spare_refusal, unpack_refusal}
use Rattle.v210.proofs.Refusals.{unpack_measured}
use Rattle.programme.specs.Record.{due_at_walk, takes_row, row_samples, row_content, ready_counts, unpacked_refusal, row_refusal, record_standing, record_refusal, recorded_of, line_bytes_of, line_bytes_after}
use Rattle.programme.specs.Refusals.{row_refusals}

-- ---- A line takes a row exactly where its V is 0.
module _ (fall : ℕ) (w : Walk) where
  pub takes_picture : takes_row fall w ≡ true → (due_at_walk fall w).v ≡ false
  unfolding takes_row
  takes_picture t = not_true _ t

  pub takes_blank : takes_row fall w ≡ false → (due_at_walk fall w).v ≡ true
  unfolding takes_row
  takes_blank f = not_false _ f

-- ---- A line's words.

-- with V = 1 no sample is looked at
pub blank_any : (d : Due) (p q : Samples) (k : Packets) → d.v ≡ true
    → line_of d (record { samples = p; packets = k }) ≡ line_of d (record { samples = q; packets = k })
unfolding line_of
blank_any d p q k v =
    same_tab (written_at d (record { samples = p; packets = k })) (written_at d (record { samples = q; packets = k })) (line_length d.system)
    (λ i l. ap (λ (u : ℕ). laid_at k.active (active_offset d.system) (λ _. laid_at k.between between_offset (λ _. u) i) i)
    (by_due d (λ x. word_where x (sample_at p (i - active_offset d.system)) ≡ word_where x (sample_at q (i - active_offset d.system))) i
    refl refl (λ e. refl) (λ e. refl) refl refl (λ f g. absurd (true≢false (sym v ∙ f)))))

pub line_words_are : (fall : ℕ) (w : Walk) (c : Content) → length (line_of (due_at_walk fall w) c) ≡ line_words w
unfolding due_of due_with
line_words_are fall w c = line_length_is (due_at_walk fall w) c

-- ---- What refuses a row.
module _ (row : List ℕ) where
  pub unpacked_short : (length row ≡ row_length → ⊥) → unpacked_refusal row ≡ record { number = wrong_length; place = 1 }
  unfolding unpacked_refusal or_else
  unpacked_short n = simp (ne_eqb _ _ n)

  pub unpacked_long : length row ≡ row_length → unpacked_refusal row ≡ spare_refusal row
  unfolding unpacked_refusal
  unpacked_long e =
      ap (λ (t : Bool). or_else (refuse (not t) wrong_length 1) (spare_refusal row)) (eq-eqb (length row) row_length e)
      ∙ or_else_accepted none (spare_refusal row) refl

  pub unpacked_fits : (unpacked_refusal row).number ≡ 0 → (length row ≡ row_length) × ((spare_refusal row).number ≡ 0)
  unfolding unpacked_refusal
  unpacked_fits z =
      let both = or_else_none (refuse (not (eqb (length row) row_length)) wrong_length 1) (spare_refusal row) z in
      (length_due (length row) row_length 1 both.0, both.1)

  -- unpacking a row of the right length into room for an active part refuses what recording does
  pub unpack_row : (room : ℕ) → length row ≡ row_length → room ≡ active_length → unpack_refusal row room ≡ unpacked_refusal row
  unpack_row room long size = unpack_measured row room long size ∙ sym (unpacked_long long)

-- ---- What refuses what a line is to carry, where nothing refuses the walk and the room.
module _ (fall : ℕ) (w : Walk) (row : List ℕ) (k : Packets) where
  -- what the writer refuses
  abbrev pub carried_refusal : Refusal
  carried_refusal = or_else (packets_refusal (due_at_walk fall w) k) (sample_refusal (due_at_walk fall w) (row_samples row))

  pub line_blank : takes_row fall w ≡ false → row_refusal fall w row k ≡ carried_refusal
  unfolding row_refusal
  line_blank f = ap (λ (t : Bool). or_else (cond t (unpacked_refusal row) none) carried_refusal) f ∙ or_else_accepted none carried_refusal refl

  pub line_picture : takes_row fall w ≡ true → row_refusal fall w row k ≡ or_else (unpacked_refusal row) carried_refusal
  unfolding row_refusal
  line_picture t = ap (λ (s : Bool). or_else (cond s (unpacked_refusal row) none) carried_refusal) t

  pub line_samples : takes_row fall w ≡ true → (unpacked_refusal row).number ≡ 0 → row_refusal fall w row k ≡ carried_refusal
  line_samples t z = line_picture t ∙ or_else_accepted (unpacked_refusal row) _ z

  -- the rows of the table for it
  abbrev length_rows : Row
  length_rows = when ((takes_row fall w ≡ true) × (length row ≡ row_length → ⊥)) wrong_length 1

  abbrev spare_rows : Row
  spare_rows = Lowest row_words (λ i. when ((takes_row fall w ≡ true) × (most_row_word < row_word row i)) over_ten i)

  abbrev sample_rows : Row
  sample_rows =
      Lowest active_length
      (λ place. when ((takes_row fall w ≡ true) × ((sample_at (row_samples row) place < least_sample) ⊎ (most_sample < sample_at (row_samples row) place))) outside place)

  module _ (takes : takes_row fall w ≡ true) where
    length_exact : Keeps length_rows (refuse (not (eqb (length row) row_length)) wrong_length 1)
    length_exact =
        keeps_when (not (eqb (length row) row_length)) ((takes_row fall w ≡ true) × (length row ≡ row_length → ⊥)) wrong_length 1
        (λ t. (takes, eqb-false _ _ (not_true _ t))) (λ q. ap not (ne_eqb _ _ q.1)) (λ z. omega arith)

    spare_exact : Keeps spare_rows (spare_refusal row)
    unfolding spare_refusal
    spare_exact =
        keeps_lowest _ (spare_at row) row_words
        (λ i l. numbers_when (ltb most_row_word (row_word row i)) ((takes_row fall w ≡ true) × (most_row_word < row_word row i)) over_ten i
        (λ t. (takes, ltb-true _ _ t)) (λ q. lt-ltb _ _ q.1) (λ z. omega arith))

    samples_exact : Keeps sample_rows (sample_refusal (due_at_walk fall w) (row_samples row))
    samples_exact =
        rw (samples_picture (row_samples row) (due_at_walk fall w) (takes_picture fall w takes))
        (keeps_lowest _ (outside_at (row_samples row)) active_length
        (λ place l. numbers_when (ltb (sample_at (row_samples row) place) least_sample || ltb most_sample (sample_at (row_samples row) place)) _ outside place
        (λ t. (takes, (reserved_test (sample_at (row_samples row) place)).0 t)) (λ q. (reserved_test (sample_at (row_samples row) place)).1 q.1)
        (λ z. omega arith)))

    picture_exact : Keeps (row_refusals fall w row k) (or_else (unpacked_refusal row) carried_refusal)
    unfolding unpacked_refusal
    picture_exact =
        let long = refuse (not (eqb (length row) row_length)) wrong_length 1 in
        let samples = sample_refusal (due_at_walk fall w) (row_samples row) in
        let ready = packets_refusal (due_at_walk fall w) k in
        subst (Keeps (row_refusals fall w row k)) (or_else_grouped long (spare_refusal row) carried_refusal)
        (keeps_before length_rows _ long _ length_exact
        (keeps_before spare_rows _ (spare_refusal row) _ spare_exact
        (keeps_before (packets_refusals (due_at_walk fall w) k) sample_rows ready samples (packets_exact (due_at_walk fall w) k) samples_exact)))

  -- a line that takes no row is refused for its packets alone
  blank_exact : takes_row fall w ≡ false → Keeps (row_refusals fall w row k) carried_refusal
  unfolding or_else
  blank_exact f =
      let ready = packets_refusal (due_at_walk fall w) k in
      let samples = sample_refusal (due_at_walk fall w) (row_samples row) in
      keeps_before length_rows _ none _ (inr (λ r x. true≢false (sym x.0.0 ∙ f), refl))
      (keeps_before spare_rows _ none _ (inr (λ r x. true≢false (sym x.asked.0.0 ∙ f), refl))
      (keeps_before (packets_refusals (due_at_walk fall w) k) sample_rows ready samples (packets_exact (due_at_walk fall w) k)
      (inr (λ r x. true≢false (sym x.asked.0.0 ∙ f), samples_blank (row_samples row) (due_at_walk fall w) (takes_blank fall w f)))))

  -- Each refusal of what a line is to carry comes exactly when its condition holds and none earlier does.
  pub row_exact : Keeps (row_refusals fall w row k) (row_refusal fall w row k)
  row_exact =
      by_test (takes_row fall w)
      (λ t. rw (line_picture t) (picture_exact t))
      (λ f. rw (line_blank f) (blank_exact f))

-- ---- What the writer answers for an active part, and the words that it leaves, are the line's.
module _ (fall : ℕ) (w : Walk) (row : List ℕ) (k : Packets) (d : Due) (is_due : d ≡ due_at_walk fall w) (part words : List ℕ) (part-long : length part ≡ active_length)
    (size : length words ≡ line_words w) (r : Refusal) (answer : r ≡ part_refusal d part k (length words))
    (after : List ℕ) (written : after ≡ written_by r (line_of d (part_content part k)) words) where
  only_carried : r ≡ or_else (packets_refusal (due_at_walk fall w) k) (sample_refusal (due_at_walk fall w) (part_samples part))
  unfolding due_of due_with
  only_carried =
      answer ∙ ap (λ (x : Due). part_refusal x part k (length words)) is_due ∙ sym (part_carried (due_at_walk fall w) part k (length words) size part-long)

  line_is : r.number ≡ 0 → after ≡ line_of (due_at_walk fall w) (part_content part k)
  line_is z = written ∙ written_accepted r _ words z ∙ ap (λ (x : Due). line_of x (part_content part k)) is_due

  -- of the row's samples on a line that takes a row
  pub picture_written : takes_row fall w ≡ true → (unpacked_refusal row).number ≡ 0 → part ≡ unpacked_of row
      → (r ≡ row_refusal fall w row k) × (r.number ≡ 0 → after ≡ line_of (due_at_walk fall w) (row_content row k))
  picture_written t clear same = (
    only_carried ∙ ap (λ (l : List ℕ). or_else (packets_refusal (due_at_walk fall w) k) (sample_refusal (due_at_walk fall w) (part_samples l))) same
        ∙ sym (line_samples fall w row k t clear),
    λ z. line_is z ∙ ap (λ (l : List ℕ). line_of (due_at_walk fall w) (part_content l k)) same,
  )

  -- and of any part on one that takes none
  pub blank_written : takes_row fall w ≡ false → (r ≡ row_refusal fall w row k) × (r.number ≡ 0 → after ≡ line_of (due_at_walk fall w) (row_content row k))
  blank_written f =
      let v = takes_blank fall w f in (
        only_carried
            ∙ ap (or_else (packets_refusal (due_at_walk fall w) k))
            (samples_blank (part_samples part) (due_at_walk fall w) v ∙ sym (samples_blank (row_samples row) (due_at_walk fall w) v))
            ∙ sym (line_blank fall w row k f),
        λ z. line_is z ∙ blank_any (due_at_walk fall w) (part_samples part) (row_samples row) k v,
      )

-- a line's words are written of a part that holds its row, where it takes one
pub part_written : (fall : ℕ) (w : Walk) (row : List ℕ) (k : Packets) (d : Due) → d ≡ due_at_walk fall w → (part words : List ℕ) → length part ≡ active_length
    → length words ≡ line_words w → (r : Refusal) → r ≡ part_refusal d part k (length words)
    → (after : List ℕ) → after ≡ written_by r (line_of d (part_content part k)) words
    → none ≡ cond (takes_row fall w) (unpacked_refusal row) none → (takes_row fall w ≡ true → part ≡ unpacked_of row)
    → (r ≡ row_refusal fall w row k) × (r.number ≡ 0 → after ≡ line_of (due_at_walk fall w) (row_content row k))
part_written fall w row k d is_due part words long size r answer after written clear same =
    by_test (takes_row fall w)
    (λ t. picture_written fall w row k d is_due part words long size r answer after written t
    (sym (same_number (clear ∙ ap (λ (s : Bool). cond s (unpacked_refusal row) none) t))) (same t))
    (λ f. blank_written fall w row k d is_due part words long size r answer after written f)

-- a result refuses nothing exactly where it is one
pub told_ok : {A : Type 0} (r : Result A Refused) → answered r ≡ none → IsOk r
told_ok (Ok x) e = refl
told_ok (Err refused) e = absurd (reason_counts refused.reason (same_number e))

pub ok_number : {A : Type 0} (r : Result A Refused) → IsOk r → (answered r).number ≡ 0
ok_number (Ok x) i = refl
ok_number (Err refused) i = absurd (false≢true i)

-- ---- Nothing refuses before the line is to carry anything.
pub stands_accepted : (fall : ℕ) (w : Walk) (room : ℕ) → (walk_refusal w).number ≡ 0 → is_fall (system_of w.system) fall ≡ true → room ≡ line_bytes w
    → (record_standing fall w room).number ≡ 0
unfolding record_standing
stands_accepted fall w room stands falls size =
    let good = accepted_good w stands in
    same_number
    (or_else_accepted (written_refusal w.system w.line fall) _
    (same_number (written_named w.system w.line fall (record { a_system = good.system; a_line = good.line; a_fall = falls })))
    ∙ standing_accepted w room (line_bytes w) stands size)

-- what it lets by
pub record Standing (fall : ℕ) (w : Walk) (room : ℕ) : Type 0 where
  pub walk : (walk_refusal w).number ≡ 0
  pub falls : is_fall (system_of w.system) fall ≡ true
  pub size : room ≡ line_bytes w

pub accepted_stands : (fall : ℕ) (w : Walk) (room : ℕ) → (record_standing fall w room).number ≡ 0 → Standing fall w room
unfolding record_standing
accepted_stands fall w room e =
    let both = or_else_none (written_refusal w.system w.line fall) _ e in
    let stood = accepted_stood w room (line_bytes w) both.1 in
    record { walk = stood.walk; falls = (accepted_written w.system w.line fall both.0).a_fall; size = stood.size }

-- ---- The refusal that has its turn.
module _ (fall : ℕ) (w : Walk) (row : List ℕ) (k : Packets) (room : ℕ) where
  abbrev standing : Refusal
  standing = record_standing fall w room

  pub record_row : standing.number ≡ 0 → record_refusal fall w row k room ≡ row_refusal fall w row k
  unfolding record_refusal
  record_row z = or_else_accepted standing _ z

  -- ---- The whole answer.
  pub recorded_refused : ((record_refusal fall w row k room).number ≡ 0 → ⊥) → recorded_of fall w row k room ≡ refused_at w (record_refusal fall w row k room)
  unfolding recorded_of
  recorded_refused n = judgement_refused (record_refusal fall w row k room) w _ _ _ n

  pub recorded_as : (r : Refusal) → record_refusal fall w row k room ≡ r → (r.number ≡ 0 → ⊥) → recorded_of fall w row k room ≡ refused_at w r
  recorded_as r e n = recorded_refused (λ z. n (same_number (sym e) ∙ z)) ∙ ap (refused_at w) e

  pub recorded_accepted : (record_refusal fall w row k room).number ≡ 0 → recorded_of fall w row k room ≡ accepted_at w (due_at_walk fall w) clean_report (ready_counts k)
  unfolding recorded_of
  recorded_accepted e = judgement_accepted (record_refusal fall w row k room) w _ _ _ e

  -- an accepted line moves the walk as its own advance does
  pub moved_recorded : (walk_refusal w).number ≡ 0 → (record_refusal fall w row k room).number ≡ 0 → moved_at w (due_at_walk fall w) clean_report (ready_counts k) ≡ recorded_of fall w row k room
  moved_recorded stands z =
      ap (λ (next : Walk). record { number = 0; place = 0; report = clean_report; walk = next; packets = ready_counts k }) (moved_advanced w (due_at_walk fall w) clean_report (accepted_good w stands))
      ∙ sym (recorded_accepted z)

  pub recorded_moved : none ≡ record_refusal fall w row k room → moved_at w (due_at_walk fall w) clean_report (ready_counts k) ≡ recorded_of fall w row k room
  unfolding record_refusal
  recorded_moved e =
      let stood = accepted_stands fall w room (or_else_none standing _ (same_number (sym e))).0 in
      moved_recorded stood.walk (same_number (sym e))

-- ---- The line's bytes afterwards.
module _ (fall : ℕ) (w : Walk) (row : List ℕ) (k : Packets) (held : List ℕ) where
  pub bytes_refused : ((record_refusal fall w row k (length held)).number ≡ 0 → ⊥) → line_bytes_after fall w row k held ≡ held
  unfolding line_bytes_after
  bytes_refused n = written_refused (record_refusal fall w row k (length held)) _ held n

  pub bytes_accepted : (record_refusal fall w row k (length held)).number ≡ 0 → line_bytes_after fall w row k held ≡ line_bytes_of fall w row k
  unfolding line_bytes_after
  bytes_accepted e = written_accepted (record_refusal fall w row k (length held)) _ held e

-- a line's words as bytes, where nothing refuses
pub bytes_written : (fall : ℕ) (w : Walk) (row : List ℕ) (k : Packets) (held words : List ℕ) → none ≡ record_standing fall w (length held)
    → none ≡ row_refusal fall w row k → words ≡ line_of (due_at_walk fall w) (row_content row k)
    → (r : Refusal) → r ≡ pairs_refusal (length held) (length words) → (after : List ℕ) → after ≡ written_by r (bytes_of words) held
    → (r ≡ record_refusal fall w row k (length held)) × (after ≡ line_bytes_after fall w row k held)
unfolding line_bytes_of
bytes_written fall w row k held words stands clear is r answer after filled =
    let refused = record_row fall w row k (length held) (sym (same_number stands)) ∙ sym clear in
    let words_long = ap length is ∙ line_words_are fall w (row_content row k) in
    let size = (accepted_stands fall w (length held) (sym (same_number stands))).size in
    let told = answer ∙ pairs_accepted (length held) (length words) (size ∙ ap (λ (n : ℕ). 2 * n) (sym words_long)) in (
      told ∙ sym refused,
      filled ∙ written_accepted r (bytes_of words) held (same_number told) ∙ ap bytes_of is ∙ sym (bytes_accepted fall w row k held (same_number refused)),
    )
