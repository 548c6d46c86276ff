-- The promises on finished files: what reading every line makes of accepted lines is the index of their repairs, so that the full check
-- compares two lists of entries, and the laws of an index carry over. Assumes nothing.
use Rattle.std.proofs.Common.{◌≡◌, ℕ, zero, suc, ◌+◌, ◌-◌, ◌*◌, ◌^◌, ◌<◌, ◌≤◌, true, false, cond, not, ◌&&◌, eqb, ltb, leb, List, [], ◌∷◌, ◌++◌, length, get_or, take, drop, sym, refl, ap, ◌∙◌, subst, ap₂, ⊎_elim, true≢false, append_assoc, arith, length-append, length-drop, length-take-le, take_at, drop_at, ltb-false, ltb-true, eq-eqb, ne_eqb, eqb-true, leb-true}
use native.Mathlib.Nat.{eq_of_mul-eq-mul_right}
use borrow.Author.Tests.{eqb-false}
use Rattle.refusal.specs.Numbers.{bad_parts}
use Rattle.refusal.specs.Answer.{none, refuse}
use Rattle.refusal.proofs.Cases.{by_test, and_true, not_true, not_false}
use Rattle.refusal.proofs.Firsts.{or_else_none, same_number, not_made}
use Rattle.refusal.proofs.Tables.{keeps_none}
use Rattle.intake.specs.Arrival.{all_pieces}
use Rattle.system.specs.declared.walk.Fresh.{Fresh}
use Rattle.system.specs.Figures.{system_of}
use Rattle.system.specs.Walk.{most_lines, named_refusal, fresh_walk}
use Rattle.system.proofs.Laws.{longest, fresh_named}
use Rattle.system.proofs.Theorems.{named_exact, fresh_number}
use Rattle.confirmation.specs.declared.Run.{Run}
use Rattle.confirmation.specs.Run.{header_length, header_system, header_start, fresh_run, begun_of, body_of, confirmed_of}
use Rattle.confirmation.proofs.Bodies.{line_has_bytes, body_ended}
use Rattle.index.specs.declared.entry.Entry.{Entry}
use Rattle.index.specs.declared.trailer.Trailer.{Trailer}
use Rattle.index.specs.Parts.{Asked}
use Rattle.index.specs.Entries as entries
use Rattle.index.specs.Entries.{entry_length, index_of, index_bytes, entries_of, entries_well, repairs_from, Bytes}
use Rattle.index.specs.Asking as question
use Rattle.index.specs.Asking.{trailer_fits}
use Rattle.index.specs.Parts.{trailer_length, trailer_bytes, trailer_of, offset_in, entries_in, lines_in, line_size, index_part, trailer_in, index_in, lines_part, sound, parts_refusal}
use Rattle.index.specs.Refusals.{Fits, Sound}
use Rattle.index.proofs.Entries.{entries_back, index_well, index_small, index_count, index_length, bytes_back, Well, well, well_back, repairs_back}
use Rattle.index.proofs.Conditions.{sound_conditions, well_rises, rises_well}
use Rattle.index.proofs.Theorems as index
use Rattle.timing.specs.declared.Report.{Report}
use Rattle.finished.specs.declared.meeting.Meeting.{Meeting}
use Rattle.finished.specs.Reading.{reports_of, AllAccepted, repairs_of_all}
use Rattle.finished.specs.Finish.{Making, fresh_making, make_through, make_body, trailer_of_lines, file_of, finished_of}
use Rattle.finished.specs.Check.{same_entry, differing, is_theirs, making_in, meeting_in, file_refusal, checked_of}
use Rattle.finished.specs.Promise.{lines_of, reports_in, Theirs, AnswersAsReading, CheckDecides, TheirsUnrefused, FinishedChecks, TheirsMet, LinesBack, UnfitUnanswered, told_in, FirstDifference, DiffersFirst}
use Rattle.finished.proofs.Entries.{differ_never}
use Rattle.finished.proofs.Reading.{through_accepted, through_system, lines_counted, lines_fit, reports_counted, repairs_counted, each_repairs, clean_reports, reports_clean}
use Rattle.finished.proofs.Making.{made_run, made_number, made_lines, made_index, made_entries}

-- ---- Bytes that are part of others.
bytes_drop : (n : ℕ) (bytes : List ℕ) → Bytes bytes → Bytes (drop n bytes)
bytes_drop zero bytes all = all
bytes_drop (suc n) [] all = all
bytes_drop (suc n) (b ∷ bytes) (entries.more low all) = bytes_drop n bytes all

bytes_take : (n : ℕ) (bytes : List ℕ) → Bytes bytes → Bytes (take n bytes)
bytes_take zero bytes all = entries.none
bytes_take (suc n) [] all = all
bytes_take (suc n) (b ∷ bytes) (entries.more low all) = entries.more low (bytes_take n bytes all)

-- ---- Entries do not differ exactly where they are the same.
same_entry_is : (e f : Entry) → same_entry e f ≡ true → e ≡ f
same_entry_is e f t =
    let both = and_true (eqb e.ordinal f.ordinal) (eqb e.repairs f.repairs) t in
    ap₂ (λ (ordinal repairs : ℕ). record { ordinal = ordinal; repairs = repairs }) (eqb-true _ _ both.0) (eqb-true _ _ both.1)

pub differs_not : (es fs : List Entry) → (differing es fs).differs ≡ false → es ≡ fs
unfolding differing
differs_not [] [] d = refl
differs_not [] (f ∷ fs) d = absurd (true≢false d)
differs_not (e ∷ es) [] d = absurd (true≢false d)
differs_not (e ∷ es) (f ∷ fs) d =
    by_test (same_entry e f)
    (λ t. ap₂ ◌∷◌ (same_entry_is e f t) (differs_not es fs (simp t at d)))
    (λ g. absurd (true≢false (simp g at d)))

-- ---- From a fresh walk, over the bytes of lines.
module _ (system start : ℕ) where
  abbrev run_at : Run
  run_at = record { system = system; start = start; walk = fresh_walk system start; number = 0; place = 0 }

  fresh_run_is : (named_refusal system start).number ≡ 0 → fresh_run system start ≡ run_at
  fresh_run_is named =
      ap (λ (f : Fresh). record { system = system; start = start; walk = f.walk; number = f.number; place = f.place }) (fresh_named system start named)

  module _ (bytes : List ℕ) where
    abbrev lines : List (List ℕ)
    lines = all_pieces (line_size system) bytes

    abbrev reports : List Report
    reports = reports_of (fresh_walk system start) lines

    abbrev repairs : List ℕ
    repairs = repairs_of_all reports

    -- what reading every line makes
    abbrev made : Making
    made = make_through (fresh_making run_at) lines

    body_made : (named_refusal system start).number ≡ 0 → make_body (fresh_making (fresh_run system start)) bytes ≡ made
    unfolding make_body
    body_made named = ap (λ (r : Run). make_body (fresh_making r) bytes) (fresh_run_is named)

    made_accepted : made.finishing.run.number ≡ 0 → AllAccepted (fresh_walk system start) lines
    made_accepted z = through_accepted lines run_at refl (ap (λ (r : Run). r.number) (sym (made_run lines (fresh_making run_at))) ∙ z)

    repairs_count : length repairs ≡ length lines
    repairs_count = repairs_counted reports ∙ reports_counted lines (fresh_walk system start)

    -- the lines, behind them the index of their repairs, and its trailer
    abbrev trailer : Trailer
    trailer = record { offset = length repairs * line_size system; entries = length (index_of repairs); lines = length repairs }

    abbrev file : List ℕ
    file = bytes ++ (index_part repairs ++ trailer_bytes trailer)

    -- ---- where all lines are accepted
    module _ (all : AllAccepted (fresh_walk system start) lines) where
      few : length repairs ≤ most_lines
      few = omega (arith, repairs_count, lines_fit lines (fresh_walk system start) (omega arith) all)

      size : length bytes ≡ length repairs * line_size system
      size = lines_counted (fresh_walk system start) bytes all ∙ ap (λ (n : ℕ). n * line_size system) (sym repairs_count)

      offset_fits : length repairs * line_size system < 256 ^ 8
      offset_fits = index.offset_fits (line_size system) (length repairs) (omega (arith, longest (system_of system))) few

      -- what is made is their index and its trailer
      index_made : made.index ≡ index_part repairs
      index_made = made_index lines (fresh_making run_at) refl all

      entries_made : entries_of made.index ≡ index_of repairs
      entries_made = ap entries_of index_made ∙ entries_back (index_of repairs) (index_small repairs 0 (each_repairs reports) (omega (arith, few)))

      trailer_made : trailer_of_lines made.finishing ≡ trailer
      unfolding trailer_of_lines
      trailer_made =
          let of_system : made.finishing.run.walk.system ≡ system =
          ap (λ (r : Run). r.walk.system) (made_run lines (fresh_making run_at)) ∙ through_system lines run_at in
          let count : made.finishing.run.walk.lines ≡ length repairs = omega (arith, made_lines lines (fresh_making run_at) refl all, repairs_count) in
          let entries : made.finishing.entries ≡ length (index_of repairs) =
          omega (arith, made_entries lines (fresh_making run_at) refl all (omega (arith, few, repairs_count))) in
          rw (count, of_system, entries) refl

      file_made : file_of made bytes ≡ file
      unfolding file_of
      file_made = ap₂ (λ (entries : List ℕ) (t : Trailer). bytes ++ (entries ++ trailer_bytes t)) index_made trailer_made

      -- the parts of that file, by its trailer
      file_length : length file ≡ length repairs * line_size system + length (index_part repairs) + trailer_length
      file_length =
          omega (
            arith,
            length-append bytes (index_part repairs ++ trailer_bytes trailer),
            length-append (index_part repairs) (trailer_bytes trailer),
            index.trailer_length_is trailer,
            size,
          )

      trailer_part : trailer_in file ≡ trailer_bytes trailer
      trailer_part =
          ap (λ (l : List ℕ). drop (length file - trailer_length) l) (sym (append_assoc bytes (index_part repairs) (trailer_bytes trailer)))
          ∙ drop_at (bytes ++ index_part repairs) (trailer_bytes trailer) (length file - trailer_length)
          (omega (arith, file_length, length-append bytes (index_part repairs), size))

      offset_part : length bytes ≡ offset_in (trailer_in file)
      offset_part = size ∙ sym (ap offset_in trailer_part ∙ index.trailer_offset trailer offset_fits)

      lines_part_is : lines_part file ≡ bytes
      lines_part_is = take_at bytes (index_part repairs ++ trailer_bytes trailer) (offset_in (trailer_in file)) offset_part

      index_part_is : index_in file ≡ index_part repairs
      index_part_is =
          let count = ap entries_in trailer_part ∙ index.trailer_entries trailer (omega (arith, few, index_count repairs 0)) in
          ap (λ (l : List ℕ). take (entry_length * entries_in (trailer_in file)) l)
          (drop_at bytes (index_part repairs ++ trailer_bytes trailer) (offset_in (trailer_in file)) offset_part)
          ∙ take_at (index_part repairs) (trailer_bytes trailer) (entry_length * entries_in (trailer_in file))
          (index_length (index_of repairs) ∙ ap (λ (n : ℕ). entry_length * n) (sym count))

      file_sound : Sound (line_size system) (trailer_in file) (index_in file) (length file)
      file_sound = rw (index_part_is, trailer_part, file_length) (index.made_sound (line_size system) repairs (each_repairs reports) few offset_fits)

-- ---- What a file that is not refused lets by.
named_none : (system start : ℕ) → (named_refusal system start).number ≡ 0 → named_refusal system start ≡ none
named_none system start z = keeps_none _ (named_refusal system start) (named_exact system start) z

record Stood (system start : ℕ) (file : List ℕ) : Type 0 where
  named : (named_refusal system start).number ≡ 0
  sound : Sound (line_size system) (trailer_in file) (index_in file) (length file)

stood : (system start : ℕ) (file : List ℕ) → file_refusal system start file ≡ none → Stood system start file
unfolding parts_refusal
stood system start file accepted =
    let size = line_size system in
    let fits = sound size (trailer_in file) (index_in file) (length file) in
    let both = or_else_none (named_refusal system start) (refuse (not fits) bad_parts 0) (same_number accepted) in
    record {
      named = both.0;
      sound =
          sound_conditions size (trailer_in file) (index_in file) (length file)
          (not_false fits (not_made (not fits) bad_parts 0 (λ z. omega arith) both.1));
    }

-- where the parts fit, lines take as many bytes as the trailer tells
module _ (system start : ℕ) (file : List ℕ) (fits : Fits (line_size system) (trailer_in file) (index_in file) (length file)) where
  lines_length : length (lines_part file) ≡ lines_in (trailer_in file) * line_size system
  lines_length = length-take-le (offset_in (trailer_in file)) file (omega (arith, fits.whole)) ∙ fits.offset

  told_lines : AllAccepted (fresh_walk system start) (lines_of system file) → length (repairs system start (lines_part file)) ≡ lines_in (trailer_in file)
  told_lines all =
      eq_of_mul-eq-mul_right (line_size system) (line_has_bytes (fresh_walk system start)) _ _
      (sym (size system start (lines_part file) all) ∙ lines_length)

-- ---- `answered`.
pub answered : AnswersAsReading
answered system start file a b accepted theirs within =
    let s = stood system start file accepted in
    let reports = reports_in system start file in
    let count = told_lines system start file s.sound.fits theirs.accepted in
    let answer =
    index.theirs_answered system start (trailer_in file) (index_in file) (length file) (named_none system start s.named) s.sound (repairs_of_all reports) a b
    (record { each = each_repairs reports; count = count; same = sym theirs.index }) within in
    let says = ap (λ (x : Asked). x.clean) answer in
    record {
      lines = sym (repairs_counted reports) ∙ count;
      number = ap (λ (x : Asked). x.number) answer;
      says_clean = λ c. clean_reports a b reports (sym says ∙ c);
      is_clean = λ all. says ∙ reports_clean a b reports all;
    }

-- ---- `check-decides`.
module _ (system start : ℕ) (file : List ℕ) (named : (named_refusal system start).number ≡ 0) where
  reading_made : making_in system start file ≡ made system start (lines_part file)
  reading_made = body_made system start (lines_part file) named

  checked_made : checked_of system start file
      ≡ is_theirs (made system start (lines_part file)).finishing.run
      (differing (entries_of (made system start (lines_part file)).index) (entries_of (index_in file)))
  checked_made =
      ap (λ (m : Making). is_theirs m.finishing.run (differing (entries_of m.index) (entries_of (index_in file)))) reading_made

  theirs_checked : Theirs system start file → checked_of system start file ≡ true
  unfolding is_theirs
  theirs_checked theirs =
      let all = theirs.accepted in
      checked_made
      ∙ simp (
        eq-eqb _ _ (made_number (lines_of system file) (fresh_making (run_at system start)) refl all),
        theirs.index,
        index_made system start (lines_part file) all,
        differ_never (entries_of (index_part (repairs system start (lines_part file)))),
      )

  -- what yes says: all lines are accepted, and the index holds their entries
  module _ (says : checked_of system start file ≡ true) where
    said : ((made system start (lines_part file)).finishing.run.number ≡ 0)
        × (entries_of (index_in file) ≡ entries_of (made system start (lines_part file)).index)
    unfolding is_theirs
    said =
        let m = made system start (lines_part file) in
        let ours = entries_of m.index in
        let those = entries_of (index_in file) in
        let both = and_true (eqb m.finishing.run.number 0) (not (differing ours those).differs) (sym checked_made ∙ says) in
        (eqb-true _ _ both.0, sym (differs_not ours those (not_true _ both.1)))

    said_accepted : AllAccepted (fresh_walk system start) (lines_of system file)
    said_accepted = made_accepted system start (lines_part file) said.0

    their_entries : entries_of (index_in file) ≡ index_of (repairs system start (lines_part file))
    their_entries = said.1 ∙ entries_made system start (lines_part file) said_accepted

  checked_theirs : Fits (line_size system) (trailer_in file) (index_in file) (length file) → Bytes file → checked_of system start file ≡ true
      → Theirs system start file
  checked_theirs fits bytes says =
      let trailer = trailer_in file in
      let part = bytes_take (entry_length * entries_in trailer) (drop (offset_in trailer) file) (bytes_drop (offset_in trailer) file bytes) in
      record {
        accepted = said_accepted says;
        index = sym (bytes_back (entries_in trailer) (index_in file) part fits.entries) ∙ ap index_bytes (their_entries says);
      }

pub check_decides : CheckDecides
check_decides system start file bytes accepted =
    let s = stood system start file accepted in
    (checked_theirs system start file s.named s.sound.fits bytes, theirs_checked system start file s.named)

-- ---- `theirs-unrefused`.
-- a trailer that a question finds to fit
module _ (system start : ℕ) (file : List ℕ) (begun : (question.begun_of system start (trailer_in file) (length file) 0 0).wrong ≡ false) where
  abbrev at_end : List ℕ
  at_end = trailer_in file

  abbrev end_told : Trailer
  end_told = trailer_of at_end

  end_both : (length at_end ≡ trailer_length) × (trailer_fits (line_size system) end_told (length file) ≡ true)
  unfolding question.begun_of
  end_both =
      let two = and_true (eqb (length at_end) trailer_length) (trailer_fits (line_size system) end_told (length file)) (not_false _ begun) in
      (eqb-true _ _ two.0, two.1)

  end_tells : end_told ≡ record { offset = offset_in at_end; entries = entries_in at_end; lines = lines_in at_end }
  unfolding trailer_of
  end_tells = simp (eq-eqb (length at_end) trailer_length end_both.0)

  trailer_fits_there : Fits (line_size system) at_end (index_in file) (length file)
  unfolding trailer_fits
  trailer_fits_there =
      let fits = rw end_tells at end_both.1 in
      let two = and_true (leb (lines_in at_end) most_lines && eqb (offset_in at_end) (lines_in at_end * line_size system)) _ fits in
      let lines = and_true (leb (lines_in at_end) most_lines) _ two.0 in
      let whole : offset_in at_end + entry_length * entries_in at_end + trailer_length ≡ length file = eqb-true _ _ two.1 in
      let entries : length (index_in file) ≡ entry_length * entries_in at_end =
      length-take-le (entry_length * entries_in at_end) (drop (offset_in at_end) file) (omega (arith, length-drop (offset_in at_end) file)) in
      record {
        trailer = end_both.0;
        few = leb-true _ _ lines.0;
        offset = eqb-true _ _ lines.1;
        entries = entries;
        whole = omega (arith, entries, whole);
      }

pub theirs_unrefused : TheirsUnrefused
theirs_unrefused system start file named begun says =
    let n = same_number named in
    let fits = trailer_fits_there system start file begun in
    let all = said_accepted system start file n says in
    let rs = repairs system start (lines_part file) in
    let well = index_well rs 0 0 (lines_in (trailer_in file)) (each_repairs (reports_in system start file)) (omega arith) (omega (arith, told_lines system start file fits all)) in
    let those = entries_of (index_in file) in
    let rises = well_rises those 0 (lines_in (trailer_in file)) (rw (their_entries system start file n says) well) in
    index.sound_accepted system start _ _ _ named (record { fits = fits; rises = rises })

-- ---- What is finished of a recording that is confirmed.
module _ (recording : List ℕ) (confirmed : (confirmed_of recording).number ≡ 0) where
  abbrev system : ℕ
  system = header_system recording

  abbrev start : ℕ
  start = header_start recording

  abbrev body : List ℕ
  body = drop header_length recording

  named : (named_refusal system start).number ≡ 0
  unfolding confirmed_of begun_of
  named =
      by_test (eqb (fresh_run system start).number 0)
      (λ t. sym (fresh_number system start) ∙ eqb-true _ _ t)
      (λ f. absurd (eqb-false _ _ f (ap (λ (r : Run). r.number) (sym (body_ended (fresh_run system start) body (eqb-false _ _ f))) ∙ confirmed)))

  all_accepted : AllAccepted (fresh_walk system start) (lines system start body)
  unfolding confirmed_of begun_of body_of
  all_accepted =
      through_accepted (lines system start body) (run_at system start) refl
      (ap (λ (r : Run). (body_of r body).number) (sym (fresh_run_is system start named)) ∙ confirmed)

  finished_is : finished_of recording ≡ file system start body
  unfolding finished_of begun_of
  finished_is = ap (λ (m : Making). file_of m body) (body_made system start body named) ∙ file_made system start body all_accepted

  finished_lines : lines_part (finished_of recording) ≡ body
  finished_lines = ap lines_part finished_is ∙ lines_part_is system start body all_accepted

  finished_accepted : file_refusal system start (finished_of recording) ≡ none
  finished_accepted =
      ap (file_refusal system start) finished_is
      ∙ index.sound_accepted system start _ _ _ (named_none system start named) (file_sound system start body all_accepted)

  finished_theirs : Theirs system start (finished_of recording)
  finished_theirs =
      record {
        accepted = subst (λ (l : List ℕ). AllAccepted (fresh_walk system start) (lines system start l)) (sym finished_lines) all_accepted;
        index =
            ap index_in finished_is ∙ index_part_is system start body all_accepted
            ∙ ap (λ (l : List ℕ). index_part (repairs system start l)) (sym finished_lines);
      }

-- ---- `finished-checks`, `lines-back`, and that the hypotheses of `answered` can be met.
pub finished_checks : FinishedChecks
finished_checks recording confirmed =
    let checked =
    theirs_checked (header_system recording) (header_start recording) (finished_of recording) (named recording confirmed) (finished_theirs recording confirmed) in
    (finished_accepted recording confirmed, checked)

pub lines_back : LinesBack
lines_back recording confirmed = finished_lines recording confirmed

pub theirs_met : TheirsMet
theirs_met recording confirmed = finished_theirs recording confirmed

-- ---- `unfit-unanswered`.
pub unfit_unanswered : UnfitUnanswered
unfit_unanswered system start trailer part file a b = index.unfit_unanswered system start trailer part file a b

-- ---- What entries tell of a line: the repairs of its entry, or none.
abbrev tells : List Entry → ℕ → ℕ
tells [] j = 0
tells (e ∷ es) j = cond (eqb e.ordinal j) e.repairs (tells es j)

tells_none : (es : List Entry) (least n j : ℕ) → entries_well least n es ≡ true → j < least → tells es j ≡ 0
tells_none [] least n j w l = refl
tells_none (e ∷ es) least n j w l =
    let k = well least n e es w in
    simp (ne_eqb e.ordinal j (λ z. omega (arith, k.low))) (tells_none es (suc e.ordinal) n j k.rest (omega (arith, k.low)))

told_at : (k i n j p : ℕ) (es : List Entry) → entries_well i n es ≡ true → j < k → p ≡ i + j → get_or (repairs_from k i es) j 0 ≡ tells es p
unfolding repairs_from entries_well
told_at zero i n j p es w l q = absurd (omega arith)
told_at (suc k) i n zero p [] w l q = refl
told_at (suc k) i n (suc j) p [] w l q = told_at k (suc i) n j p [] refl (omega arith) (omega arith)
told_at (suc k) i n zero p (e ∷ es) w l q =
    let v = well i n e es w in
    by_test (eqb e.ordinal i)
    (λ t. simp (t, eq-eqb e.ordinal p (omega (arith, eqb-true e.ordinal i t))))
    (λ f.
    simp (f, ne_eqb e.ordinal p (λ z. eqb-false e.ordinal i f (omega arith)))
    (sym (tells_none es (suc e.ordinal) n p v.rest (omega (arith, v.low)))))
told_at (suc k) i n (suc j) p (e ∷ es) w l q =
    let v = well i n e es w in
    by_test (eqb e.ordinal i)
    (λ t.
    let at = eqb-true e.ordinal i t in
    simp (t, ne_eqb e.ordinal p (λ z. omega (arith, at)))
    (told_at k (suc i) n j p es (ap (λ (o : ℕ). entries_well (suc o) n es) (sym at) ∙ v.rest) (omega arith) (omega arith)))
    (λ f.
    let past = above v.low (eqb-false _ _ f) in
    simp f
    (told_at k (suc i) n j p (e ∷ es)
    (well_back (suc i) n e es (record { low = past; high = v.high; repairs = v.repairs; rest = v.rest })) (omega arith) (omega arith)))
  where
    above : i ≤ e.ordinal → (e.ordinal ≡ i → ⊥) → suc i ≤ e.ordinal
    above low other = omega arith

-- ---- Where entries differ, the ordinal is the first of which they do not tell the same.
record First (es fs : List Entry) (least n i : ℕ) : Type 0 where
  low : least ≤ i
  high : i < n
  same : (j : ℕ) → j < i → tells es j ≡ tells fs j
  differs : tells es i ≡ tells fs i → ⊥

turned : {es fs : List Entry} {least n i : ℕ} → First es fs least n i → First fs es least n i
turned f = record { low = f.low; high = f.high; same = λ j l. sym (f.same j l); differs = λ z. f.differs (sym z) }

-- an entry that has none beside it
alone : (e : Entry) (es fs : List Entry) (least n : ℕ) → Well least n e es → entries_well (suc e.ordinal) n fs ≡ true
    → First (e ∷ es) fs least n e.ordinal
alone e es fs least n w v =
    record {
      low = w.low;
      high = w.high;
      same =
          λ j l.
          simp (ne_eqb e.ordinal j (λ z. omega arith))
          (tells_none es (suc e.ordinal) n j w.rest (omega arith) ∙ sym (tells_none fs (suc e.ordinal) n j v (omega arith)));
      differs =
          λ z.
          let some : e.repairs ≡ 0 =
          (simp (eq-eqb e.ordinal e.ordinal refl) at z) ∙ tells_none fs (suc e.ordinal) n e.ordinal v (omega arith) in
          ⊎_elim (λ x. omega arith) (λ x. omega arith) w.repairs;
    }

-- two of one line, with other repairs
beside : (e f : Entry) (es fs : List Entry) (least n : ℕ) → Well least n e es → Well least n f fs → e.ordinal ≡ f.ordinal
    → (e.repairs ≡ f.repairs → ⊥) → First (e ∷ es) (f ∷ fs) least n e.ordinal
beside e f es fs least n w v at other =
    record {
      low = w.low;
      high = w.high;
      same =
          λ j l.
          simp (ne_eqb e.ordinal j (λ z. omega arith), ne_eqb f.ordinal j (λ z. omega arith))
          (tells_none es (suc e.ordinal) n j w.rest (omega arith) ∙ sym (tells_none fs (suc f.ordinal) n j v.rest (omega arith)));
      differs = λ z. other (simp (eq-eqb e.ordinal e.ordinal refl, eq-eqb f.ordinal e.ordinal (sym at)) at z);
    }

-- one that is the same leaves it to those behind
behind_same : (e : Entry) (es fs : List Entry) (least n i : ℕ) → least ≤ e.ordinal → First es fs (suc e.ordinal) n i
    → First (e ∷ es) (e ∷ fs) least n i
behind_same e es fs least n i l f =
    record {
      low = omega (arith, f.low);
      high = f.high;
      same = λ j m. ap (λ (r : ℕ). cond (eqb e.ordinal j) e.repairs r) (f.same j m);
      differs = λ z. f.differs (simp (ne_eqb e.ordinal i (λ q. omega (arith, f.low))) at z);
    }

differing_first : (es fs : List Entry) (least n : ℕ) → entries_well least n es ≡ true → entries_well least n fs ≡ true
    → (differing es fs).differs ≡ true → First es fs least n (differing es fs).ordinal
unfolding differing entries_well
differing_first [] [] least n w v d = absurd (true≢false (sym d))
differing_first [] (f ∷ fs) least n w v d = turned (alone f fs [] least n (well least n f fs v) refl)
differing_first (e ∷ es) [] least n w v d = alone e es [] least n (well least n e es w) refl
differing_first (e ∷ es) (f ∷ fs) least n w v d =
    let we = well least n e es w in
    let wf = well least n f fs v in
    by_test (same_entry e f)
    (λ t.
    let one = same_entry_is e f t in
    let rest = ap (λ (x : Entry). entries_well (suc x.ordinal) n fs) one ∙ wf.rest in
    simp t
    (subst (λ (x : Entry). First (e ∷ es) (x ∷ fs) least n (differing es fs).ordinal) one
    (behind_same e es fs least n (differing es fs).ordinal we.low
    (differing_first es fs (suc e.ordinal) n we.rest rest (simp t at d)))))
    (λ g.
    by_test (ltb f.ordinal e.ordinal)
    (λ t.
    let past = ltb-true _ _ t in
    simp (g, t)
    (turned (alone f fs (e ∷ es) least n wf
    (well_back (suc f.ordinal) n e es (record { low = past; high = we.high; repairs = we.repairs; rest = we.rest })))))
    (λ u.
    let not-past = ltb-false _ _ u in
    simp (g, u)
    (by_test (eqb e.ordinal f.ordinal)
    (λ q. beside e f es fs least n we wf (eqb-true _ _ q) (λ r. true≢false (sym (both_same q r) ∙ g)))
    (λ q.
    alone e es (f ∷ fs) least n we
    (well_back (suc e.ordinal) n f fs
    (record { low = above not-past (eqb-false _ _ q); high = wf.high; repairs = wf.repairs; rest = wf.rest }))))))
  where
    both_same : eqb e.ordinal f.ordinal ≡ true → e.repairs ≡ f.repairs → same_entry e f ≡ true
    both_same q r = simp (q, eq-eqb e.repairs f.repairs r)

    above : e.ordinal ≤ f.ordinal → (e.ordinal ≡ f.ordinal → ⊥) → suc e.ordinal ≤ f.ordinal
    above l q = omega arith

-- ---- `differs-first`.
pub differs_first : DiffersFirst
differs_first system start file accepted all d =
    let s = stood system start file accepted in
    let reports = reports_in system start file in
    let rs = repairs_of_all reports in
    let n = lines_in (trailer_in file) in
    let those = entries_of (index_in file) in
    let count = told_lines system start file s.sound.fits all in
    let meets : meeting_in system start file ≡ differing (index_of rs) those =
    ap (λ (m : Making). differing (entries_of m.index) those) (reading_made system start file s.named)
    ∙ ap (λ (es : List Entry). differing es those) (entries_made system start (lines_part file) all) in
    let ours-well = index_well rs 0 0 n (each_repairs reports) (omega arith) (omega (arith, count)) in
    let those-well = rises_well those 0 n (λ l. omega arith) s.sound.rises in
    let first =
    differing_first (index_of rs) those 0 n ours-well those-well (ap (λ (m : Meeting). m.differs) (sym meets) ∙ d) in
    let told : (j : ℕ) → j < n → get_or (told_in file) j 0 ≡ tells those j =
    λ j l. told_at n 0 n j j those those-well l (omega arith) in
    let read : (j : ℕ) → j < n → get_or rs j 0 ≡ tells (index_of rs) j =
    λ j l.
    ap (λ (l : List ℕ). get_or l j 0) (sym (repairs_back rs 0 (each_repairs reports)))
    ∙ told_at (length rs) 0 n j j (index_of rs) ours-well (omega (arith, count)) (omega arith) in
    subst (λ (m : Meeting). FirstDifference (told_in file) rs m.ordinal) (sym meets)
    (record {
      there = omega (arith, first.high, count);
      same = λ j l. told j (omega (arith, first.high)) ∙ sym (first.same j l) ∙ sym (read j (omega (arith, first.high)));
      differs = λ z. first.differs (sym (read _ first.high) ∙ sym z ∙ told _ first.high);
    })
