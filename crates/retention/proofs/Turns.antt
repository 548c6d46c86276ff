-- What a sink and a turn come to, case by case. Assumes nothing.
use Rattle.std.proofs.Common.{◌≡◌, ℕ, ℤ, Bool, true, false, ◌+◌, List, [], length, take, drop, min, refl, ap, sym, ◌∙◌, arith, eq-eqb, ne_eqb, Result, Ok, Err}
use lib.Seq.{take-append_seam}
use Rattle.std.proofs.lemmas.Grind.{common_steps}
use Rattle.intake.specs.declared.Filled.{Filled}
use Rattle.finished.specs.declared.Finishing.{Finishing}
use Rattle.finished.specs.declared.meeting.Meeting.{Meeting}
use Rattle.finished.specs.Finish.{Turn, room_after}
use Rattle.console.specs.declared.Status.{Status}
use Rattle.finished.specs.Check.{lower, met_of, is_theirs}
use Rattle.retention.specs.declared.sink.Index.{Index}
use Rattle.retention.specs.declared.sink.Sink.{Sink}
use Rattle.retention.specs.declared.sink.Sink.TheVariants.{Finishing as Finishes, Checking}
use Rattle.retention.specs.declared.carrying.Carried.{Carried}
use Rattle.retention.specs.declared.pieces.Parts.{Parts}
use Rattle.retention.specs.Pieces.{filled_status, written_status}
use Rattle.retention.specs.Turn.{Answers, entries_room, due_beside, behind_of, met_as, met_by, put_as, Turned, taken_by, moved_of, reached_by, made_by, reached_of, end_by, failure_of, found_status, read_status, checked_as, checked_status}

-- the lower of two sizes
least_lower : (a b : ℕ) → min a b ≡ lower b a
least_lower a b = grind (arith, common_steps)

-- ---- a sink

-- how reading of an index went that was filled so, and its bytes
abbrev pub read_as : Filled → List ℕ → Answers
read_as filled theirs = record { written = true; filled = filled; theirs = theirs }

-- whether lines and entries were written, where no index was read
abbrev pub wrote_as : Bool → Answers
wrote_as written = record { written = written; filled = record { have = 0; done = true; failed = false }; theirs = [] }

module _ (i : Index) (entries : List ℕ) (most less due : ℕ) (filled : Filled) (l : less ≡ min most entries_room)
    (d : due ≡ lower less i.left) (r : Result Index Status) where
  abbrev Met : Type 0
  Met = (answers : Answers) × (r ≡ met_by i entries (due_beside i most) answers)

  at_due : (theirs : List ℕ) → r ≡ met_as i entries due (filled_status filled due) theirs → Met
  unfolding met_by
  at_due theirs is =
      let is_due : due ≡ due_beside i most = d ∙ ap (λ (n : ℕ). lower n i.left) (l ∙ least_lower most entries_room) in
      (read_as filled theirs, is ∙ ap (λ (n : ℕ). met_by i entries n (read_as filled theirs)) is_due)

  pub met_nothing : (status : Status) → filled_status filled due ≡ Err status → r ≡ Err status → Met
  met_nothing status e is = at_due [] (is ∙ sym (ap (λ (x : Result (Unit {0}) Status). met_as i entries due x []) e))

  pub met_index : (theirs : List ℕ) → filled_status filled due ≡ Ok tt → r ≡ Ok (behind_of i due (met_of i.meeting entries theirs)) → Met
  met_index theirs e is = at_due theirs (is ∙ sym (ap (λ (x : Result (Unit {0}) Status). met_as i entries due x theirs) e))

-- lines of a file that is finished were written with their entries, or could not be
pub put_in_file : (s : Sink) (file beside : ℤ) (entries : List ℕ) → s ≡ Finishes file beside → (written : Bool) (put : Result (Unit {0}) Status)
    → put ≡ written_status written → (r : Result Sink Status) → r ≡ put_as (Finishes file beside) put → (answers : Answers) × (r ≡ taken_by s entries answers)
put_in_file s file beside entries e written put w r is =
    (wrote_as written, is ∙ ap (λ (x : Result (Unit {0}) Status). put_as (Finishes file beside) x) w ∙ ap (λ (x : Sink). taken_by x entries (wrote_as written)) (sym e))

-- ---- a turn

-- the entries that were put are those at the start of the room
pub put_entries : (index before room : List ℕ) (put : ℕ) → put ≡ length index → room ≡ room_after index before → take put room ≡ index
unfolding room_after
put_entries index before room put p r =
    rw (r, p) (take-append_seam index (drop (length index) before))

-- what a call made, field by field
same_turn : (t : Turn) (finishing : Finishing) (taken : ℕ) (index : List ℕ) → finishing ≡ t.finishing → taken ≡ t.taken → index ≡ t.index
    → record { finishing = finishing; taken = taken; index = index } ≡ t
same_turn t finishing taken index f k i = simp (f, k, i)

module _ (c : Carried) (count room : ℕ) (buffer : List ℕ) (finishing : Finishing) (taken : ℕ) (index : List ℕ)
    (f : finishing ≡ (made_by c count buffer room).finishing) (k : taken ≡ (made_by c count buffer room).taken)
    (i : index ≡ (made_by c count buffer room).index) (took : Result Sink Status) (answers : Answers) (t : took ≡ taken_by c.sink index answers)
    (r : Turned) where
  abbrev Reached : Type 0
  Reached = (answers : Answers) × (r ≡ reached_of c count buffer room answers)

  by_made : r ≡ reached_by c (record { finishing = finishing; taken = taken; index = index }) count (length buffer) took → Reached
  unfolding reached_of
  by_made is =
      let made = same_turn (made_by c count buffer room) finishing taken index f k i in (
        answers,
        is ∙ ap (λ (x : Result Sink Status). reached_by c (record { finishing = finishing; taken = taken; index = index }) count (length buffer) x) t
            ∙ ap (λ (x : Turn). reached_by c x count (length buffer) (taken_by c.sink x.index answers)) made,
      )

  pub reached_end : c.at + taken ≡ length buffer → r ≡ moved_of c finishing took count 0 0 → Reached
  reached_end end is = by_made (is ∙ (simp (eq-eqb (c.at + taken) (length buffer) end)))

  pub reached_part : (c.at + taken ≡ length buffer → ⊥) → r ≡ moved_of c finishing took count (c.at + taken) (c.have + count) → Reached
  reached_part left is = by_made (is ∙ (simp (ne_eqb (c.at + taken) (length buffer) left)))

-- ---- the exit status of `check`
module _ (c : Carried) (parts : Result Parts Status) (ended : Result Meeting Status) (answers : Answers) (e : ended ≡ end_by c.sink answers) (r : ℕ) where
  abbrev Checked : Type 0
  Checked = (answers : Answers) × (read : Result Parts Status) × (r ≡ checked_status c read answers)

  -- the same answers, with whether what was found could be written
  abbrev said_as : Bool → Answers
  said_as written = record { written = written; filled = answers.filled; theirs = answers.theirs }

  same_end : (s : Sink) (written : Bool) → end_by s answers ≡ end_by s (said_as written)
  unfolding met_by
  same_end (Finishes file beside) written = refl
  same_end (Checking index) written = refl

  by_end : (written : Bool) → r ≡ checked_as c ended parts written → Checked
  by_end written is = (said_as written, parts, is ∙ ap (λ (x : Result Meeting Status). checked_as c x parts written) (e ∙ same_end c.sink written))

  pub check_unread : (status : Status) → ended ≡ Err status → r ≡ failure_of status → Checked
  check_unread status w is = by_end true (rw w is)

  pub check_theirs : (meeting : Meeting) → ended ≡ Ok meeting → (test : Bool) → test ≡ is_theirs c.finishing.run meeting → test ≡ true → (written : Bool)
      → r ≡ found_status c.finishing.run meeting written → Checked
  check_theirs meeting w test t y written is = by_end written (rw w (is ∙ (simp (← t, y))))

  pub check_other : (meeting : Meeting) → ended ≡ Ok meeting → (test : Bool) → test ≡ is_theirs c.finishing.run meeting → test ≡ false → (written : Bool)
      → r ≡ read_status c.finishing.run meeting parts written → Checked
  check_other meeting w test t n written is = by_end written (rw w (is ∙ (simp (← t, n))))
