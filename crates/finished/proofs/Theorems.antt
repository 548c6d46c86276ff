-- The promises on finishing as bytes arrive, and on the full check, of the definitions that the calls' contracts cite. Assumes nothing.
use Rattle.std.proofs.Common.{◌≡◌, ℕ, zero, suc, ◌+◌, ◌-◌, ◌≤◌, Bool, true, false, cond, eqb, List, [], ◌∷◌, length, take, drop, sym, refl, ap, ◌∙◌, subst, ap₂, arith, length-append, length-drop}
use mathlib.Core.List.{flatten}
use Rattle.refusal.proofs.Cases.{by_test, by_cond}
use Rattle.intake.specs.Arrival.{fed_by}
use Rattle.intake.proofs.Pieces.{Whole, fed_whole}
use Rattle.system.specs.declared.walk.Walk.{Walk}
use Rattle.system.specs.Walk.{line_bytes}
use Rattle.confirmation.specs.declared.Run.{Run}
use Rattle.confirmation.specs.declared.Followed.{Followed}
use Rattle.confirmation.specs.Run.{through, body_of}
use Rattle.confirmation.specs.Follow.{followed_of}
use Rattle.confirmation.proofs.Bodies.{line_has_bytes}
use Rattle.confirmation.proofs.Follows.{Short}
use Rattle.confirmation.proofs.Theorems.{taken_within}
use Rattle.index.specs.declared.entry.Entry.{Entry}
use Rattle.index.specs.Entries.{entry_length, entry_bytes, entries_of}
use Rattle.finished.specs.declared.Finishing.{Finishing}
use Rattle.finished.specs.declared.Made.{Made}
use Rattle.finished.specs.declared.meeting.Meeting.{Meeting}
use Rattle.finished.specs.Finish.{line_repairs, line_adds, finished_next, Turn, stopped, behind, finish_from, Making, fresh_making, with_line, make_through, make_body, making}
use Rattle.finished.specs.Check.{no_difference, differs_at, lower, same_entry, differing, met_of, met_all, Entire, AllEntire}
use Rattle.finished.proofs.Entries.{differ_behind}
use Rattle.finished.proofs.Follows.{entry_long, finish_rests, finish_barred, finish_whole, by_way, finish_followed}
use Rattle.finished.proofs.Filling.{Answers}
use Rattle.finished.proofs.Makes.{run_in, make_continued, close_made}

-- ---- What is made is the same, however the bytes are cut.
abbrev Rest : Making → List ℕ → Type 0
Rest m held = Short (run_in m) held

made_whole : Whole Making ℕ making make_body Rest
unfolding followed_of
made_whole =
    record {
      goes_on = λ m ready more. make_continued (length ready) m ready 0 ready more refl;
      left =
          λ m ready.
          subst (λ (d : Followed). Short d.run (drop d.taken ready)) (sym (finish_followed (length ready) m.finishing ready 0))
          (taken_within (run_in m) ready).1;
      ends = close_made;
    }

pub finish_any_pieces : (run : Run) (ps : List (List ℕ)) → fed_by making (fresh_making run) [] ps ≡ make_body (fresh_making run) (flatten ps)
finish_any_pieces run ps = fed_whole making make_body Rest made_whole ps (fresh_making run) [] (λ o. line_has_bytes run.walk)

-- ---- The run of what is made is confirming's.
through_run : (m : Making) (lines : List (List ℕ)) → run_in (make_through m lines) ≡ through (run_in m) lines
unfolding make_through through finished_next
through_run m [] = refl
through_run m (line ∷ rest) = by_test (eqb (run_in m).number 0) (λ e. simp e (through_run (with_line m line) rest)) (λ e. simp e)

pub make_run : (m : Making) (bytes : List ℕ) → (make_body m bytes).finishing.run ≡ body_of m.finishing.run bytes
unfolding make_body body_of
make_run m bytes = through_run m _

-- ---- What a call takes and puts fits: it takes no more than the bytes, and puts a whole number of entries, at most one for each turn.
pub record Fitting (turns end : ℕ) (t : Turn) : Type 0 where
  pub index : Entire t.index
  pub most : index.count ≤ turns
  pub taken : t.taken ≤ end

idle_fits : (turns end at : ℕ) (f : Finishing) → at ≤ end → Fitting turns end (stopped f at)
idle_fits turns end at f l = record { index = record { count = 0; long = refl }; most = omega arith; taken = l }

-- with an entry before it, or none
line_fits : (w : Walk) (line : List ℕ) (turns end : ℕ) (t : Turn) → Fitting turns end t → Fitting (suc turns) end (behind (line_adds w line) t)
unfolding line_adds
line_fits w line turns end t h =
    by_cond (λ (adds : List ℕ). Fitting (suc turns) end (behind adds t)) (eqb (line_repairs w line) 0) [] (entry_bytes entry)
    (λ e. record { index = h.index; most = omega (arith, h.most); taken = h.taken })
    (λ e.
    record {
      index =
          record {
            count = suc h.index.count;
            long = length-append (entry_bytes entry) t.index ∙ omega (arith, entry_long entry, h.index.long);
          };
      most = omega (arith, h.most);
      taken = h.taken;
    })
  where
    entry : Entry
    entry = record { ordinal = w.lines; repairs = line_repairs w line }

pub finish_fits : (k : ℕ) (f : Finishing) (bytes : List ℕ) (at end : ℕ) → at + length bytes ≤ end → Fitting k end (finish_from k f bytes at)
unfolding finish_from
finish_fits zero f bytes at end l = idle_fits 0 end at f (omega arith)
finish_fits (suc k) f bytes at end l =
    let n = line_bytes f.run.walk in
    by_way f bytes
    (λ h. subst (Fitting (suc k) end) (sym (finish_rests f bytes (suc k) at h)) (idle_fits (suc k) end at _ (omega arith)))
    (λ g b. subst (Fitting (suc k) end) (sym (finish_barred f bytes k at g b)) (idle_fits (suc k) end at _ (omega arith)))
    (λ g e m.
    subst (Fitting (suc k) end) (sym (finish_whole f bytes k at n refl g e m))
    (line_fits f.run.walk (take n bytes) k end _
    (finish_fits k (finished_next f (take n bytes)) (drop n bytes) (at + n) end (omega (arith, length-drop n bytes)))))

-- ---- The index met piece by piece differs where the whole does.
-- two lists differ or they do not
one_of_two : (es fs : List Entry) → (differing es fs).differs ≡ false → differing es fs ≡ no_difference
unfolding differing
one_of_two [] [] e = refl
one_of_two [] (f ∷ fs) e = cc
one_of_two (e ∷ es) [] n = cc
one_of_two (e ∷ es) (f ∷ fs) n =
    by_cond (λ (m : Meeting). m.differs ≡ false → m ≡ no_difference) (same_entry e f) (differing es fs) (differs_at (lower e.ordinal f.ordinal))
    (λ t. one_of_two es fs) (λ t x. cc) n

met_stays : (m : Meeting) (pieces : List (List ℕ)) (index : List ℕ) → m.differs ≡ true → met_all m pieces index ≡ m
unfolding met_all met_of
met_stays m [] index e = simp e
met_stays m (ours ∷ rest) index e = simp e (met_stays m rest (drop (length ours) index) e)

entire_left : (ours index : List ℕ) → Entire ours → Entire index → Entire (drop (length ours) index)
entire_left ours index o i =
    record { count = i.count - o.count; long = length-drop (length ours) index ∙ omega (arith, o.long, i.long) }

pub met_pieces : (pieces : List (List ℕ)) (index : List ℕ) → AllEntire pieces → Entire index
    → met_all no_difference pieces index ≡ differing (entries_of (flatten pieces)) (entries_of index)
unfolding met_all met_of entries_of flatten
met_pieces [] index all whole = refl
met_pieces (ours ∷ rest) index all whole =
    let our = entries_of ours in
    let their = entries_of (take (length ours) index) in
    let left = drop (length ours) index in
    let behind = differing (entries_of (flatten rest)) (entries_of left) in
    let is = differ_behind ours (flatten rest) index all.0 whole in
    by_test (differing our their).differs
    (λ t. met_stays (differing our their) rest left t ∙ sym (is ∙ ap (λ (b : Bool). cond b (differing our their) behind) t))
    (λ t.
    ap (λ (m : Meeting). met_all m rest left) (one_of_two our their t) ∙ met_pieces rest left all.1 (entire_left ours index all.0 whole)
    ∙ sym (is ∙ ap (λ (b : Bool). cond b (differing our their) behind) t))

-- and of what is left at the end, its first entry tells
pub met_end : (m : Meeting) (rest : List ℕ) → met_of m [] (take entry_length rest) ≡ met_of m [] rest
unfolding met_of entries_of differing
met_end m [] = refl
met_end m (b0 ∷ []) = refl
met_end m (b0 ∷ b1 ∷ []) = refl
met_end m (b0 ∷ b1 ∷ b2 ∷ []) = refl
met_end m (b0 ∷ b1 ∷ b2 ∷ b3 ∷ []) = refl
met_end m (b0 ∷ b1 ∷ b2 ∷ b3 ∷ b4 ∷ []) = refl
met_end m (b0 ∷ b1 ∷ b2 ∷ b3 ∷ b4 ∷ b5 ∷ rest) = refl

-- ---- Two results allowed for one input are the same.
pub follow_one_result : (f : Finishing) (bytes before room room' : List ℕ) (r s : Made) → Answers bytes before f room r → Answers bytes before f room' s
    → (r ≡ s) × (room ≡ room')
follow_one_result f bytes before room room' r s a b = (
  ap (λ (g : Finishing). record { finishing = g; taken = r.taken; put = r.put }) (a.0 ∙ sym b.0)
      ∙ ap₂ (λ (taken put : ℕ). record { finishing = s.finishing; taken = taken; put = put }) (a.1.0 ∙ sym b.1.0) (a.1.1.0 ∙ sym b.1.1.0),
  a.1.1.1 ∙ sym b.1.1.1,
)
