-- What reading every line makes: its run is the run over the lines, and where all are accepted, the bytes that it adds are the index of their
-- repairs, line by line, and the entries are counted. Assumes nothing.
use Rattle.std.proofs.Common.{◌≡◌, ℕ, ◌+◌, ◌^◌, ◌<◌, ◌≤◌, eqb, List, [], ◌∷◌, ◌++◌, length, sym, refl, ap, ◌∙◌, append_assoc, append-nil, arith, eq-eqb}
use Rattle.refusal.proofs.Cases.{by_test}
use Rattle.system.specs.declared.walk.Walk.{Walk}
use Rattle.bytewise.specs.Bytes.{judged_bytes}
use Rattle.confirmation.specs.declared.Run.{Run}
use Rattle.confirmation.specs.Run.{judged_next, through}
use Rattle.index.specs.declared.entry.Entry.{Entry}
use Rattle.index.specs.Entries.{index_from, index_bytes}
use Rattle.finished.specs.Reading.{reports_of, AllAccepted, repairs_of_all}
use Rattle.finished.specs.Finish.{line_repairs, line_adds, counted_in, finished_next, Making, with_line, make_through}
use Rattle.bytewise.proofs.Judged.{accepted_counted}
use Rattle.finished.proofs.Reading.{accepted_through, through_lines}

-- the index of lines with these reports, from a walk on
abbrev pub index_at : Walk → List (List ℕ) → List Entry
index_at w lines = index_from w.lines (repairs_of_all (reports_of w lines))

make_next : (m : Making) (bytes : List ℕ) (rest : List (List ℕ)) → m.finishing.run.number ≡ 0
    → make_through m (bytes ∷ rest) ≡ make_through (with_line m bytes) rest
unfolding make_through
make_next m bytes rest e = simp (eq-eqb _ _ e)

pub made_run : (lines : List (List ℕ)) (m : Making) → (make_through m lines).finishing.run ≡ through m.finishing.run lines
unfolding make_through through finished_next
made_run [] m = refl
made_run (bytes ∷ rest) m =
    by_test (eqb m.finishing.run.number 0) (λ t. simp t (made_run rest (with_line m bytes))) (λ f. simp f)

-- ---- Where all lines are accepted, the run goes on and they are counted.
module _ (lines : List (List ℕ)) (m : Making) (going : m.finishing.run.number ≡ 0) (all : AllAccepted m.finishing.run.walk lines) where
  pub made_number : (make_through m lines).finishing.run.number ≡ 0
  made_number = ap (λ (r : Run). r.number) (made_run lines m) ∙ accepted_through lines m.finishing.run going all

  pub made_lines : (make_through m lines).finishing.run.walk.lines ≡ m.finishing.run.walk.lines + length lines
  made_lines = ap (λ (r : Run). r.walk.lines) (made_run lines m) ∙ through_lines lines m.finishing.run going all

-- ---- The index of a line and of those behind it.
line_index : (w : Walk) (bytes : List ℕ) (rest : List (List ℕ)) → (judged_bytes w bytes).number ≡ 0
    → line_adds w bytes ++ index_bytes (index_at (judged_bytes w bytes).walk rest) ≡ index_bytes (index_at w (bytes ∷ rest))
unfolding line_adds reports_of repairs_of_all index_from index_bytes
line_index w bytes rest z =
    rw (accepted_counted w bytes z).lines
    (by_test (eqb (line_repairs w bytes) 0) (λ t. simp t) (λ f. simp f))

pub made_index : (lines : List (List ℕ)) (m : Making) → m.finishing.run.number ≡ 0 → AllAccepted m.finishing.run.walk lines
    → (make_through m lines).index ≡ m.index ++ index_bytes (index_at m.finishing.run.walk lines)
unfolding make_through finished_next judged_next reports_of repairs_of_all index_from index_bytes
made_index [] m e all = sym (append-nil m.index)
made_index (bytes ∷ rest) m e all =
    let w = m.finishing.run.walk in
    ap (λ (n : Making). n.index) (make_next m bytes rest e)
    ∙ made_index rest (with_line m bytes) all.0 all.1
    ∙ append_assoc m.index (line_adds w bytes) (index_bytes (index_at (judged_bytes w bytes).walk rest))
    ∙ ap (λ (l : List ℕ). m.index ++ l) (line_index w bytes rest all.0)

-- ---- And how many entries it has, below 2^32.
line_entries : (k : ℕ) (w : Walk) (bytes : List ℕ) (rest : List (List ℕ)) → (judged_bytes w bytes).number ≡ 0 → k + 1 < 2 ^ 32
    → counted_in k w bytes + length (index_at (judged_bytes w bytes).walk rest) ≡ k + length (index_at w (bytes ∷ rest))
unfolding counted_in reports_of repairs_of_all index_from
line_entries k w bytes rest z fits =
    rw (accepted_counted w bytes z).lines
    (by_test (eqb (line_repairs w bytes) 0) (λ t. simp t) (λ f. simp f (omega arith)))

line_entries_few : (k : ℕ) (w : Walk) (bytes : List ℕ) → counted_in k w bytes ≤ k + 1
unfolding counted_in
line_entries_few k w bytes =
    by_test (eqb (line_repairs w bytes) 0) (λ t. simp t (omega arith)) (λ f. simp f (omega arith))

pub made_entries : (lines : List (List ℕ)) (m : Making) → m.finishing.run.number ≡ 0 → AllAccepted m.finishing.run.walk lines
    → m.finishing.entries + length lines < 2 ^ 32
    → (make_through m lines).finishing.entries ≡ m.finishing.entries + length (index_at m.finishing.run.walk lines)
unfolding make_through finished_next judged_next reports_of repairs_of_all index_from
made_entries [] m e all fits = omega arith
made_entries (bytes ∷ rest) m e all fits =
    let w = m.finishing.run.walk in
    let k = m.finishing.entries in
    ap (λ (n : Making). n.finishing.entries) (make_next m bytes rest e)
    ∙ made_entries rest (with_line m bytes) all.0 all.1 (omega (arith, line_entries_few k w bytes))
    ∙ line_entries k w bytes rest all.0 (omega arith)
