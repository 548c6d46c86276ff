-- The promises on a run, of the definitions that the calls' contracts cite. Assumes nothing.
use Rattle.std.proofs.Common.{◌≡◌, ℕ, ◌+◌, ◌<◌, ◌≤◌, true, List, [], ◌∷◌, ◌++◌, length, drop, sym, refl, ap, ◌∙◌, subst, arith, length-append, length-drop, drop_of_length-le, drop_at, le-ltb, lt-ltb, ne_eqb}
use mathlib.Core.List.{flatten}
use lib.ListN.{get_or-append}
use Rattle.refusal.specs.Table.{Keeps}
use Rattle.refusal.proofs.Firsts.{same_number}
use Rattle.intake.proofs.Pieces.{Whole, fed_whole}
use Rattle.system.specs.Figures.{is_system}
use Rattle.system.specs.Walk.{most_lines, is_line, walk_refusal}
use Rattle.system.specs.Refusals.{named_refusals}
use Rattle.system.proofs.Laws.{walk_many_lines, named_accepted, named_no_system}
use Rattle.system.proofs.Theorems.{fresh_refusal, named_exact}
use Rattle.confirmation.specs.declared.Run.{Run}
use Rattle.confirmation.specs.declared.Followed.{Followed}
use Rattle.confirmation.specs.declared.Outcome.{Outcome}
use Rattle.confirmation.specs.Run.{header_length, header_word, header_system, header_start, begun_of, body_of, confirmed_of, outcome_of}
use Rattle.confirmation.specs.Follow.{followed_of, closed_of, following, fed}
use Rattle.confirmation.proofs.Nexts.{ended_with, next_refused}
use Rattle.confirmation.proofs.Bodies.{line_has_bytes, body_none}
use Rattle.confirmation.proofs.Follows.{Short, follow_rests, follow_barred, follow_within, body_followed, close_body}

-- ---- The run is the same, however its bytes are cut.
-- What a call takes lies within its bytes, and what is left is shorter than a line where the run goes on.
pub taken_within : (r : Run) (bytes : List ℕ)
    → ((followed_of r bytes).taken ≤ length bytes) × Short (followed_of r bytes).run (drop (followed_of r bytes).taken bytes)
unfolding followed_of
taken_within r bytes =
    let w = follow_within (length bytes) r bytes 0 (length bytes) (omega arith) (omega arith) in
    (w.taken, λ o. omega (arith, w.taken, w.left o, length-drop (followed_of r bytes).taken bytes))

followed_whole : Whole Run ℕ following body_of Short
unfolding followed_of
followed_whole =
    record {
      goes_on = λ r ready more. body_followed (length ready) r ready 0 ready more refl;
      left = λ r ready. (taken_within r ready).1;
      ends = close_body;
    }

-- a header is its first four bytes
pub header_more : (h more : List ℕ) (i : ℕ) → length h ≡ header_length → i + 1 < header_length → header_word (h ++ more) i ≡ header_word h i
header_more h more i e l =
    simp (
      le-ltb (length h) header_length (omega arith),
      le-ltb (length (h ++ more)) header_length (omega (arith, length-append h more)),
      get_or-append h more 0 i (omega arith),
      get_or-append h more 0 (i + 1) (omega arith),
    )

pub begun_more : (h more : List ℕ) → length h ≡ header_length → begun_of (h ++ more) ≡ begun_of h
unfolding begun_of
begun_more h more e = rw (header_more h more 0 e (omega arith), header_more h more 2 e (omega arith))

pub any_pieces : (h : List ℕ) (ps : List (List ℕ)) → length h ≡ header_length → fed (begun_of h) [] ps ≡ confirmed_of (h ++ flatten ps)
unfolding confirmed_of
any_pieces h ps e =
    fed_whole following body_of Short followed_whole ps (begun_of h) [] (λ o. line_has_bytes (begun_of h).walk)
    ∙ ap (λ (r : Run). body_of r (flatten ps)) (sym (begun_more h (flatten ps) e))
    ∙ ap (body_of (begun_of (h ++ flatten ps))) (sym (drop_at h (flatten ps) header_length e))

-- Under four bytes of header count as system 0, start 0: the run is its header's, and that is refused with 1.
pub short_header : (h : List ℕ) → length h < header_length → (confirmed_of h ≡ begun_of h) × ((begun_of h).number ≡ 1)
unfolding confirmed_of begun_of is_system
short_header h l =
    let m : length h ≤ header_length = omega arith in
    let one = same_number (sym (fresh_refusal 0 0)) ∙ same_number (named_no_system 0 0 refl) in
    (ap (body_of (begun_of h)) (drop_of_length-le h m) ∙ body_none (begun_of h), simp (lt-ltb (length h) header_length l) one)

-- ---- Refusals end a run.
-- Any byte after 10,000,000 lines is refusal 4, at once: the walk stands, and the byte is not taken.
pub limit_at_once : (r : Run) (b : ℕ) (bytes : List ℕ) → r.number ≡ 0 → is_system r.walk.system ≡ true
    → is_line r.walk.system r.walk.line ≡ true → most_lines ≤ r.walk.lines
    → followed_of r (b ∷ bytes) ≡ record { run = ended_with r (record { number = 4; place = 0 }); taken = 0 }
unfolding followed_of
limit_at_once r b bytes o s n m =
    let e = walk_many_lines r.walk (same_number (named_accepted r.walk.system r.walk.line s n)) m in
    let bars : (walk_refusal r.walk).number ≡ 0 → ⊥ = λ z. omega (arith, same_number e) in
    follow_barred r (b ∷ bytes) (length bytes) 0 (record { goes_on = o; some = omega arith }) bars
    ∙ ap (λ (s : Run). record { run = s; taken = 0 }) (next_refused r (b ∷ bytes) bars ∙ ap (ended_with r) e)

-- A run that has ended stays as it is, and takes nothing more.
pub ended_stays : (r : Run) (bytes : List ℕ) → (r.number ≡ 0 → ⊥)
    → (followed_of r bytes ≡ record { run = r; taken = 0 }) × (closed_of r bytes ≡ r)
unfolding followed_of closed_of
ended_stays r bytes n =
    (follow_rests r bytes (length bytes) 0 (λ g. absurd (n g.goes_on)), simp (ne_eqb _ _ n))

-- The line of RESULT is 0 for an accepted run and for refusals 1 and 2, and the awaited line otherwise.
pub outcome_line : (r : Run) → (r.number < 3 → (outcome_of r).line ≡ 0) × (3 ≤ r.number → (outcome_of r).line ≡ r.walk.line)
unfolding outcome_of
outcome_line r = (λ l. simp (lt-ltb r.number 3 l), λ l. simp (le-ltb r.number 3 l))

-- ---- Each refusal of a header comes exactly when its condition holds and none earlier does.
pub begin_exact : (h : List ℕ)
    → Keeps (named_refusals (header_system h) (header_start h)) (record { number = (begun_of h).number; place = (begun_of h).place })
unfolding begun_of
begin_exact h =
    subst (Keeps (named_refusals (header_system h) (header_start h))) (fresh_refusal (header_system h) (header_start h))
    (named_exact (header_system h) (header_start h))

-- ---- Two results allowed for one input are the same.
pub begin_one_result : (h : List ℕ) (r s : Run) → r ≡ begun_of h → s ≡ begun_of h → r ≡ s
begin_one_result h r s e f = e ∙ sym f

pub follow_one_result : (run : Run) (bytes : List ℕ) (r s : Followed) → r ≡ followed_of run bytes → s ≡ followed_of run bytes → r ≡ s
follow_one_result run bytes r s e f = e ∙ sym f

pub close_one_result : (run : Run) (bytes : List ℕ) (r s : Run) → r ≡ closed_of run bytes → s ≡ closed_of run bytes → r ≡ s
close_one_result run bytes r s e f = e ∙ sym f

pub outcome_one_result : (run : Run) (r s : Outcome) → r ≡ outcome_of run → s ≡ outcome_of run → r ≡ s
outcome_one_result run r s e f = e ∙ sym f
