-- Laws of the run over the bytes behind a header: it ends with its refusal, and it is judged line after line, however many bytes follow.
-- Assumes nothing.
use Rattle.std.proofs.Common.{◌≡◌, ℕ, ◌≤◌, List, [], ◌∷◌, length, take, drop, sym, refl, ap, ◌∙◌, arith, length-drop, drop_of_length-le, take_all, eq-eqb, ne_eqb}
use Rattle.intake.specs.Arrival.{pieces}
use Rattle.intake.proofs.Pieces.{pieces_enough}
use Rattle.system.specs.declared.walk.Walk.{Walk}
use Rattle.system.specs.Figures.{system_of}
use Rattle.system.specs.Walk.{walk_refusal, line_bytes}
use Rattle.system.proofs.Laws.{line_is_parts}
use Rattle.confirmation.specs.declared.Run.{Run}
use Rattle.confirmation.specs.Run.{judged_next, through, body_of}
use Rattle.confirmation.proofs.Nexts.{ended_with, next_refused, next_line_bytes}

pub line_has_bytes : (w : Walk) → 1 ≤ line_bytes w
line_has_bytes w = omega (arith, line_is_parts (system_of w.system))

pub through_ended : (r : Run) (ps : List (List ℕ)) → (r.number ≡ 0 → ⊥) → through r ps ≡ r
unfolding through
through_ended r [] n = refl
through_ended r (p ∷ ps) n = simp (ne_eqb _ _ n)

pub body_ended : (r : Run) (bytes : List ℕ) → (r.number ≡ 0 → ⊥) → body_of r bytes ≡ r
unfolding body_of
body_ended r bytes n = through_ended r _ n

pub body_none : (r : Run) → body_of r [] ≡ r
unfolding body_of through pieces
body_none r = refl

-- the first line of the bytes that are there, and the run over the others
pub body_next : (r : Run) (bytes : List ℕ) → r.number ≡ 0 → 1 ≤ length bytes
    → body_of r bytes ≡ body_of (judged_next r (take (line_bytes r.walk) bytes)) (drop (line_bytes r.walk) bytes)
unfolding body_of through pieces
body_next r [] e l = absurd (omega arith)
body_next r (b ∷ bytes) e l =
    let n = line_bytes r.walk in
    let m = line_has_bytes r.walk in
    let rest = drop n (b ∷ bytes) in
    let less = length-drop n (b ∷ bytes) in
    simp (eq-eqb _ _ e)
    (ap (through (judged_next r (take n (b ∷ bytes))))
    (pieces_enough n (length bytes) (length rest) rest m (omega arith) (omega arith)
    ∙ ap (λ (k : ℕ). pieces (length rest) k rest) (sym (next_line_bytes r (take n (b ∷ bytes))))))

-- a walk that refuses every line ends the run at the first byte, whatever follows
pub body_barred : (r : Run) (bytes : List ℕ) → r.number ≡ 0 → 1 ≤ length bytes → ((walk_refusal r.walk).number ≡ 0 → ⊥)
    → body_of r bytes ≡ ended_with r (walk_refusal r.walk)
body_barred r bytes e l n =
    body_next r bytes e l
    ∙ ap (λ (s : Run). body_of s (drop (line_bytes r.walk) bytes)) (next_refused r (take (line_bytes r.walk) bytes) n)
    ∙ body_ended _ _ n

-- the last line, which may be short
pub body_last : (r : Run) (bytes : List ℕ) → r.number ≡ 0 → 1 ≤ length bytes → length bytes ≤ line_bytes r.walk
    → body_of r bytes ≡ judged_next r bytes
body_last r bytes e l h =
    body_next r bytes e l
    ∙ ap (λ (rest : List ℕ). body_of (judged_next r (take (line_bytes r.walk) bytes)) rest) (drop_of_length-le bytes h)
    ∙ body_none _ ∙ ap (judged_next r) (take_all (line_bytes r.walk) bytes h)
