-- A run's number and place keep to its table, which decides: piece by piece, each by the byte judge's own table. Assumes nothing.
use Rattle.std.proofs.Common.{◌≡◌, ℕ, eqb, List, [], ◌∷◌, drop, sym, ap, ◌∙◌, subst, inl, inr, ⊎_elim, eq-eqb, eqb-true}
use borrow.Author.Tests.{eqb-false}
use Rattle.refusal.specs.declared.Refusal.{Refusal}
use Rattle.refusal.specs.Answer.{none}
use Rattle.refusal.specs.Table.{Row, ◌before◌, Decides, Keeps}
use Rattle.refusal.proofs.Cases.{by_test}
use Rattle.refusal.proofs.Firsts.{or_else_accepted, same_number}
use Rattle.refusal.proofs.Tables.{keeps_none, keeps_before, decides_before}
use Rattle.intake.specs.Arrival.{all_pieces}
use Rattle.system.specs.Refusals.{named_refusals}
use Rattle.system.proofs.Theorems.{named_decides}
use Rattle.bytewise.specs.Bytes.{bytes_refusal}
use Rattle.bytewise.specs.Refusals.{bytes_refusals}
use Rattle.bytewise.proofs.Theorems.{bytes_exact, bytes_number, bytes_decide}
use Rattle.confirmation.specs.declared.Run.{Run}
use Rattle.confirmation.specs.Run.{header_length, header_system, header_start, begun_of, judged_next, through, body_of, confirmed_of}
use Rattle.system.specs.Walk.{line_bytes}
use Rattle.confirmation.specs.Refusals.{run_refusals, confirm_refusals}
use Rattle.confirmation.proofs.Bodies.{through_ended}
use Rattle.confirmation.proofs.Theorems.{begin_exact}

-- the refusal that a run ended with, or none
abbrev pub refusal_of : Run → Refusal
refusal_of r = record { number = r.number; place = r.place }

-- the first of two tables speaks, or it is silent and the second is kept to
first_or_rest : (a b : Row) (x y : Refusal) → Keeps a x → (x.number ≡ 0 → Keeps b y) → ((x.number ≡ 0 → ⊥) → y ≡ x) → Keeps (a before b) y
first_or_rest a b x y kept rest same =
    by_test (eqb x.number 0)
    (λ t. let z = eqb-true _ _ t in subst (Keeps (a before b)) (or_else_accepted x y z) (keeps_before a b x y kept (rest z)))
    (λ f. let n = eqb-false _ _ f in
    subst (Keeps (a before b)) (sym (same n)) (⊎_elim (λ k. inl (inl k.0, k.1)) (λ k. absurd (n (same_number k.1))) kept))

next_refusal : (r : Run) (piece : List ℕ) → refusal_of (judged_next r piece) ≡ bytes_refusal r.walk piece
unfolding judged_next
next_refusal r piece = bytes_number r.walk piece

through_exact : (ps : List (List ℕ)) (r : Run) → refusal_of r ≡ none → Keeps (run_refusals r ps) (refusal_of (through r ps))
unfolding through
through_exact [] r e = inr (λ s asked. asked, e)
through_exact (piece ∷ ps) r e =
    let after = judged_next r piece in
    let refusal = bytes_refusal r.walk piece in
    let opened : through r (piece ∷ ps) ≡ through after ps = simp (eq-eqb _ _ (same_number e)) in
    subst (Keeps (run_refusals r (piece ∷ ps))) (ap refusal_of (sym opened))
    (first_or_rest (bytes_refusals r.walk piece) (run_refusals after ps) refusal (refusal_of (through after ps)) (bytes_exact r.walk piece)
    (λ z. through_exact ps after (next_refusal r piece ∙ keeps_none _ refusal (bytes_exact r.walk piece) z))
    (λ n. ap refusal_of (through_ended after ps (λ z. n (sym (same_number (next_refusal r piece)) ∙ z))) ∙ next_refusal r piece))

runs_decide : (ps : List (List ℕ)) (r : Run) → Decides (run_refusals r ps)
runs_decide [] r = λ a b x y. absurd x
runs_decide (piece ∷ ps) r = decides_before _ _ (bytes_decide r.walk piece) (runs_decide ps (judged_next r piece))

-- The number and the place of the whole run are what its table asks for, and 0 at 0 where it is silent ..
pub confirm_exact : (bytes : List ℕ) → Keeps (confirm_refusals bytes) (refusal_of (confirmed_of bytes))
unfolding confirmed_of body_of
confirm_exact bytes =
    let r = begun_of bytes in
    let body = drop header_length bytes in
    let ps = all_pieces (line_bytes r.walk) body in
    first_or_rest (named_refusals (header_system bytes) (header_start bytes)) (run_refusals r ps) (refusal_of r) (refusal_of (through r ps)) (begin_exact bytes)
    (λ z. through_exact ps r (keeps_none _ (refusal_of r) (begin_exact bytes) z))
    (λ n. ap refusal_of (through_ended r ps n))

-- .. and the table leaves one answer.
pub confirm_decides : (bytes : List ℕ) → Decides (confirm_refusals bytes)
confirm_decides bytes =
    decides_before _ _ (named_decides (header_system bytes) (header_start bytes)) (runs_decide (all_pieces (line_bytes (begun_of bytes).walk) (drop header_length bytes)) (begun_of bytes))
