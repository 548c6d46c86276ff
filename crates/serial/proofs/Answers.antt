-- What a call answers and leaves in the output, where it is refused and where it is accepted, for any step of a word: so for both calls.
-- Assumes nothing.
use mathlib.Core.Path.{◌≡◌}
use mathlib.Core.List.{List}
use Prim.Native.Nat.{ℕ}
use lib.ListN.{length}
use borrow.Author.Tests.{eq-eqb, ne_eqb}
use Rattle.refusal.specs.declared.Refusal.{Refusal}
use Rattle.refusal.proofs.Firsts.{written_accepted, written_refused}
use Rattle.serial.specs.declared.State.{State}
use Rattle.serial.specs.Serial.{Past, outs, ends}
use Rattle.serial.specs.Calls.{past_of, state_of, serial_refusal}
use Rattle.serial.specs.Held.{run_answer, run_output}

module _ (f : Past → ℕ → ℕ) (g : Past → ℕ → Past) (s : State) (words out : List ℕ) where
  abbrev refusal : Refusal
  refusal = serial_refusal s words (length out)

  pub refused_call : (refusal.number ≡ 0 → ⊥)
      → (run_answer f g s words out ≡ record { number = refusal.number; place = refusal.place; state = s }) × (run_output f g s words out ≡ out)
  refused_call n = (simp (ne_eqb _ _ n), written_refused refusal _ out n)

  pub accepted_call : refusal.number ≡ 0
      → (run_answer f g s words out ≡ record { number = 0; place = 0; state = state_of (ends f g (past_of s) words) }) × (run_output f g s words out ≡ outs f g (past_of s) words)
  accepted_call e = (simp (eq-eqb _ _ e), written_accepted refusal _ out e)
