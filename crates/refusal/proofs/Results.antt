-- Laws of results: a refusal has a number, and a buffer after a call that gave a result. Assumes nothing.
use Rattle.std.proofs.Common.{◌≡◌, ℕ, List, sym, ◌∙◌, Result}
use Rattle.std.specs.Prelude.{IsErr, Ok, Err, Option, Some, None, IfSome, Bool, true, false, cond, not}
use Rattle.std.specs.Bool.{then_some}
use mathlib.Core.Path.{refl}
use native.Mathlib.Omega.{arith}
use Rattle.std.proofs.lemmas.Bool.{false≢true}
use Rattle.refusal.specs.declared.Reason.{Reason}
use Rattle.refusal.specs.declared.Reason.TheVariants.{NoSystem, NoLine, WrongLength, BadCounts, Over, NoCode, BitNine, HopelessEven, NotDue, NoFill, Reserved, Outside, BadState, HopelessOdd, BadParity, BadChecksum, PacketPast, BadParts, BadRange, BadEntry}
use Rattle.refusal.specs.declared.Refused.{Refused}
use Rattle.refusal.specs.declared.Refusal.{Refusal}
use Rattle.refusal.specs.Answer.{none, written_by, or_else}
use Rattle.refusal.specs.Reasons.{number_of, fault_number, answered}
use Rattle.refusal.proofs.Firsts.{written_accepted, written_refused, or_else_accepted, or_else_refused, same_number}

-- no reason has the number of acceptance
pub reason_counts : (r : Reason) → number_of r ≡ 0 → ⊥
reason_counts NoSystem e = omega arith
reason_counts NoLine e = omega arith
reason_counts WrongLength e = omega arith
reason_counts BadCounts e = omega arith
reason_counts Over e = omega arith
reason_counts NoCode e = omega arith
reason_counts BitNine e = omega arith
reason_counts HopelessEven e = omega arith
reason_counts NotDue e = omega arith
reason_counts NoFill e = omega arith
reason_counts Reserved e = omega arith
reason_counts Outside e = omega arith
reason_counts BadState e = omega arith
reason_counts HopelessOdd e = omega arith
reason_counts BadParity e = omega arith
reason_counts BadChecksum e = omega arith
reason_counts PacketPast e = omega arith
reason_counts BadParts e = omega arith
reason_counts BadRange e = omega arith
reason_counts BadEntry e = omega arith

-- what is wrong has a number, and nothing has none
pub fault_counts : (r : Reason) → fault_number (Some r) ≡ 0 → ⊥
fault_counts r e = reason_counts r e

pub none_counts : (o : Option Reason) → ((r : Reason) → o ≡ Some r → ⊥) → fault_number o ≡ 0
none_counts None n = refl
none_counts (Some r) n = absurd (n r refl)

-- the number of a reason that a test gives
pub then_counts : (test : Bool) (r : Reason) → fault_number (then_some test r) ≡ cond test (number_of r) 0
then_counts true r = refl
then_counts false r = refl

pub unless_counts : (test : Bool) (r : Reason) → fault_number (then_some (not test) r) ≡ cond test 0 (number_of r)
unless_counts true r = refl
unless_counts false r = refl

-- what holds of a value that is there, and of one that a test gives
pub if_some : {A : Type 0} (o : Option A) (P : A → Type 0) → ((x : A) → o ≡ Some x → P x) → IfSome o P
if_some None P h = tt
if_some (Some x) P h = h x refl

pub if_then_some : {A : Type 0} (test : Bool) (x : A) (P : A → Type 0) → (test ≡ true → P x) → IfSome (then_some test x) P
if_then_some true x P h = h refl
if_then_some false x P h = tt

-- a result that refuses answers a number that is not 0
pub err_refuses : {A : Type 0} (r : Result A Refused) → IsErr r → (answered r).number ≡ 0 → ⊥
err_refuses (Ok x) i e = absurd (false≢true i)
err_refuses (Err refused) i e = reason_counts refused.reason e

-- of two refusals the call that refused decides, and where it did not the other does
pub err_first : {A : Type 0} (r : Result A Refused) (a b : Refusal) → IsErr r → answered r ≡ a → answered r ≡ or_else a b
err_first r a b i e = e ∙ sym (or_else_refused a b (λ z. err_refuses r i (same_number e ∙ z)))

pub ok_first : (a b : Refusal) → none ≡ a → or_else a b ≡ b
ok_first a b e = or_else_accepted a b (sym (same_number e))

-- a buffer after a call that refused, and after one that did not
pub err_stays : {A : Type 0} (r : Result A Refused) → IsErr r → (after before : List ℕ) → before ≡ written_by (answered r) after before
err_stays r i after before = sym (written_refused (answered r) after before (err_refuses r i))

pub ok_written : (after before : List ℕ) → after ≡ written_by none after before
ok_written after before = sym (written_accepted none after before refl)
