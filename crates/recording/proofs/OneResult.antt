-- A contract that is one equation with a definition leaves one result: for every public call of that form; and for those that say which answer a
-- result tells, since what is told gives the result back. Assumes nothing.
use mathlib.Core.Path.{◌≡◌, refl, sym, ap, ap₂, ◌∙◌}
use mathlib.Core.Bool.{Bool, true, false, cond}
use mathlib.Core.List.{List}
use Prim.Native.Nat.{ℕ}
use native.Mathlib.Omega.{arith}
use lib.Dec.{eqb}
use lib.ListN.{length}
use Rattle.std.specs.Prelude.{◌↔◌, Option, Some, None, Result, Ok, Err, get_or}
use Rattle.refusal.specs.declared.Refusal.{Refusal}
use Rattle.refusal.specs.declared.Reason.{Reason}
use Rattle.refusal.specs.declared.Reason.TheVariants.{NoSystem, NoLine, WrongLength, BadCounts, Over, NoCode, BitNine, HopelessEven, NotDue, NoFill, Reserved, Outside, BadState, HopelessOdd, BadParity, BadChecksum, PacketPast, BadParts, BadRange, BadEntry}
use Rattle.refusal.specs.declared.Refused.{Refused}
use Rattle.refusal.specs.Reasons.{number_of, fault_number, answered}
use Rattle.refusal.proofs.Results.{reason_counts}
use Rattle.words.specs.Passes.{Sampled}
use Rattle.system.specs.declared.System.{System}
use Rattle.system.specs.declared.System.TheVariants.{Lines525, Lines625}
use Rattle.system.specs.Figures.{system_number}
use Rattle.system.specs.Refusals.{NoSystem as NamesNone, Names}
use Rattle.packets.specs.Fault.{Space, space_told}
use Rattle.serial.specs.declared.State.{State}
use Rattle.serial.specs.declared.Returned.{Returned}
use Rattle.serial.specs.Calls.{Answer, told}
use Rattle.index.specs.Parts.{Asked, asked_told}
use Rattle.captions.specs.declared.Entry.{Entry}
use Rattle.captions.specs.declared.Head as judged
use Rattle.captions.specs.Entry.{Head, judged_told}

pub equation_one_result : {A : Type 0} (defined r s : A) → r ≡ defined → s ≡ defined → r ≡ s
equation_one_result defined r s e f = e ∙ sym f

-- the reason with a number, for the numbers that reasons have
reason_of : ℕ → Reason
reason_of n =
    cond (eqb n 1) NoSystem (cond (eqb n 2) NoLine (cond (eqb n 3) WrongLength (cond (eqb n 4) BadCounts (cond (eqb n 5) Over
    (cond (eqb n 6) NoCode (cond (eqb n 7) BitNine (cond (eqb n 8) HopelessEven (cond (eqb n 9) NotDue (cond (eqb n 10) NoFill
    (cond (eqb n 11) Reserved (cond (eqb n 12) Outside (cond (eqb n 13) BadState (cond (eqb n 14) HopelessOdd (cond (eqb n 15) BadParity
    (cond (eqb n 16) BadChecksum (cond (eqb n 17) PacketPast (cond (eqb n 19) BadParts (cond (eqb n 20) BadRange BadEntry))))))))))))))))))

reason_back : (r : Reason) → reason_of (number_of r) ≡ r
unfolding reason_of
reason_back NoSystem = refl
reason_back NoLine = refl
reason_back WrongLength = refl
reason_back BadCounts = refl
reason_back Over = refl
reason_back NoCode = refl
reason_back BitNine = refl
reason_back HopelessEven = refl
reason_back NotDue = refl
reason_back NoFill = refl
reason_back Reserved = refl
reason_back Outside = refl
reason_back BadState = refl
reason_back HopelessOdd = refl
reason_back BadParity = refl
reason_back BadChecksum = refl
reason_back PacketPast = refl
reason_back BadParts = refl
reason_back BadRange = refl
reason_back BadEntry = refl

-- no two reasons have one number
pub reason_one : (r s : Reason) → number_of r ≡ number_of s → r ≡ s
reason_one r s e = sym (reason_back r) ∙ ap reason_of e ∙ reason_back s

-- what is wrong with a word, by its number
pub fault_one_result : (r s : Option Reason) → fault_number r ≡ fault_number s → r ≡ s
fault_one_result None None e = refl
fault_one_result None (Some s) e = absurd (reason_counts s (sym e))
fault_one_result (Some r) None e = absurd (reason_counts r e)
fault_one_result (Some r) (Some s) e = ap (λ (x : Reason). Some x) (reason_one r s e)

refused_one : (r s : Refused) → number_of r.reason ≡ number_of s.reason → r.place ≡ s.place → r ≡ s
refused_one r s n p = ap₂ (λ (reason : Reason) (place : ℕ). record { reason = reason; place = place }) (reason_one r.reason s.reason n) p

-- a call that does no more than refuse
pub answered_one_result : (r s : Result (Unit {0}) Refused) → answered r ≡ answered s → r ≡ s
answered_one_result (Ok x) (Ok y) e = refl
answered_one_result (Ok x) (Err f) e = absurd (reason_counts f.reason (sym (ap (λ (a : Refusal). a.number) e)))
answered_one_result (Err r) (Ok y) e = absurd (reason_counts r.reason (ap (λ (a : Refusal). a.number) e))
answered_one_result (Err r) (Err s) e =
    ap (λ (x : Refused). Err x) (refused_one r s (ap (λ (a : Refusal). a.number) e) (ap (λ (a : Refusal). a.place) e))

-- the judge of a space
pub space_one_result : (r s : Result ℕ Refused) → space_told r ≡ space_told s → r ≡ s
space_one_result (Ok x) (Ok y) e = ap (λ (a : Space). Ok a.packets) e
space_one_result (Ok x) (Err f) e = absurd (reason_counts f.reason (sym (ap (λ (a : Space). a.number) e)))
space_one_result (Err r) (Ok y) e = absurd (reason_counts r.reason (ap (λ (a : Space). a.number) e))
space_one_result (Err r) (Err s) e =
    ap (λ (x : Refused). Err x) (refused_one r s (ap (λ (a : Space). a.number) e) (ap (λ (a : Space). a.place) e))

-- coder and decoder
pub told_one_result : (r s : Result State Returned) → told r ≡ told s → r ≡ s
told_one_result (Ok x) (Ok y) e = ap (λ (a : Answer). Ok a.state) e
told_one_result (Ok x) (Err f) e = absurd (reason_counts f.refused.reason (sym (ap (λ (a : Answer). a.number) e)))
told_one_result (Err r) (Ok y) e = absurd (reason_counts r.refused.reason (ap (λ (a : Answer). a.number) e))
told_one_result (Err r) (Err s) e =
    ap₂ (λ (refused : Refused) (state : State). Err (record { refused = refused; state = state }))
    (refused_one r.refused s.refused (ap (λ (a : Answer). a.number) e) (ap (λ (a : Answer). a.place) e)) (ap (λ (a : Answer). a.state) e)

-- a question to a finished file
pub asked_one_result : (r s : Result Bool Refused) → asked_told r ≡ asked_told s → r ≡ s
asked_one_result (Ok x) (Ok y) e = ap (λ (a : Asked). Ok a.clean) e
asked_one_result (Ok x) (Err f) e = absurd (reason_counts f.reason (sym (ap (λ (a : Asked). a.number) e)))
asked_one_result (Err r) (Ok y) e = absurd (reason_counts r.reason (ap (λ (a : Asked). a.number) e))
asked_one_result (Err r) (Err s) e =
    ap (λ (x : Refused). Err x) (refused_one r s (ap (λ (a : Asked). a.number) e) (ap (λ (a : Asked). a.place) e))

-- the head of an entry, whose place is told beside
pub judged_one_result : (least : ℕ) (r s : Result judged.Head Refused) → judged_told least r ≡ judged_told least s → answered r ≡ answered s → r ≡ s
judged_one_result least (Ok x) (Ok y) e f =
    ap₂ (λ (entry : Entry) (l : ℕ). Ok (record { entry = entry; least = l })) (ap (λ (a : Head). a.entry) e) (ap (λ (a : Head). a.least) e)
judged_one_result least (Ok x) (Err s) e f = absurd (reason_counts s.reason (sym (ap (λ (a : Refusal). a.number) f)))
judged_one_result least (Err r) (Ok y) e f = absurd (reason_counts r.reason (ap (λ (a : Refusal). a.number) f))
judged_one_result least (Err r) (Err s) e f =
    ap (λ (x : Refused). Err x) (refused_one r s (ap (λ (a : Refusal). a.number) f) (ap (λ (a : Refusal). a.place) f))

-- whether words are samples: a test that is yes exactly where something holds
exactly_one : (P : Type 0) (r s : Bool) → (r ≡ true) ↔ P → (s ≡ true) ↔ P → r ≡ s
exactly_one P true true e f = refl
exactly_one P true false e f = sym (f.1 (e.0 refl))
exactly_one P false true e f = e.1 (f.0 refl)
exactly_one P false false e f = refl

pub samples_one_result : (words : List ℕ) (r s : Bool) → (r ≡ true) ↔ Sampled (λ k. get_or words k 0) (length words)
    → (s ≡ true) ↔ Sampled (λ k. get_or words k 0) (length words) → r ≡ s
samples_one_result words = exactly_one (Sampled (λ k. get_or words k 0) (length words))

-- the system that a number names: no two have one number, and none has a number that names none
system_one : (x y : System) → system_number x ≡ system_number y → x ≡ y
system_one Lines525 Lines525 e = refl
system_one Lines525 Lines625 e = absurd (omega (arith, e))
system_one Lines625 Lines525 e = absurd (omega (arith, e))
system_one Lines625 Lines625 e = refl

names_one : (x : System) (number : ℕ) → system_number x ≡ number → NamesNone number → ⊥
names_one Lines525 number e none = none.0 (sym e)
names_one Lines625 number e none = none.1 (sym e)

pub system_one_result : (number : ℕ) (r s : Result System Refused) → Names number r → Names number s → r ≡ s
system_one_result number (Ok x) (Ok y) e f = ap (λ (z : System). Ok z) (system_one x y (e ∙ sym f))
system_one_result number (Ok x) (Err g) e f = absurd (names_one x number e f.0)
system_one_result number (Err g) (Ok y) e f = absurd (names_one y number f e.0)
system_one_result number (Err g) (Err h) e f =
    let same = e.1 ∙ sym f.1 in
    ap (λ (x : Refused). Err x) (refused_one g h (ap (λ (a : Refusal). a.number) same) (ap (λ (a : Refusal). a.place) same))
