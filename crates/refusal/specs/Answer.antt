-- Document 01, "Refusal numbers": every answer has a number and a place. Which of several refusals is answered.
use Rattle.std.specs.Prelude.{ℕ, zero, suc, List, [], ◌∷◌, Bool, cond, eqb}
use Rattle.refusal.specs.declared.Refusal.{Refusal}

-- "0, accepted, place 0"
abbrev pub none : Refusal
none = record { number = 0; place = 0 }

-- the refusal with this number at this place, where the test says so
abbrev pub refuse : Bool → ℕ → ℕ → Refusal
refuse test number place = cond test (record { number = number; place = place }) none

-- a buffer after its call: "No refusal writes a buffer."
unfoldable pub written_by : Refusal → List ℕ → List ℕ → List ℕ
written_by r after before = cond (eqb r.number 0) after before

-- the first of two answers that refuses
unfoldable pub or_else : Refusal → Refusal → Refusal
or_else a b = cond (eqb a.number 0) b a

-- the first of several answers that refuses: each call lists its refusals in the document's order
abbrev pub first_of : List Refusal → Refusal
first_of [] = none
first_of (r ∷ rs) = or_else r (first_of rs)

-- "the lowest offset with any fault": the first of k places from i at which the fault's number is not 0
unfoldable pub first_from : (ℕ → ℕ) → ℕ → ℕ → Refusal
first_from fault i zero = none
first_from fault i (suc k) = cond (eqb (fault i) 0) (first_from fault (suc i) k) (record { number = fault i; place = i })
