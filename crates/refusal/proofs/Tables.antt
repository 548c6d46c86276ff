-- How an answer that keeps to a table is put together, and that a table decides. Assumes nothing.
use mathlib.Core.Path.{◌≡◌, refl, sym, ap, subst, ◌∙◌}
use Prim.Native.Nat.{ℕ, ◌<◌, ◌≤◌}
use native.Mathlib.Omega.{arith}
use mathlib.Core.Bool.{Bool, true, false, cond, not, true≢false}
use mathlib.Core.Logic.{inl, inr, ⊎_elim}
use Rattle.refusal.specs.declared.Refusal.{Refusal}
use Rattle.refusal.specs.Numbers.{wrong_length}
use Rattle.refusal.specs.Answer.{none, refuse, or_else, first_from}
use Rattle.refusal.specs.Table.{Row, when, Silent, ◌before◌, Lowest, Decides, Keeps}
use lib.Dec.{eqb, ltb}
use borrow.Author.Tests.{eqb-true, eqb-false, ne_eqb, ltb-true, ltb-false}
use Rattle.refusal.proofs.Cases.{by_test, not_true}
use Rattle.refusal.proofs.Firsts.{or_else_accepted, or_else_refused, Found, nowhere, at, found, first_none, first_at}

-- a row whose condition is what its test says
pub keeps_when : (t : Bool) (C : Type 0) (n p : ℕ) → (t ≡ true → C) → (C → t ≡ true) → (n ≡ 0 → ⊥) → Keeps (when C n p) (refuse t n p)
keeps_when true C n p forth back positive = inl ((forth refl, refl), positive)
keeps_when false C n p forth back positive = inr (λ r q. true≢false (sym (back q.0)), refl)

-- a length that is not the one that is due
pub keeps_unequal : (m n p : ℕ) → Keeps (when (m ≡ n → ⊥) wrong_length p) (refuse (not (eqb m n)) wrong_length p)
keeps_unequal m n p =
    keeps_when (not (eqb m n)) (m ≡ n → ⊥) wrong_length p (λ t. eqb-false m n (not_true _ t)) (λ ne. ap not (ne_eqb m n ne)) (λ z. omega arith)

-- one table before another
pub keeps_before : (a b : Row) (x y : Refusal) → Keeps a x → Keeps b y → Keeps (a before b) (or_else x y)
keeps_before a b x y (inl (asked, refuses)) kb = subst (Keeps (a before b)) (sym (or_else_refused x y refuses)) (inl (inl asked, refuses))
keeps_before a b x y (inr (silent, e)) kb =
    subst (Keeps (a before b)) (sym (or_else_accepted x y (ap (λ (r : Refusal). r.number) e)))
    (⊎_elim (λ k. inl (inr (silent, k.0), k.1))
    (λ k. inr (λ r q. ⊎_elim (λ u. silent r u) (λ v. k.0 r v.1) q, k.1)) kb)

-- the last of several
pub keeps_last : (a : Row) (x : Refusal) → Keeps a x → Keeps a (or_else x none)
keeps_last a x (inl (asked, refuses)) = subst (Keeps a) (sym (or_else_refused x none refuses)) (inl (asked, refuses))
keeps_last a x (inr (silent, e)) =
    subst (Keeps a) (sym (or_else_accepted x none (ap (λ (r : Refusal). r.number) e))) (inr (silent, refl))

-- an answer that keeps to a table, with none after it
pub alone : (table : Row) (r : Refusal) → Keeps table r → or_else r none ≡ r
alone table r (inl (asked, refuses)) = or_else_refused r none refuses
alone table r (inr (silent, e)) = or_else_accepted r none (ap (λ (q : Refusal). q.number) e) ∙ sym e

-- an answer of the number 0 that keeps to a table is that of acceptance
pub keeps_none : (table : Row) (r : Refusal) → Keeps table r → r.number ≡ 0 → r ≡ none
keeps_none table r (inl (asked, refuses)) z = absurd (refuses z)
keeps_none table r (inr (silent, e)) z = e

-- what the number of a fault at a place says of the place's own table
pub record Numbers (row : Row) (n place : ℕ) : Type 0 where
  pub silent : n ≡ 0 → Silent row
  pub asked : (n ≡ 0 → ⊥) → row (record { number = n; place = place })

-- a row, and a row before others, at one place
pub numbers_when : (t : Bool) (C : Type 0) (n p : ℕ) → (t ≡ true → C) → (C → t ≡ true) → (n ≡ 0 → ⊥) → Numbers (when C n p) (cond t n 0) p
numbers_when true C n p forth back positive = record { silent = λ z. absurd (positive z); asked = λ q. (forth refl, refl) }
numbers_when false C n p forth back positive =
    record { silent = λ z r q. true≢false (sym (back q.0)); asked = λ q. absurd (q refl) }

pub numbers_before : (t : Bool) (C : Type 0) (n p : ℕ) (rest : Row) (m : ℕ) → (t ≡ true → C) → (C → t ≡ true) → (n ≡ 0 → ⊥) → Numbers rest m p
    → Numbers (when C n p before rest) (cond t n m) p
numbers_before true C n p rest m forth back positive k = record { silent = λ z. absurd (positive z); asked = λ q. inl (forth refl, refl) }
numbers_before false C n p rest m forth back positive k =
    let no_row : Silent (when C n p) = λ r q. true≢false (sym (back q.0)) in
    record {
      silent = λ z r q. ⊎_elim (λ u. no_row r u) (λ v. k.silent z r v.1) q;
      asked = λ q. inr (no_row, k.asked q);
    }

-- at place 0 a number is an answer
pub keeps_number : (row : Row) (n : ℕ) → Numbers row n 0 → Keeps row (record { number = n; place = 0 })
keeps_number row n k =
    by_test (eqb n 0)
    (λ t. inr (k.silent (eqb-true _ _ t), ap (λ (m : ℕ). record { number = m; place = 0 }) (eqb-true _ _ t)))
    (λ g. inl (k.asked (eqb-false _ _ g), eqb-false _ _ g))

-- the lowest place
pub keeps_lowest : (at_place : ℕ → Row) (f : ℕ → ℕ) (n : ℕ) → ((j : ℕ) → j < n → Numbers (at_place j) (f j) j)
    → Keeps (Lowest n at_place) (first_from f 0 n)
keeps_lowest at_place f n h = go (found f n)
  where
    go : Found f n → Keeps (Lowest n at_place) (first_from f 0 n)
    go (nowhere none-there) =
        inr (λ r q. (h r.place q.within).silent (none-there r.place q.within) r q.asked, first_none f n none-there)
    go (at p l lower bad) =
        subst (Keeps (Lowest n at_place)) (sym (first_at f n p l lower bad))
        (inl (record { within = l; asked = (h p l).asked bad; lower = λ j q. (h j (omega arith)).silent (lower j q) }, bad))

-- ---- that a table decides
pub decides_when : (C : Type 0) (n p : ℕ) → Decides (when C n p)
decides_when C n p r s x y = x.1 ∙ sym y.1

pub decides_before : (a b : Row) → Decides a → Decides b → Decides (a before b)
decides_before a b da db r s (inl x) (inl y) = da r s x y
decides_before a b da db r s (inl x) (inr y) = absurd (y.0 r x)
decides_before a b da db r s (inr x) (inl y) = absurd (x.0 s y)
decides_before a b da db r s (inr x) (inr y) = db r s x.1 y.1

pub decides_lowest : (n : ℕ) (at_place : ℕ → Row) → ((j : ℕ) → Decides (at_place j)) → Decides (Lowest n at_place)
decides_lowest n at_place d r s x y = compare r.place s.place refl refl
  where
    less : {i j : ℕ} → (i ≡ j → ⊥) → j ≤ i → r.place ≡ i → s.place ≡ j → s.place < r.place
    less ne k e f = omega arith

    compare : (i j : ℕ) → r.place ≡ i → s.place ≡ j → r ≡ s
    compare i j e f =
        by_test (eqb i j)
        (λ t. d r.place r s x.asked (subst (λ (k : ℕ). at_place k s) (f ∙ sym (eqb-true _ _ t) ∙ sym e) y.asked))
        (λ g.
        let ne = eqb-false _ _ g in
        by_test (ltb i j)
        (λ l. let k = ltb-true i j l in absurd (y.lower r.place (omega arith) r x.asked))
        (λ m. let k = ltb-false i j m in absurd (x.lower s.place (less ne k e f) s y.asked)))

-- So a table leaves one answer only.
pub one_answer : (table : Row) (r s : Refusal) → Decides table → Keeps table r → Keeps table s → r ≡ s
one_answer table r s d (inl x) (inl y) = d r s x.0 y.0
one_answer table r s d (inl x) (inr y) = absurd (y.0 r x.0)
one_answer table r s d (inr x) (inl y) = absurd (x.0 s y.0)
one_answer table r s d (inr x) (inr y) = x.1 ∙ sym y.1
