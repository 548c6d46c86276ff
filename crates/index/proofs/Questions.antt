-- The steps of a question: six bytes are an entry, pieces are the whole, and a run of whole entries. Assumes nothing.
use Prim.Native.Nat.{ℕ, suc, ◌+◌, ◌*◌, ◌-◌, ◌<◌, ◌≤◌}
use mathlib.Core.Path.{◌≡◌, refl, sym, ap, ◌∙◌}
use mathlib.Core.List.{List, [], ◌∷◌, ◌++◌, flatten}
use mathlib.Core.Bool.{Bool, not, ◌||◌}
use native.Mathlib.Omega.{arith}
use lib.ListN.{length, drop, get_or, drop_of_length-le}
use lib.Seq.{drop-cons}
use lib.Dec.{lit<}
use borrow.Author.Tests.{eq-eqb, ne_eqb, lt-ltb, le-ltb}
use Rattle.index.specs.declared.question.Question.{Question}
use Rattle.index.specs.declared.entry.Entry.{Entry}
use Rattle.index.specs.Entries.{entry_of, entry_well, within}
use Rattle.index.specs.Asking.{between, gathered, entered, too_many, settled, step_of, fed_of, fed_all}

pub step_many : (q : Question) (b : ℕ) → q.left ≡ 0 → step_of q b ≡ too_many q
unfolding step_of
step_many q b e = simp (eq-eqb _ _ e)

step_gather : (q : Question) (b : ℕ) → (q.left ≡ 0 → ⊥) → q.place < 5 → step_of q b ≡ gathered q b
unfolding step_of
step_gather q b n l = simp (ne_eqb _ _ n, lt-ltb _ _ l)

step_last : (q : Question) (b : ℕ) → (q.left ≡ 0 → ⊥) → 5 ≤ q.place
    → step_of q b ≡ entered q (q.left - 1) (entry_of (q.c0 ∷ q.c1 ∷ q.c2 ∷ q.c3 ∷ q.c4 ∷ b ∷ []))
unfolding step_of
step_last q b n l = simp (ne_eqb _ _ n, le-ltb _ _ l)

-- one byte of an entry that does not end it, where so many bytes are left and this is its place
record Next (q : Question) (b n p : ℕ) : Type 0 where
  step : step_of q b ≡ gathered q b
  left : (gathered q b).left ≡ n
  place : (gathered q b).place ≡ suc p

next : (q : Question) (b n p : ℕ) → q.left ≡ suc n → q.place ≡ p → p < 5 → Next q b n p
unfolding gathered
next q b n p e f l =
    record { step = step_gather q b (λ z. omega arith) (omega arith); left = omega arith; place = omega arith }

last : (q : Question) (b n : ℕ) → q.left ≡ suc n → q.place ≡ 5 → step_of q b ≡ entered q n (entry_of (q.c0 ∷ q.c1 ∷ q.c2 ∷ q.c3 ∷ q.c4 ∷ b ∷ []))
last q b n e f =
    let less : q.left - 1 ≡ n = omega arith in
    step_last q b (λ z. omega arith) (omega arith)
    ∙ ap (λ (m : ℕ). entered q m (entry_of (q.c0 ∷ q.c1 ∷ q.c2 ∷ q.c3 ∷ q.c4 ∷ b ∷ []))) less

-- six bytes of an entry are the entry
six_steps : (q : Question) (b0 b1 b2 b3 b4 b5 n : ℕ) → q.place ≡ 0 → q.left ≡ suc (suc (suc (suc (suc (suc n)))))
    → step_of (step_of (step_of (step_of (step_of (step_of q b0) b1) b2) b3) b4) b5 ≡ entered q n (entry_of (b0 ∷ b1 ∷ b2 ∷ b3 ∷ b4 ∷ b5 ∷ []))
unfolding gathered between
six_steps q b0 b1 b2 b3 b4 b5 n p l =
    let t1 = next q b0 _ 0 l p (lit< tt) in
    let t2 = next (gathered q b0) b1 _ 1 t1.left t1.place (lit< tt) in
    let t3 = next (gathered (gathered q b0) b1) b2 _ 2 t2.left t2.place (lit< tt) in
    let t4 = next (gathered (gathered (gathered q b0) b1) b2) b3 _ 3 t3.left t3.place (lit< tt) in
    let t5 = next (gathered (gathered (gathered (gathered q b0) b1) b2) b3) b4 _ 4 t4.left t4.place (lit< tt) in
    ap (λ (t : Question). step_of (step_of (step_of (step_of (step_of t b1) b2) b3) b4) b5) t1.step
    ∙ ap (λ (t : Question). step_of (step_of (step_of (step_of t b2) b3) b4) b5) t2.step
    ∙ ap (λ (t : Question). step_of (step_of (step_of t b3) b4) b5) t3.step
    ∙ ap (λ (t : Question). step_of (step_of t b4) b5) t4.step
    ∙ ap (λ (t : Question). step_of t b5) t5.step
    ∙ last (gathered (gathered (gathered (gathered (gathered q b0) b1) b2) b3) b4) b5 n t5.left t5.place

pub fed_six : (q : Question) (b0 b1 b2 b3 b4 b5 : ℕ) (rest : List ℕ) → q.place ≡ 0 → 6 ≤ q.left
    → fed_of q (b0 ∷ b1 ∷ b2 ∷ b3 ∷ b4 ∷ b5 ∷ rest) ≡ fed_of (entered q (q.left - 6) (entry_of (b0 ∷ b1 ∷ b2 ∷ b3 ∷ b4 ∷ b5 ∷ []))) rest
unfolding fed_of
fed_six q b0 b1 b2 b3 b4 b5 rest p l =
    ap (λ (t : Question). fed_of t rest) (six_steps q b0 b1 b2 b3 b4 b5 (q.left - 6) p (omega arith))

-- two pieces one after the other are the two as one
pub fed_append : (q : Question) (xs ys : List ℕ) → fed_of q (xs ++ ys) ≡ fed_of (fed_of q xs) ys
unfolding fed_of
fed_append q [] ys = refl
fed_append q (x ∷ xs) ys = fed_append (step_of q x) xs ys

-- any pieces are the whole
pub fed_pieces : (q : Question) (pieces : List (List ℕ)) → fed_all q pieces ≡ fed_of q (flatten pieces)
unfolding fed_all fed_of flatten
fed_pieces q [] = refl
fed_pieces q (piece ∷ pieces) = fed_pieces (fed_of q piece) pieces ∙ sym (fed_append q piece (flatten pieces))

-- ---- Bytes from an offset on.
drop_next : (l : List ℕ) (j k : ℕ) → k ≡ suc j → j < length l → drop j l ≡ get_or l j 0 ∷ drop k l
drop_next l j k e h = drop-cons l j 0 h ∙ ap (λ (i : ℕ). get_or l j 0 ∷ drop i l) (sym e)

pub fed_one_at : (q : Question) (bytes : List ℕ) (at : ℕ) → at < length bytes
    → fed_of q (drop at bytes) ≡ fed_of (step_of q (get_or bytes at 0)) (drop (at + 1) bytes)
unfolding fed_of
fed_one_at q bytes at l = ap (fed_of q) (drop_next bytes at (at + 1) (omega arith) l)

fed_six_at : (q : Question) (bytes : List ℕ) (at : ℕ) → at + 6 ≤ length bytes → q.place ≡ 0 → 6 ≤ q.left
    → fed_of q (drop at bytes)
    ≡ fed_of
    (entered q (q.left - 6)
    (entry_of
    (get_or bytes at 0
    ∷ get_or bytes (at + 1) 0
    ∷ get_or bytes (at + 2) 0
    ∷ get_or bytes (at + 3) 0
    ∷ get_or bytes (at + 4) 0
    ∷ get_or bytes (at + 5) 0
    ∷ [])))
    (drop (at + 6) bytes)
fed_six_at q bytes at l p m =
    let b : ℕ → ℕ = λ i. get_or bytes i 0 in
    ap (fed_of q)
    (drop_next bytes at (at + 1) (omega arith) (omega arith)
    ∙ ap (λ (r : List ℕ). b at ∷ r) (drop_next bytes (at + 1) (at + 2) (omega arith) (omega arith))
    ∙ ap (λ (r : List ℕ). b at ∷ b (at + 1) ∷ r) (drop_next bytes (at + 2) (at + 3) (omega arith) (omega arith))
    ∙ ap (λ (r : List ℕ). b at ∷ b (at + 1) ∷ b (at + 2) ∷ r) (drop_next bytes (at + 3) (at + 4) (omega arith) (omega arith))
    ∙ ap (λ (r : List ℕ). b at ∷ b (at + 1) ∷ b (at + 2) ∷ b (at + 3) ∷ r) (drop_next bytes (at + 4) (at + 5) (omega arith) (omega arith))
    ∙ ap (λ (r : List ℕ). b at ∷ b (at + 1) ∷ b (at + 2) ∷ b (at + 3) ∷ b (at + 4) ∷ r)
    (drop_next bytes (at + 5) (at + 6) (omega arith) (omega arith)))
    ∙ fed_six q (b at) (b (at + 1)) (b (at + 2)) (b (at + 3)) (b (at + 4)) (b (at + 5)) (drop (at + 6) bytes) p m

pub fed_end : (q : Question) (bytes : List ℕ) (at : ℕ) → length bytes ≤ at → fed_of q (drop at bytes) ≡ q
unfolding fed_of
fed_end q bytes at l = ap (fed_of q) (drop_of_length-le bytes l)

-- ---- A run of whole entries. After k of them the question has these numbers, and the same is left to do.
abbrev pub Ran : Question → List ℕ → ℕ → ℕ → ℕ → Bool → Bool → Type 0
Ran q bytes at k least unclean wrong =
    fed_of (settled q) (drop at bytes) ≡ fed_of (between q (q.left - 6 * k) least unclean wrong) (drop (at + 6 * k) bytes)

pub ran_next : (q : Question) (bytes : List ℕ) (at k least : ℕ) (unclean wrong : Bool) {e : Entry} → Ran q bytes at k least unclean wrong
    → at + 6 * k + 6 ≤ length bytes → 6 * k + 6 ≤ q.left
    → e
    ≡ entry_of
    (get_or bytes (at + 6 * k) 0
    ∷ get_or bytes (at + 6 * k + 1) 0
    ∷ get_or bytes (at + 6 * k + 2) 0
    ∷ get_or bytes (at + 6 * k + 3) 0
    ∷ get_or bytes (at + 6 * k + 4) 0
    ∷ get_or bytes (at + 6 * k + 5) 0
    ∷ [])
    → Ran q bytes at (k + 1) (e.ordinal + 1) (unclean || within q.a q.b e.ordinal) (wrong || not (entry_well least q.lines e))
unfolding between
ran_next q bytes at k least unclean wrong h l m is =
    let less : q.left - 6 * k - 6 ≡ q.left - 6 * (k + 1) = omega arith in
    let on : at + 6 * k + 6 ≡ at + 6 * (k + 1) = omega arith in
    rw (is, ← less, ← on) (h ∙ fed_six_at (between q (q.left - 6 * k) least unclean wrong) bytes (at + 6 * k) l refl (omega arith))

-- the bytes of an entry that is not whole do not count between two entries
pub fed_settled : (q : Question) (bytes : List ℕ) (at : ℕ) → at + 6 ≤ length bytes → q.place ≡ 0 → 6 ≤ q.left
    → fed_of q (drop at bytes) ≡ fed_of (settled q) (drop at bytes)
unfolding between
fed_settled q bytes at l p m = fed_six_at q bytes at l p m ∙ sym (fed_six_at (settled q) bytes at l refl m)
