-- Laws of an index: its bytes hold it, it is well, and it is the index of exactly one list of repairs. Assumes nothing.
use Prim.Native.Nat.{ℕ, zero, suc, ◌+◌, ◌*◌, ◌^◌, ◌<◌, ◌≤◌}
use mathlib.Core.Path.{◌≡◌, refl, sym, ap, ◌∙◌}
use mathlib.Core.List.{List, [], ◌∷◌, ◌++◌}
use mathlib.Core.Bool.{Bool, true, false, not, ◌&&◌, ◌||◌}
use mathlib.Core.Logic.{◌⊎◌, inl, inr, ⊎_elim}
use native.Mathlib.Omega.{arith}
use lib.ListN.{length, get_or}
use lib.Dec.{eqb, ltb, leb}
use borrow.Author.Tests.{eq-eqb, ne_eqb, eqb-true, eqb-false, lt-ltb, ltb-true, le-leb, leb-true}
use Rattle.refusal.proofs.Cases.{by_test, by_cond, and_true, or_either, or_left, or_right}
use Rattle.words.specs.Bytes.{number_from, number_bytes}
use Rattle.system.specs.Walk.{most_lines}
use Rattle.index.specs.declared.entry.Entry.{Entry}
use Rattle.index.specs.Entries.{entry_length, index_from, entry_bytes, index_bytes, entry_of, entries_of, entry_well, entries_well, within, none_within, clean_from, repairs_from, Repairs, no_line, line, Bytes, none, more}
use Rattle.index.proofs.Numbers.{number_first, bytes_number}

-- ---- Entries and their bytes.
-- an entry that its six bytes hold
pub record Small (e : Entry) : Type 0 where
  pub ordinal : e.ordinal < 256 ^ 4
  pub repairs : e.repairs < 256 ^ 2

pub entry_back : (e : Entry) → Small e → entry_of (entry_bytes e) ≡ e
unfolding entry_of entry_bytes number_bytes number_from
entry_back e h =
    ap (λ (n : ℕ). record { ordinal = n; repairs = number_from (number_bytes 2 e.repairs ++ []) 0 2 })
    (number_first 4 e.ordinal [] h.ordinal)
    ∙ ap (λ (n : ℕ). record { ordinal = e.ordinal; repairs = n }) (number_first 2 e.repairs [] h.repairs)

entries_one : (e : Entry) (rest : List ℕ) → entries_of (entry_bytes e ++ rest) ≡ entry_of (entry_bytes e) ∷ entries_of rest
unfolding entries_of entry_bytes number_bytes
entries_one e rest = refl

pub data AllSmall : List Entry → Type 0 where
  nothing : AllSmall []
  also : {e : Entry} {es : List Entry} → Small e → AllSmall es → AllSmall (e ∷ es)

pub entries_back : (es : List Entry) → AllSmall es → entries_of (index_bytes es) ≡ es
unfolding index_bytes entries_of
entries_back [] nothing = refl
entries_back (e ∷ es) (also h hs) =
    entries_one e (index_bytes es) ∙ ap (λ (f : Entry). f ∷ entries_of (index_bytes es)) (entry_back e h)
    ∙ ap (λ (r : List Entry). e ∷ r) (entries_back es hs)

pub index_length : (es : List Entry) → length (index_bytes es) ≡ entry_length * length es
unfolding index_bytes entry_bytes number_bytes
index_length [] = refl
index_length (e ∷ es) = omega (arith, index_length es)

-- whole entries of bytes are those bytes again
pub bytes_back : (m : ℕ) (xs : List ℕ) → Bytes xs → length xs ≡ entry_length * m → index_bytes (entries_of xs) ≡ xs
unfolding index_bytes entries_of entry_of entry_bytes number_from
bytes_back zero [] none n = refl
bytes_back zero (b ∷ xs) h n = absurd (omega arith)
bytes_back (suc m) [] h n = absurd (omega arith)
bytes_back (suc m) (b0 ∷ []) h n = absurd (omega arith)
bytes_back (suc m) (b0 ∷ b1 ∷ []) h n = absurd (omega arith)
bytes_back (suc m) (b0 ∷ b1 ∷ b2 ∷ []) h n = absurd (omega arith)
bytes_back (suc m) (b0 ∷ b1 ∷ b2 ∷ b3 ∷ []) h n = absurd (omega arith)
bytes_back (suc m) (b0 ∷ b1 ∷ b2 ∷ b3 ∷ b4 ∷ []) h n = absurd (omega arith)
bytes_back (suc m) (b0 ∷ b1 ∷ b2 ∷ b3 ∷ b4 ∷ b5 ∷ rest) (more h0 (more h1 (more h2 (more h3 (more h4 (more h5 h)))))) n =
    let four = bytes_number (b0 ∷ b1 ∷ b2 ∷ b3 ∷ []) (more h0 (more h1 (more h2 (more h3 none)))) in
    let two = bytes_number (b4 ∷ b5 ∷ []) (more h4 (more h5 none)) in
    ap (λ (x : List ℕ). (x ++ number_bytes 2 (number_from (b4 ∷ b5 ∷ []) 0 2)) ++ index_bytes (entries_of rest)) four
    ∙ ap (λ (x : List ℕ). ((b0 ∷ b1 ∷ b2 ∷ b3 ∷ []) ++ x) ++ index_bytes (entries_of rest)) two
    ∙ ap (λ (r : List ℕ). b0 ∷ b1 ∷ b2 ∷ b3 ∷ b4 ∷ b5 ∷ r) (bytes_back m rest h (omega arith))

-- the entries of two lists of bytes one after the other, where the first is of whole entries
pub entries_append : (n : ℕ) (xs ys : List ℕ) → length xs ≡ entry_length * n → entries_of (xs ++ ys) ≡ entries_of xs ++ entries_of ys
unfolding entries_of
entries_append zero [] ys l = refl
entries_append zero (b ∷ xs) ys l = absurd (omega arith)
entries_append (suc n) [] ys l = absurd (omega arith)
entries_append (suc n) (b0 ∷ []) ys l = absurd (omega arith)
entries_append (suc n) (b0 ∷ b1 ∷ []) ys l = absurd (omega arith)
entries_append (suc n) (b0 ∷ b1 ∷ b2 ∷ []) ys l = absurd (omega arith)
entries_append (suc n) (b0 ∷ b1 ∷ b2 ∷ b3 ∷ []) ys l = absurd (omega arith)
entries_append (suc n) (b0 ∷ b1 ∷ b2 ∷ b3 ∷ b4 ∷ []) ys l = absurd (omega arith)
entries_append (suc n) (b0 ∷ b1 ∷ b2 ∷ b3 ∷ b4 ∷ b5 ∷ xs) ys l =
    ap (λ (r : List Entry). entry_of (b0 ∷ b1 ∷ b2 ∷ b3 ∷ b4 ∷ b5 ∷ []) ∷ r) (entries_append n xs ys (omega arith))

-- ---- The index of repairs.
repair_well : (r : ℕ) → r ≤ 2 → (r ≡ 0 → ⊥) → (eqb r 1 || eqb r 2) ≡ true
repair_well r l n =
    by_test (eqb r 1) (λ t. or_left _ _ t)
    (λ f. let m = eqb-false r 1 f in or_right (eqb r 1) (eqb r 2) (eq-eqb r 2 (two m)))
  where
    two : (r ≡ 1 → ⊥) → r ≡ 2
    two m = omega arith

pub index_well : (rs : List ℕ) (least i lines : ℕ) → Repairs rs → least ≤ i → i + length rs ≤ lines
    → entries_well least lines (index_from i rs) ≡ true
unfolding entries_well entry_well index_from
index_well [] least i lines h l m = refl
index_well (r ∷ rs) least i lines (line q h) l m =
    by_test (eqb r 0) (λ t. simp t (index_well rs least (suc i) lines h (omega arith) (omega arith)))
    (λ f.
    simp (f, le-leb least i l, lt-ltb i lines (omega arith), repair_well r q (eqb-false _ _ f))
    (index_well rs (suc i) (suc i) lines h (omega arith) (omega arith)))

pub index_small : (rs : List ℕ) (i : ℕ) → Repairs rs → i + length rs ≤ most_lines → AllSmall (index_from i rs)
unfolding index_from
index_small [] i h m = nothing
index_small (r ∷ rs) i (line q h) m =
    let rest = index_small rs (suc i) h (omega arith) in
    by_cond (λ (es : List Entry). AllSmall es) (eqb r 0) _ _ (λ t. rest)
    (λ f. also (record { ordinal = omega arith; repairs = omega arith }) rest)

pub index_count : (rs : List ℕ) (i : ℕ) → length (index_from i rs) ≤ length rs
unfolding index_from
index_count [] i = omega arith
index_count (r ∷ rs) i =
    let rest = index_count rs (suc i) in
    by_cond (λ (es : List Entry). length es ≤ suc (length rs)) (eqb r 0) _ _ (λ t. omega arith) (λ f. omega arith)

pub or_true : (a : Bool) → (a || true) ≡ true
or_true true = refl
or_true false = refl

pub or_false : (a : Bool) → (a || false) ≡ a
or_false true = refl
or_false false = refl

pub index_clean : (a b : ℕ) (rs : List ℕ) (i : ℕ) → none_within a b (index_from i rs) ≡ clean_from a b i rs
unfolding index_from none_within clean_from
index_clean a b [] i = refl
index_clean a b (r ∷ rs) i =
    by_test (eqb r 0) (λ t. simp (t, or_true) (index_clean a b rs (suc i)))
    (λ f. simp (f, or_false) (ap (λ (c : Bool). not (within a b i) && c) (index_clean a b rs (suc i))))

-- ---- Reading every line: each line of a to b has no repairs.
pub clean_each : (a b : ℕ) (rs : List ℕ) (i k : ℕ) → clean_from a b i rs ≡ true → a ≤ i + k → i + k ≤ b → get_or rs k 0 ≡ 0
unfolding clean_from
clean_each a b [] i k c l m = refl
clean_each a b (r ∷ rs) i zero c l m =
    let first = (and_true (not (within a b i) || eqb r 0) (clean_from a b (suc i) rs) c).0 in
    let inside : within a b i ≡ true = simp (le-leb a i (omega arith), le-leb i b (omega arith)) in
    eqb-true r 0 (simp inside at first)
clean_each a b (r ∷ rs) i (suc k) c l m =
    clean_each a b rs (suc i) k (and_true (not (within a b i) || eqb r 0) (clean_from a b (suc i) rs) c).1 (omega arith) (omega arith)

pub clean_all : (a b : ℕ) (rs : List ℕ) (i : ℕ) → ((k : ℕ) → a ≤ i + k → i + k ≤ b → get_or rs k 0 ≡ 0) → clean_from a b i rs ≡ true
unfolding clean_from
clean_all a b [] i h = refl
clean_all a b (r ∷ rs) i h =
    let first : (not (within a b i) || eqb r 0) ≡ true =
    by_test (within a b i)
    (λ t.
    let both = and_true (leb a i) (leb i b) t in
    let low = leb-true a i both.0 in
    let high = leb-true i b both.1 in
    or_right (not (within a b i)) (eqb r 0) (eq-eqb r 0 (h 0 (omega arith) (omega arith))))
    (λ f. or_left (not (within a b i)) (eqb r 0) (ap not f))
    in
    simp first (clean_all a b rs (suc i) (λ k l m. h (suc k) (omega arith) (omega arith)))

-- ---- What is known of entries that are well.
pub record Well (least lines : ℕ) (e : Entry) (es : List Entry) : Type 0 where
  pub low : least ≤ e.ordinal
  pub high : e.ordinal < lines
  pub repairs : (e.repairs ≡ 1) ⊎ (e.repairs ≡ 2)
  pub rest : entries_well (suc e.ordinal) lines es ≡ true

pub well : (least lines : ℕ) (e : Entry) (es : List Entry) → entries_well least lines (e ∷ es) ≡ true → Well least lines e es
unfolding entries_well entry_well
well least lines e es h =
    let both = and_true (entry_well least lines e) (entries_well (suc e.ordinal) lines es) h in
    let one = and_true (leb least e.ordinal && ltb e.ordinal lines) (eqb e.repairs 1 || eqb e.repairs 2) both.0 in
    let two = and_true (leb least e.ordinal) (ltb e.ordinal lines) one.0 in
    record {
      low = leb-true _ _ two.0;
      high = ltb-true _ _ two.1;
      repairs = ⊎_elim (λ x. inl (eqb-true _ _ x)) (λ y. inr (eqb-true _ _ y)) (or_either (eqb e.repairs 1) (eqb e.repairs 2) one.1);
      rest = both.1;
    }

pub well_back : (least lines : ℕ) (e : Entry) (es : List Entry) → Well least lines e es → entries_well least lines (e ∷ es) ≡ true
unfolding entries_well entry_well
well_back least lines e es w =
    simp (
      le-leb _ _ w.low,
      lt-ltb _ _ w.high,
      ⊎_elim (λ x. or_left (eqb e.repairs 1) (eqb e.repairs 2) (eq-eqb _ _ x)) (λ y. or_right (eqb e.repairs 1) (eqb e.repairs 2) (eq-eqb _ _ y))
          w.repairs,
      w.rest,
    )

-- ---- The one list of repairs of an index.
skip : (k i n : ℕ) (es : List Entry) → entries_well (suc i) n es ≡ true → repairs_from (suc k) i es ≡ 0 ∷ repairs_from k (suc i) es
unfolding repairs_from
skip k i n [] h = refl
skip k i n (e ∷ es) h =
    let w = well (suc i) n e es h in
    let low = w.low in
    simp (ne_eqb e.ordinal i (λ z. omega arith))

-- a list's index tells the list
pub repairs_back : (rs : List ℕ) (i : ℕ) → Repairs rs → repairs_from (length rs) i (index_from i rs) ≡ rs
unfolding repairs_from index_from
repairs_back [] i h = refl
repairs_back (r ∷ rs) i (line q h) =
    by_test (eqb r 0)
    (λ t.
    simp t
    (skip (length rs) i (suc i + length rs) (index_from (suc i) rs)
    (index_well rs (suc i) (suc i) (suc i + length rs) h (omega arith) (omega arith))
    ∙ ap (λ (x : List ℕ). 0 ∷ x) (repairs_back rs (suc i) h)
    ∙ ap (λ (x : ℕ). x ∷ rs) (sym (eqb-true r 0 t))))
    (λ f. simp (f, eq-eqb i i refl) (ap (λ (x : List ℕ). r ∷ x) (repairs_back rs (suc i) h)))

-- what an index tells is a list of which it is the index
pub record Told (k i : ℕ) (es : List Entry) : Type 0 where
  pub each : Repairs (repairs_from k i es)
  pub count : length (repairs_from k i es) ≡ k
  pub same : index_from i (repairs_from k i es) ≡ es

pub told : (k i n : ℕ) (es : List Entry) → n ≡ i + k → entries_well i n es ≡ true → Told k i es
unfolding repairs_from index_from entries_well
told zero i n [] q h = record { each = no_line; count = refl; same = refl }
told zero i n (e ∷ es) q h =
    let w = well i n e es h in
    let low = w.low in
    let high = w.high in
    absurd (omega arith)
told (suc k) i n [] q h =
    let t = told k (suc i) n [] (omega arith) refl in
    record { each = line {r = 0} (omega arith) t.each; count = ap suc t.count; same = t.same }
told (suc k) i n (e ∷ es) q h =
    let w = well i n e es h in
    by_test (eqb e.ordinal i)
    (λ y.
    let at = eqb-true e.ordinal i y in
    here w at (told k (suc i) n es (omega arith) (ap (λ (j : ℕ). entries_well (suc j) n es) (sym at) ∙ w.rest)))
    (λ z.
    let past = above w.low (eqb-false e.ordinal i z) in
    later (eqb-false _ _ z)
    (told k (suc i) n (e ∷ es) (omega arith)
    (well_back (suc i) n e es (record { low = past; high = w.high; repairs = w.repairs; rest = w.rest }))))
  where
    above : i ≤ e.ordinal → (e.ordinal ≡ i → ⊥) → suc i ≤ e.ordinal
    above l z = omega arith

    here : Well i n e es → e.ordinal ≡ i → Told k (suc i) es → Told (suc k) i (e ∷ es)
    here w y t =
        let some : e.repairs ≡ 0 → ⊥ = λ z. ⊎_elim (λ x. omega arith) (λ x. omega arith) w.repairs in
        let few : e.repairs ≤ 2 = ⊎_elim (λ x. omega arith) (λ x. omega arith) w.repairs in
        record {
          each = simp (eq-eqb _ _ y) (line few t.each);
          count = simp (eq-eqb _ _ y) (ap suc t.count);
          same =
              simp (eq-eqb _ _ y, ne_eqb _ _ some)
              (ap (λ (j : ℕ). record { ordinal = j; repairs = e.repairs } ∷ index_from (suc i) (repairs_from k (suc i) es)) (sym y)
              ∙ ap (λ (r : List Entry). e ∷ r) t.same);
        }

    later : (e.ordinal ≡ i → ⊥) → Told k (suc i) (e ∷ es) → Told (suc k) i (e ∷ es)
    later z t =
        record {
          each = simp (ne_eqb _ _ z) (line {r = 0} (omega arith) t.each);
          count = simp (ne_eqb _ _ z) (ap suc t.count);
          same = simp (ne_eqb _ _ z) t.same;
        }
