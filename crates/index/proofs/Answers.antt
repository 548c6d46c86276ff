-- The steps come to the whole: a question that is fed an index answers as the definition does. Assumes nothing.
use Prim.Native.Nat.{ℕ, zero, suc, ◌+◌, ◌*◌, ◌-◌}
use mathlib.Core.Path.{◌≡◌, refl, sym, ap, ap₂, ◌∙◌}
use mathlib.Core.List.{List, [], ◌∷◌}
use mathlib.Core.Bool.{Bool, true, false, not, ◌&&◌, ◌||◌, true≢false}
use native.Mathlib.Omega.{arith}
use native.Mathlib.Numerals.{add-one}
use lib.ListN.{length}
use lib.Dec.{eqb, ltb}
use borrow.Author.Tests.{eq-eqb, ne_eqb, eqb-true, eqb-false}
use Rattle.refusal.specs.declared.Refusal.{Refusal}
use Rattle.refusal.specs.Numbers.{bad_parts}
use Rattle.refusal.specs.Answer.{refuse, or_else}
use Rattle.refusal.proofs.Cases.{by_test, by_cond, not_false}
use Rattle.refusal.proofs.Firsts.{or_else_none, or_else_refused, not_made}
use Rattle.system.specs.Walk.{named_refusal}
use Rattle.index.specs.declared.trailer.Trailer.{Trailer}
use Rattle.index.specs.declared.question.Question.{Question}
use Rattle.index.specs.Entries.{entry_length, entry_of, entries_of, entry_well, entries_well, none_within}
use Rattle.index.specs.Parts.{trailer_length, trailer_of, offset_in, entries_in, lines_in, line_size, parts_fit, sound, parts_refusal, range_refusal, asked_by, answer_of}
use Rattle.index.specs.Asking.{trailer_fits, begun_of, between, gathered, entered, too_many, step_of, fed_of, refusal_of, closed_of}
use Rattle.index.proofs.Entries.{or_false}
use Rattle.index.proofs.Questions.{step_many, fed_six}
use Rattle.index.proofs.Conditions.{sound_conditions}

-- ---- A refusal never says clean, and nothing after it counts.
asked_refused : (r : Refusal) (c d : Bool) → (r.number ≡ 0 → ⊥) → asked_by r c ≡ asked_by r d
asked_refused r c d n = simp (ne_eqb _ _ n)

refused_alike : (r x y : Refusal) (c d : Bool) → (r.number ≡ 0 → ⊥) → asked_by (or_else r x) c ≡ asked_by (or_else r y) d
refused_alike r x y c d n =
    ap (λ (s : Refusal). asked_by s c) (or_else_refused r x n) ∙ asked_refused r c d n
    ∙ ap (λ (s : Refusal). asked_by s d) (sym (or_else_refused r y n))

-- ---- What no byte changes.
record Kept (q r : Question) : Type 0 where
  system : r.system ≡ q.system
  start : r.start ≡ q.start
  lines : r.lines ≡ q.lines
  from : r.a ≡ q.a
  to : r.b ≡ q.b

step_kept : (q : Question) (b : ℕ) → Kept q (step_of q b)
unfolding step_of too_many gathered between
step_kept q b =
    by_cond (λ (r : Question). Kept q r) (eqb q.left 0) _ _
    (λ t. record { system = refl; start = refl; lines = refl; from = refl; to = refl })
    (λ f.
    by_cond (λ (r : Question). Kept q r) (ltb q.place 5) _ _
    (λ t. record { system = refl; start = refl; lines = refl; from = refl; to = refl })
    (λ g. record { system = refl; start = refl; lines = refl; from = refl; to = refl }))

fed_kept : (q : Question) (xs : List ℕ) → Kept q (fed_of q xs)
unfolding fed_of
fed_kept q [] = record { system = refl; start = refl; lines = refl; from = refl; to = refl }
fed_kept q (x ∷ xs) =
    let one = step_kept q x in
    let more = fed_kept (step_of q x) xs in
    record {
      system = more.system ∙ one.system;
      start = more.start ∙ one.start;
      lines = more.lines ∙ one.lines;
      from = more.from ∙ one.from;
      to = more.to ∙ one.to;
    }

-- ---- A number of bytes that is not the one that is left is wrong.
step_wrong : (q : Question) (b : ℕ) → q.wrong ≡ true → (step_of q b).wrong ≡ true
unfolding step_of too_many gathered between
step_wrong q b w =
    by_test (eqb q.left 0) (λ t. simp t)
    (λ f. by_test (ltb q.place 5) (λ t. simp (f, t, w)) (λ g. simp (f, g, w)))

fed_wrong : (q : Question) (xs : List ℕ) → q.wrong ≡ true → (fed_of q xs).wrong ≡ true
unfolding fed_of
fed_wrong q [] w = w
fed_wrong q (x ∷ xs) w = fed_wrong (step_of q x) xs (step_wrong q x w)

step_left : (q : Question) (b : ℕ) → (q.left ≡ 0 → ⊥) → (step_of q b).left ≡ q.left - 1
unfolding step_of gathered between
step_left q b n = by_test (ltb q.place 5) (λ t. simp (ne_eqb _ _ n, t)) (λ f. simp (ne_eqb _ _ n, f))

fed_left : (q : Question) (xs : List ℕ) → (fed_of q xs).wrong ≡ false → (fed_of q xs).left + length xs ≡ q.left
unfolding fed_of too_many
fed_left q [] w = omega arith
fed_left q (x ∷ xs) w =
    by_test (eqb q.left 0)
    (λ t.
    absurd
    (true≢false (sym (fed_wrong (step_of q x) xs (ap (λ (r : Question). r.wrong) (step_many q x (eqb-true _ _ t)))) ∙ w)))
    (λ f. let n = eqb-false q.left 0 f in omega (arith, n, step_left q x n, fed_left (step_of q x) xs w))

-- ---- Whole entries.
or_assoc : (a b c : Bool) → ((a || not b) || not c) ≡ (a || not (b && c))
or_assoc true b c = refl
or_assoc false true c = refl
or_assoc false false c = refl

or_none : (a b c : Bool) → ((a || b) || not c) ≡ (a || not (not b && c))
or_none true b c = refl
or_none false true c = refl
or_none false false c = refl

record Reads (q : Question) (xs : List ℕ) : Type 0 where
  wrong : (fed_of q xs).wrong ≡ (q.wrong || not (entries_well q.least q.lines (entries_of xs)))
  unclean : (fed_of q xs).unclean ≡ (q.unclean || not (none_within q.a q.b (entries_of xs)))
  left : (fed_of q xs).left ≡ 0

reads : (m : ℕ) (q : Question) (xs : List ℕ) → q.place ≡ 0 → q.left ≡ entry_length * m → length xs ≡ entry_length * m → Reads q xs
unfolding fed_of entries_of entries_well none_within between
reads zero q [] p l n = record { wrong = sym (or_false _); unclean = sym (or_false _); left = omega arith }
reads zero q (x ∷ xs) p l n = absurd (omega arith)
reads (suc m) q [] p l n = absurd (omega arith)
reads (suc m) q (b0 ∷ []) p l n = absurd (omega arith)
reads (suc m) q (b0 ∷ b1 ∷ []) p l n = absurd (omega arith)
reads (suc m) q (b0 ∷ b1 ∷ b2 ∷ []) p l n = absurd (omega arith)
reads (suc m) q (b0 ∷ b1 ∷ b2 ∷ b3 ∷ []) p l n = absurd (omega arith)
reads (suc m) q (b0 ∷ b1 ∷ b2 ∷ b3 ∷ b4 ∷ []) p l n = absurd (omega arith)
reads (suc m) q (b0 ∷ b1 ∷ b2 ∷ b3 ∷ b4 ∷ b5 ∷ rest) p l n =
    let e = entry_of (b0 ∷ b1 ∷ b2 ∷ b3 ∷ b4 ∷ b5 ∷ []) in
    let t = entered q (q.left - 6) e in
    let f = fed_six q b0 b1 b2 b3 b4 b5 rest p (omega arith) in
    let r = reads m t rest refl (omega arith) (omega arith) in
    let least : e.ordinal + 1 ≡ suc e.ordinal = add-one e.ordinal in
    record {
      wrong =
          ap (λ (u : Question). u.wrong) f ∙ r.wrong
          ∙ ap (λ (k : ℕ). (q.wrong || not (entry_well q.least q.lines e)) || not (entries_well k q.lines (entries_of rest))) least
          ∙ or_assoc q.wrong (entry_well q.least q.lines e) (entries_well (suc e.ordinal) q.lines (entries_of rest));
      unclean = ap (λ (u : Question). u.unclean) f ∙ r.unclean ∙ or_none q.unclean _ _;
      left = ap (λ (u : Question). u.left) f ∙ r.left;
    }

-- ---- What refuses the parts at the end of any bytes.
bad_or : (a b : Bool) → ((a || not b) || false) ≡ not ((not a && true) && b)
bad_or true b = refl
bad_or false true = refl
bad_or false false = refl

and_false : (a : Bool) → (a && false) ≡ false
and_false true = refl
and_false false = refl

bad_fed : (m : ℕ) (q : Question) (xs : List ℕ) → q.place ≡ 0 → q.left ≡ entry_length * m
    → ((fed_of q xs).wrong || not (eqb (fed_of q xs).left 0))
    ≡ not ((not q.wrong && eqb (length xs) (entry_length * m)) && entries_well q.least q.lines (entries_of xs))
bad_fed m q xs p l =
    by_test (eqb (length xs) (entry_length * m))
    (λ t.
    let r = reads m q xs p l (eqb-true _ _ t) in
    simp (t, r.wrong, r.left) (bad_or q.wrong (entries_well q.least q.lines (entries_of xs))))
    (λ f.
    let bad : ((fed_of q xs).wrong || not (eqb (fed_of q xs).left 0)) ≡ true =
    by_test (fed_of q xs).wrong (λ w. simp w)
    (λ w. simp (w, ne_eqb (fed_of q xs).left 0 (λ z. eqb-false (length xs) (entry_length * m) f (omega (arith, fed_left q xs w)))))
    in
    simp (bad, f, and_false))

refusal_fed : (m : ℕ) (q : Question) (xs : List ℕ) → q.place ≡ 0 → q.left ≡ entry_length * m
    → refusal_of (fed_of q xs)
    ≡ or_else (named_refusal q.system q.start)
    (refuse (not ((not q.wrong && eqb (length xs) (entry_length * m)) && entries_well q.least q.lines (entries_of xs))) bad_parts 0)
unfolding refusal_of
refusal_fed m q xs p l =
    let k = fed_kept q xs in
    ap₂ or_else (ap₂ named_refusal k.system k.start) (ap (λ (t : Bool). refuse t bad_parts 0) (bad_fed m q xs p l))

-- ---- From the trailer.
not_not : (a : Bool) → not (not a) ≡ a
not_not true = refl
not_not false = refl

module _ (system start : ℕ) (trailer index : List ℕ) (file a b : ℕ) where
  abbrev Begun : Question
  Begun = begun_of system start trailer file a b

  abbrev Told : Trailer
  Told = record { offset = offset_in trailer; entries = entries_in trailer; lines = lines_in trailer }

  told : length trailer ≡ trailer_length → trailer_of trailer ≡ Told
  unfolding trailer_of
  told long = simp (eq-eqb _ _ long)

  -- with so many bytes of index, the trailer's test is that of the parts
  fits : length trailer ≡ trailer_length
      → (trailer_fits (line_size system) Told file && eqb (length index) (entry_length * entries_in trailer))
      ≡ parts_fit (line_size system) trailer index file
  unfolding trailer_fits parts_fit
  fits long =
      let e = eq-eqb (length trailer) trailer_length long in
      by_test (eqb (length index) (entry_length * entries_in trailer))
      (λ y.
      rw (eqb-true (length index) (entry_length * entries_in trailer) y)
      (simp (e, eq-eqb (entry_length * entries_in trailer) (entry_length * entries_in trailer) refl, and_true_right)))
      (λ n. simp (e, n, and_false))
    where
      and_true_right : (x y z : Bool) → ((x && y && z) && true) ≡ (x && y && z)
      and_true_right true true true = refl
      and_true_right true true false = refl
      and_true_right true false z = refl
      and_true_right false y z = refl

  fits_not : eqb (length trailer) trailer_length ≡ false
      → ((not (not (eqb (length trailer) trailer_length && trailer_fits (line_size system) (trailer_of trailer) file))
      && eqb (length index) (entry_length * (trailer_of trailer).entries))
      && entries_well 0 (trailer_of trailer).lines (entries_of index))
      ≡ (parts_fit (line_size system) trailer index file && entries_well 0 (lines_in trailer) (entries_of index))
  unfolding parts_fit
  fits_not n = simp n

  begun_sound : ((not Begun.wrong && eqb (length index) (entry_length * (trailer_of trailer).entries))
      && entries_well 0 (trailer_of trailer).lines (entries_of index))
      ≡ sound (line_size system) trailer index file
  unfolding begun_of sound
  begun_sound =
      by_test (eqb (length trailer) trailer_length)
      (λ t.
      let long = eqb-true _ _ t in
      simp (t, told long, not_not)
      (ap (λ (f : Bool). f && entries_well 0 (lines_in trailer) (entries_of index)) (fits long)))
      fits_not

  pub refusal_whole : refusal_of (fed_of Begun index) ≡ parts_refusal system start trailer index file
  unfolding begun_of parts_refusal
  refusal_whole =
      refusal_fed (trailer_of trailer).entries Begun index refl refl
      ∙ ap (λ (s : Bool). or_else (named_refusal system start) (refuse (not s) bad_parts 0)) begun_sound

  -- what parts that are not refused let the question say at its end
  record Ends : Type 0 where
    lines : (fed_of Begun index).lines ≡ lines_in trailer
    from : (fed_of Begun index).a ≡ a
    to : (fed_of Begun index).b ≡ b
    clean : not (fed_of Begun index).unclean ≡ none_within a b (entries_of index)

  ends : sound (line_size system) trailer index file ≡ true → Ends
  unfolding begun_of
  ends s =
      let f = (sound_conditions (line_size system) trailer index file s).fits in
      let t = told f.trailer in
      let k = fed_kept Begun index in
      let r = reads (trailer_of trailer).entries Begun index refl refl
      (f.entries ∙ ap (λ (u : Trailer). entry_length * u.entries) (sym t))
      in
      record {
        lines = k.lines ∙ ap (λ (u : Trailer). u.lines) t;
        from = k.from;
        to = k.to;
        clean = ap not r.unclean ∙ not_not _;
      }

  -- parts that are not refused are sound
  pub parts_sound : (parts_refusal system start trailer index file).number ≡ 0 → sound (line_size system) trailer index file ≡ true
  unfolding parts_refusal
  parts_sound z =
      let none = (or_else_none (named_refusal system start) (refuse (not (sound (line_size system) trailer index file)) bad_parts 0) z).1 in
      not_false _ (not_made (not (sound (line_size system) trailer index file)) bad_parts 0 (λ y. omega arith) none)

  abbrev Range : Refusal
  Range = range_refusal (fed_of Begun index).lines (fed_of Begun index).a (fed_of Begun index).b

  abbrev Clean : Bool
  Clean = not (fed_of Begun index).unclean

  accepted : (parts_refusal system start trailer index file).number ≡ 0
      → asked_by (or_else (parts_refusal system start trailer index file) Range) Clean
      ≡ asked_by (or_else (parts_refusal system start trailer index file) (range_refusal (lines_in trailer) a b)) (none_within a b (entries_of index))
  accepted z = let e = ends (parts_sound z) in rw (e.lines, e.from, e.to, e.clean)

  pub steps_whole : closed_of (fed_of Begun index) ≡ answer_of system start trailer index file a b
  unfolding closed_of answer_of
  steps_whole =
      ap (λ (r : Refusal). asked_by (or_else r Range) Clean) refusal_whole
      ∙ by_test (eqb (parts_refusal system start trailer index file).number 0)
      (λ t. accepted (eqb-true _ _ t))
      (λ f. refused_alike (parts_refusal system start trailer index file) Range _ Clean _ (eqb-false _ _ f))
