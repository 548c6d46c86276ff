-- Laws of the entries that bytes hold, and of where two lists of entries differ. Assumes nothing.
use Rattle.std.proofs.Common.{◌≡◌, ℕ, zero, suc, ◌*◌, ◌<◌, ◌≤◌, cond, ltb, List, [], ◌∷◌, ◌++◌, length, take, drop, sym, refl, ap, ◌∙◌, ap₂, arith, length-drop, take-append-drop, drop_of_length-le, length-take-le, take_all, ltb-false, ltb-true, eq-eqb}
use Rattle.refusal.proofs.Cases.{by_test}
use Rattle.index.specs.declared.entry.Entry.{Entry}
use Rattle.index.specs.Entries.{entry_length, entry_of, entries_of}
use Rattle.index.proofs.Entries.{entries_append}
use Rattle.finished.specs.Check.{no_difference, same_entry, differing, Entire}

-- ---- The entries of bytes.
pub entries_short : (bytes : List ℕ) → length bytes < entry_length → entries_of bytes ≡ []
unfolding entries_of
entries_short [] l = refl
entries_short (b0 ∷ []) l = refl
entries_short (b0 ∷ b1 ∷ []) l = refl
entries_short (b0 ∷ b1 ∷ b2 ∷ []) l = refl
entries_short (b0 ∷ b1 ∷ b2 ∷ b3 ∷ []) l = refl
entries_short (b0 ∷ b1 ∷ b2 ∷ b3 ∷ b4 ∷ []) l = refl
entries_short (b0 ∷ b1 ∷ b2 ∷ b3 ∷ b4 ∷ b5 ∷ rest) l = absurd (omega arith)

pub entries_next : (bytes : List ℕ) → entry_length ≤ length bytes
    → entries_of bytes ≡ entry_of (take entry_length bytes) ∷ entries_of (drop entry_length bytes)
unfolding entries_of
entries_next [] l = absurd (omega arith)
entries_next (b0 ∷ []) l = absurd (omega arith)
entries_next (b0 ∷ b1 ∷ []) l = absurd (omega arith)
entries_next (b0 ∷ b1 ∷ b2 ∷ []) l = absurd (omega arith)
entries_next (b0 ∷ b1 ∷ b2 ∷ b3 ∷ []) l = absurd (omega arith)
entries_next (b0 ∷ b1 ∷ b2 ∷ b3 ∷ b4 ∷ []) l = absurd (omega arith)
entries_next (b0 ∷ b1 ∷ b2 ∷ b3 ∷ b4 ∷ b5 ∷ rest) l = refl

entries_count : (n : ℕ) (bytes : List ℕ) → length bytes ≡ entry_length * n → length (entries_of bytes) ≡ n
entries_count zero bytes e = ap (λ (es : List Entry). length es) (entries_short bytes (omega arith))
entries_count (suc n) bytes e =
    ap (λ (es : List Entry). length es) (entries_next bytes (omega arith))
    ∙ ap suc (entries_count n (drop entry_length bytes) (omega (arith, length-drop entry_length bytes)))

-- ---- Where entries differ.
-- entries behind others, where those are as many or theirs are at their end
differ_append : (es fs more rest : List Entry) → length fs ≤ length es → (length fs < length es → rest ≡ [])
    → differing (es ++ more) (fs ++ rest) ≡ cond (differing es fs).differs (differing es fs) (differing more rest)
unfolding differing
differ_append [] [] more rest l ends = refl
differ_append [] (f ∷ fs) more rest l ends = absurd (omega arith)
differ_append (e ∷ es) [] more rest l ends = ap (differing ((e ∷ es) ++ more)) (ends (omega arith))
differ_append (e ∷ es) (f ∷ fs) more rest l ends =
    by_test (same_entry e f)
    (λ t. simp t (differ_append es fs more rest (omega arith) (λ m. ends (omega arith))))
    (λ t. simp t)

-- the same entries do not differ
pub differ_never : (es : List Entry) → differing es es ≡ no_difference
unfolding differing
differ_never [] = refl
differ_never (e ∷ es) = simp (eq-eqb e.ordinal _ refl, eq-eqb e.repairs _ refl) (differ_never es)

-- the same of bytes, of which the first are a whole number of entries
pub differ_behind : (ours more theirs : List ℕ) → Entire ours → Entire theirs
    → differing (entries_of (ours ++ more)) (entries_of theirs)
    ≡ cond (differing (entries_of ours) (entries_of (take (length ours) theirs))).differs
    (differing (entries_of ours) (entries_of (take (length ours) theirs)))
    (differing (entries_of more) (entries_of (drop (length ours) theirs)))
differ_behind ours more theirs o t =
    by_test (ltb (length theirs) (length ours))
    (λ l.
    let m : length theirs ≤ length ours = omega (arith, ltb-true (length theirs) (length ours) l) in
    let all = ap (λ (bytes : List ℕ). length bytes) (take_all (length ours) theirs m) in
    parts (record { count = t.count; long = all ∙ t.long }) (omega arith)
    (λ less. ap entries_of (drop_of_length-le theirs m) ∙ entries_short [] (omega arith)))
    (λ l.
    let all = length-take-le (length ours) theirs (ltb-false _ _ l) in
    parts (record { count = o.count; long = all ∙ o.long }) (omega arith) (λ less. absurd (omega arith)))
  where
    parts : Entire (take (length ours) theirs) → length (take (length ours) theirs) ≤ length ours → (length (take (length ours) theirs) < length ours → entries_of (drop (length ours) theirs) ≡ [])
        → differing (entries_of (ours ++ more)) (entries_of theirs)
        ≡ cond (differing (entries_of ours) (entries_of (take (length ours) theirs))).differs (differing (entries_of ours) (entries_of (take (length ours) theirs))) (differing (entries_of more) (entries_of (drop (length ours) theirs)))
    parts f l ends =
        let our = entries_count o.count ours o.long in
        let their = entries_count f.count (take (length ours) theirs) f.long in
        let long = o.long in
        let less = f.long in
        ap₂ differing (entries_append o.count ours more o.long)
        (ap entries_of (sym (take-append-drop (length ours) theirs)) ∙ entries_append f.count (take (length ours) theirs) (drop (length ours) theirs) f.long)
        ∙ differ_append (entries_of ours) (entries_of (take (length ours) theirs)) (entries_of more) (entries_of (drop (length ours) theirs)) (omega arith) (λ m. ends (omega arith))
