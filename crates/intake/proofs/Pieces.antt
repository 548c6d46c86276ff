-- Laws of pieces; that however bytes arrive, a buffer that is filled and handed on gives the same pieces; and that however input is cut, a
-- state that takes it comes to the same. Assumes nothing.
use Rattle.std.proofs.Common.{◌≡◌, ℕ, zero, suc, ◌+◌, ◌-◌, ◌≤◌, Bool, cond, eqb, List, [], ◌∷◌, ◌++◌, length, take, drop, sym, refl, ap, ◌∙◌, subst, append_assoc, append-nil, arith, length-append, length-drop, take-append-drop, length-take-le, take_at, drop_at, eqb-true}
use mathlib.Core.List.{flatten}
use mathlib.Core.List.{Memᴰ}
use Rattle.refusal.proofs.Cases.{by_test}
use Rattle.intake.specs.Arrival.{pieces, all_pieces, handed_on, Fits, Taking, fed_by}

-- the first so many of a list that has them
pub start_long : (n : ℕ) (xs : List ℕ) → n ≤ length xs → length (take (n - 0) xs) ≡ n
start_long n xs fits = length-take-le (n - 0) xs (omega arith) ∙ omega arith

-- more than enough pieces are the same pieces
pub pieces_enough : (n j k : ℕ) (bytes : List ℕ) → 1 ≤ n → length bytes ≤ j → length bytes ≤ k → pieces j n bytes ≡ pieces k n bytes
unfolding pieces
pieces_enough n zero zero [] l a b = refl
pieces_enough n zero (suc k) [] l a b = refl
pieces_enough n (suc j) zero [] l a b = refl
pieces_enough n (suc j) (suc k) [] l a b = refl
pieces_enough n zero k (x ∷ bytes) l a b = absurd (omega arith)
pieces_enough n (suc j) zero (x ∷ bytes) l a b = absurd (omega arith)
pieces_enough n (suc j) (suc k) (x ∷ bytes) l a b =
    let less = length-drop n (x ∷ bytes) in
    ap (λ (ps : List (List ℕ)). take n (x ∷ bytes) ∷ ps) (pieces_enough n j k (drop n (x ∷ bytes)) l (omega arith) (omega arith))

-- a whole piece, and those of the bytes behind it
pub pieces_whole : (n : ℕ) (whole rest : List ℕ) → 1 ≤ n → length whole ≡ n → all_pieces n (whole ++ rest) ≡ whole ∷ all_pieces n rest
unfolding pieces
pieces_whole n [] rest l e = absurd (omega arith)
pieces_whole n (b ∷ whole) rest l e =
    let both = length-append (b ∷ whole) rest in
    rw (take_at (b ∷ whole) rest n e, drop_at (b ∷ whole) rest n e)
    (ap (λ (ps : List (List ℕ)). (b ∷ whole) ∷ ps) (pieces_enough n (length (whole ++ rest)) (length rest) rest l (omega (arith, length-append whole rest)) (omega arith)))

-- lines of one length are the pieces of what they are put together
pub pieces_of_whole : (n : ℕ) (lines : List (List ℕ)) → 1 ≤ n → ((line : List ℕ) → Memᴰ line lines → length line ≡ n)
    → all_pieces n (flatten lines) ≡ lines
unfolding pieces flatten
pieces_of_whole n [] some each = refl
pieces_of_whole n (line ∷ lines) some each =
    pieces_whole n line (flatten lines) some (each line (Memᴰ.head refl))
    ∙ ap (λ (ps : List (List ℕ)). line ∷ ps) (pieces_of_whole n lines some (λ one at. each one (Memᴰ.tail at)))

-- and pieces put together are the bytes that were cut
joined : (n k : ℕ) (bytes : List ℕ) → 1 ≤ n → length bytes ≤ k → flatten (pieces k n bytes) ≡ bytes
unfolding pieces flatten
joined n zero [] some enough = refl
joined n zero (b ∷ bytes) some enough = absurd (omega arith)
joined n (suc k) [] some enough = refl
joined n (suc k) (b ∷ bytes) some enough =
    let rest = drop n (b ∷ bytes) in
    ap (λ (l : List ℕ). take n (b ∷ bytes) ++ l) (joined n k rest some (omega (arith, length-drop n (b ∷ bytes)))) ∙ take-append-drop n (b ∷ bytes)

pub pieces_joined : (n : ℕ) (bytes : List ℕ) → 1 ≤ n → flatten (all_pieces n bytes) ≡ bytes
pieces_joined n bytes some = joined n (length bytes) bytes some (omega arith)

module _ (n : ℕ) (some : 1 ≤ n) where
  held_and_reads : (reads : List (List ℕ)) (held : List ℕ) → Fits n (length held) reads
      → handed_on n held reads ≡ all_pieces n (held ++ flatten reads)
  unfolding handed_on flatten
  held_and_reads [] held fits = ap (all_pieces n) (sym (append-nil held))
  held_and_reads (read ∷ rest) held fits =
      let bytes = held ++ read in
      let size : length bytes ≡ length held + length read = length-append held read in
      let left : Fits n (cond (eqb (length bytes) n) 0 (length bytes)) rest =
      subst (λ (k : ℕ). Fits n (cond (eqb k n) 0 k) rest) (sym size) fits.1 in
      by_test (eqb (length bytes) n)
      (λ t.
      let on = held_and_reads rest [] (subst (λ (b : Bool). Fits n (cond b 0 (length bytes)) rest) t left) in
      simp t (ap (λ (ps : List (List ℕ)). bytes ∷ ps) on ∙ sym (pieces_whole n bytes (flatten rest) some (eqb-true _ _ t)) ∙ ap (all_pieces n) (append_assoc held read (flatten rest))))
      (λ f.
      let on = held_and_reads rest bytes (subst (λ (b : Bool). Fits n (cond b 0 (length bytes)) rest) f left) in
      simp f (on ∙ ap (all_pieces n) (append_assoc held read (flatten rest))))

-- Reads that fit, of whatever lengths, hand on the pieces of all that they gave.
pub any_reads : (n : ℕ) (reads : List (List ℕ)) → 1 ≤ n → Fits n 0 reads → handed_on n [] reads ≡ all_pieces n (flatten reads)
any_reads n reads some fits = held_and_reads n some reads [] fits

-- A state that takes input in any pieces comes to this of the whole: to the same whether some elements were taken before more came or all
-- came at once, and at the end, of what may be left.
pub record Whole (S A : Type 0) (by : Taking S A) (whole : S → List A → S) (Left : S → List A → Type 0) : Type 0 where
  pub goes_on : (s : S) (ready more : List A) → whole s (ready ++ more) ≡ whole (by.after s ready) (drop (by.taken s ready) ready ++ more)
  pub left : (s : S) (ready : List A) → Left (by.after s ready) (drop (by.taken s ready) ready)
  pub ends : (s : S) (held : List A) → Left s held → by.closed s held ≡ whole s held

module _ {S A : Type 0} (by : Taking S A) (whole : S → List A → S) (Left : S → List A → Type 0) (w : Whole S A by whole Left) where
  pub fed_whole : (ps : List (List A)) (s : S) (held : List A) → Left s held → fed_by by s held ps ≡ whole s (held ++ flatten ps)
  unfolding fed_by flatten
  fed_whole [] s held l = rw append-nil (w.ends s held l)
  fed_whole (piece ∷ ps) s held l =
      fed_whole ps _ _ (w.left s (held ++ piece)) ∙ sym (w.goes_on s (held ++ piece) (flatten ps)) ∙ rw append_assoc
