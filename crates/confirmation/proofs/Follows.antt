-- Laws of following a run as bytes arrive. A turn goes one of three ways, and each law of all turns is an induction over them, from any
-- offset of the first byte. Assumes nothing.
use Rattle.std.proofs.Common.{◌≡◌, ℕ, zero, suc, ◌+◌, ◌<◌, ◌≤◌, true, false, not, eqb, ltb, List, [], ◌∷◌, ◌++◌, length, take, drop, sym, refl, ap, ◌∙◌, subst, arith, length-append, length-drop, drop-drop, ltb-false, ltb-true, le-ltb, lt-ltb, eq-eqb, ne_eqb, eqb-true}
use lib.Seq.{take-append-le, drop-append-le}
use borrow.Author.Tests.{eqb-false}
use Rattle.refusal.proofs.Cases.{by_test, or_left, or_right}
use Rattle.system.specs.Walk.{walk_refusal, line_bytes}
use Rattle.confirmation.specs.declared.Run.{Run}
use Rattle.confirmation.specs.declared.Followed.{Followed}
use Rattle.confirmation.specs.Run.{judged_next, body_of}
use Rattle.confirmation.specs.Follow.{waits, follow_from, closed_of}
use Rattle.confirmation.proofs.Nexts.{next_refused}
use Rattle.confirmation.proofs.Bodies.{line_has_bytes, body_ended, body_none, body_next, body_barred, body_last}

-- a run that goes on, with a byte at hand
pub record Ready (r : Run) (bytes : List ℕ) : Type 0 where
  pub goes_on : r.number ≡ 0
  pub some : 1 ≤ length bytes

-- nothing can be judged before more bytes arrive: if the run goes on at all, its bytes are short of a line that may be read
abbrev pub Rests : Run → List ℕ → Type 0
Rests r bytes = Ready r bytes → ((walk_refusal r.walk).number ≡ 0) × (length bytes < line_bytes r.walk)

-- where the run goes on, its bytes are short of a line
abbrev pub Short : Run → List ℕ → Type 0
Short r bytes = r.number ≡ 0 → length bytes < line_bytes r.walk

module _ (r : Run) (bytes : List ℕ) where
  pub by_ready : {A : Type 0} → (Ready r bytes → waits r bytes ≡ false → A) → ((Ready r bytes → ⊥) → waits r bytes ≡ true → A) → A
  by_ready goes stays =
      by_test (eqb r.number 0)
      (λ e. by_test (eqb (length bytes) 0)
      (λ z. stays (λ g. omega (arith, eqb-true (length bytes) 0 z, g.some)) (or_right (not (eqb r.number 0)) _ z))
      (λ z. goes (record { goes_on = eqb-true _ _ e; some = omega (arith, eqb-false (length bytes) 0 z) }) (simp (e, z))))
      (λ e. stays (λ g. eqb-false _ _ e g.goes_on) (or_left _ (eqb (length bytes) 0) (ap not e)))

  ready_goes : Ready r bytes → waits r bytes ≡ false
  ready_goes g = by_ready (λ h e. e) (λ n e. absurd (n g))

  -- what each way of a turn comes to
  pub follow_rests : (k at : ℕ) → Rests r bytes → follow_from k r bytes at ≡ record { run = r; taken = at }
  unfolding follow_from
  follow_rests zero at h = refl
  follow_rests (suc k) at h =
      by_ready (λ g e. simp (e, eq-eqb _ _ (h g).0, lt-ltb _ _ (h g).1)) (λ n e. simp e)

  pub follow_barred : (k at : ℕ) → Ready r bytes → ((walk_refusal r.walk).number ≡ 0 → ⊥)
      → follow_from (suc k) r bytes at ≡ record { run = judged_next r bytes; taken = at }
  unfolding follow_from
  follow_barred k at g n = simp (ready_goes g, ne_eqb _ _ n)

  pub follow_whole : (k at n : ℕ) → n ≡ line_bytes r.walk → Ready r bytes → (walk_refusal r.walk).number ≡ 0 → n ≤ length bytes
      → follow_from (suc k) r bytes at ≡ follow_from k (judged_next r (take n bytes)) (drop n bytes) (at + n)
  unfolding follow_from
  follow_whole k at n is g e l =
      let m : line_bytes r.walk ≤ length bytes = omega arith in
      rw is (simp (ready_goes g, eq-eqb _ _ e, le-ltb _ _ m))

  -- a turn goes one of the three ways
  by_turn : (P : Followed → Type 0) (k at : ℕ) → (Rests r bytes → P (record { run = r; taken = at }))
      → (Ready r bytes → ((walk_refusal r.walk).number ≡ 0 → ⊥) → P (record { run = judged_next r bytes; taken = at }))
      → (Ready r bytes → line_bytes r.walk ≤ length bytes
      → P (follow_from k (judged_next r (take (line_bytes r.walk) bytes)) (drop (line_bytes r.walk) bytes) (at + line_bytes r.walk)))
      → P (follow_from (suc k) r bytes at)
  by_turn P k at rests barred whole =
      by_ready
      (λ g w. by_test (eqb (walk_refusal r.walk).number 0)
      (λ a. by_test (ltb (length bytes) (line_bytes r.walk))
      (λ l. resting (λ g. (eqb-true _ _ a, ltb-true _ _ l)))
      (λ l. subst P (sym (follow_whole k at _ refl g (eqb-true _ _ a) (ltb-false _ _ l))) (whole g (ltb-false _ _ l))))
      (λ a. subst P (sym (follow_barred k at g (eqb-false _ _ a))) (barred g (eqb-false _ _ a))))
      (λ n w. resting (λ g. absurd (n g)))
    where
      resting : Rests r bytes → P (follow_from (suc k) r bytes at)
      resting h = subst P (sym (follow_rests (suc k) at h)) (rests h)

-- the run over what was not taken of the bytes, and over more
abbrev pub continued : List ℕ → List ℕ → Followed → Run
continued all more f = body_of f.run (drop f.taken all ++ more)

-- comes to the run over all of them
pub body_followed : (k : ℕ) (r : Run) (bytes : List ℕ) (at : ℕ) (all more : List ℕ) → drop at all ≡ bytes
    → body_of r (bytes ++ more) ≡ continued all more (follow_from k r bytes at)
unfolding follow_from
body_followed zero r bytes at all more e = ap (λ (held : List ℕ). body_of r (held ++ more)) (sym e)
body_followed (suc k) r bytes at all more e =
    let n = line_bytes r.walk in
    by_turn r bytes (λ f. body_of r (bytes ++ more) ≡ continued all more f) k at
    (λ h. ap (λ (held : List ℕ). body_of r (held ++ more)) (sym e))
    (λ g b.
    body_barred r (bytes ++ more) g.goes_on (longer g.some) b
    ∙ sym (ap (λ (s : Run). body_of s (drop at all ++ more)) (next_refused r bytes b) ∙ body_ended _ _ b))
    (λ g l.
    body_next r (bytes ++ more) g.goes_on (longer g.some)
    ∙ rw (take-append-le n bytes more l, drop-append-le n bytes more l)
    (body_followed k (judged_next r (take n bytes)) (drop n bytes) (at + n) all more (sym (drop-drop n at all) ∙ ap (drop n) e)))
  where
    longer : 1 ≤ length bytes → 1 ≤ length (bytes ++ more)
    longer l = omega (arith, length-append bytes more)

rests_short : (r : Run) (bytes : List ℕ) → Rests r bytes → Short r bytes
rests_short r [] h o = line_has_bytes r.walk
rests_short r (b ∷ bytes) h o = (h (record { goes_on = o; some = omega arith })).1

-- What was taken lies within the bytes, which end here; and what is left is shorter than a line where the run goes on.
pub record Within (end : ℕ) (f : Followed) : Type 0 where
  pub taken : f.taken ≤ end
  pub left : f.run.number ≡ 0 → end < f.taken + line_bytes f.run.walk

pub follow_within : (k : ℕ) (r : Run) (bytes : List ℕ) (at end : ℕ) → length bytes ≤ k → at + length bytes ≡ end
    → Within end (follow_from k r bytes at)
unfolding follow_from
follow_within zero r bytes at end h e =
    let l = line_has_bytes r.walk in
    record { taken = omega arith; left = λ o. omega arith }
follow_within (suc k) r bytes at end h e =
    let n = line_bytes r.walk in
    let m = line_has_bytes r.walk in
    let less = length-drop n bytes in
    by_turn r bytes (Within end) k at
    (λ rests. record { taken = omega arith; left = λ o. omega (arith, rests_short r bytes rests o) })
    (λ g b. record { taken = omega arith; left = λ o. absurd (b (sym (ap (λ (s : Run). s.number) (next_refused r bytes b)) ∙ o)) })
    (λ g l. follow_within k (judged_next r (take n bytes)) (drop n bytes) (at + n) end (omega arith) (omega arith))

-- at the end of the input, bytes short of a line are all that is left to judge
pub close_body : (r : Run) (bytes : List ℕ) → Short r bytes → closed_of r bytes ≡ body_of r bytes
unfolding closed_of
close_body r bytes h =
    by_ready r bytes
    (λ g e. simp e (sym (body_last r bytes g.goes_on g.some (omega (arith, h g.goes_on)))))
    (λ n e. simp e (sym (stays bytes n)))
  where
    stays : (bytes : List ℕ) → (Ready r bytes → ⊥) → body_of r bytes ≡ r
    stays [] n = body_none r
    stays (b ∷ bytes) n = body_ended r (b ∷ bytes) (λ o. n (record { goes_on = o; some = omega arith }))
