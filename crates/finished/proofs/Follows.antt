-- Laws of finishing lines as their bytes arrive. A turn goes one of three ways, as confirming follows them. Assumes nothing.
use Rattle.std.proofs.Common.{◌≡◌, ℕ, zero, suc, ◌+◌, ◌*◌, ◌<◌, ◌≤◌, false, eqb, ltb, List, [], length, take, drop, sym, refl, ap, ◌∙◌, arith, length-drop, ltb-false, ltb-true, le-ltb, lt-ltb, eq-eqb, ne_eqb, eqb-true}
use borrow.Author.Tests.{eqb-false}
use Rattle.refusal.proofs.Cases.{by_test, by_cond}
use Rattle.timing.specs.Report.{repairs_of}
use Rattle.system.specs.declared.walk.Walk.{Walk}
use Rattle.system.specs.declared.walk.Judgement.{Judgement}
use Rattle.system.specs.Walk.{walk_refusal, line_bytes}
use Rattle.bytewise.proofs.Judged.{judged_walk, judged_count}
use Rattle.confirmation.specs.declared.Run.{Run}
use Rattle.confirmation.specs.declared.Followed.{Followed}
use Rattle.confirmation.specs.Run.{judged_next}
use Rattle.confirmation.specs.Follow.{waits, follow_from}
use Rattle.confirmation.proofs.Nexts.{next_line_bytes}
use Rattle.confirmation.proofs.Bodies.{line_has_bytes}
use Rattle.confirmation.proofs.Follows.{Ready, Rests, by_ready, follow_rests, follow_barred, follow_whole}
use Rattle.index.specs.declared.entry.Entry.{Entry}
use Rattle.index.specs.Entries.{entry_length, entry_bytes}
use Rattle.words.specs.Words.{tab_from}
use Rattle.words.specs.Bytes.{number_bytes}
use Rattle.finished.specs.declared.Finishing.{Finishing}
use Rattle.finished.specs.Finish.{line_repairs, line_adds, counted_in, finished_next, Turn, stopped, behind, finish_from}

-- ---- What a line adds.
pub adds_none : (w : Walk) (line : List ℕ) → line_repairs w line ≡ 0 → line_adds w line ≡ []
unfolding line_adds
adds_none w line e = simp (eq-eqb _ _ e)

pub adds_entry : (w : Walk) (line : List ℕ) → (line_repairs w line ≡ 0 → ⊥)
    → line_adds w line ≡ entry_bytes (record { ordinal = w.lines; repairs = line_repairs w line })
unfolding line_adds
adds_entry w line n = simp (ne_eqb _ _ n)

pub counts_none : (entries : ℕ) (w : Walk) (line : List ℕ) → line_repairs w line ≡ 0 → counted_in entries w line ≡ entries
unfolding counted_in
counts_none entries w line e = simp (eq-eqb _ _ e)

pub entry_long : (e : Entry) → length (entry_bytes e) ≡ entry_length
unfolding entry_bytes number_bytes tab_from
entry_long e = refl

-- at most an entry
pub adds_most : (w : Walk) (line : List ℕ) → length (line_adds w line) ≤ entry_length
unfolding line_adds
adds_most w line =
    by_cond (λ (l : List ℕ). length l ≤ entry_length) (eqb (line_repairs w line) 0) [] (entry_bytes (record { ordinal = w.lines; repairs = line_repairs w line }))
    (λ e. omega arith) (λ e. omega (arith, entry_long (record { ordinal = w.lines; repairs = line_repairs w line })))

-- a line that a walk refuses before it looks at its words has no repairs
pub barred_repairs : (w : Walk) (line : List ℕ) → ((walk_refusal w).number ≡ 0 → ⊥) → line_repairs w line ≡ 0
barred_repairs w line n = ap (λ (j : Judgement). repairs_of j.report) (judged_walk w line n)

pub short_repairs : (w : Walk) (line : List ℕ) → length line < line_bytes w → line_repairs w line ≡ 0
short_repairs w line l =
    by_test (eqb (walk_refusal w).number 0)
    (λ e. ap (λ (j : Judgement). repairs_of j.report) (judged_count w line (eqb-true _ _ e) (λ q. omega arith)))
    (λ e. barred_repairs w line (eqb-false _ _ e))

-- ---- A turn.
module _ (f : Finishing) (bytes : List ℕ) where
  abbrev r : Run
  r = f.run

  goes : Ready r bytes → waits r bytes ≡ false
  goes g = by_ready r bytes (λ h e. e) (λ n e. absurd (n g))

  -- what each way of it comes to
  pub finish_rests : (k at : ℕ) → Rests r bytes → finish_from k f bytes at ≡ stopped f at
  unfolding finish_from
  finish_rests zero at h = refl
  finish_rests (suc k) at h =
      by_ready r bytes (λ g e. simp (e, eq-eqb _ _ (h g).0, lt-ltb _ _ (h g).1)) (λ n e. simp e)

  pub finish_barred : (k at : ℕ) → Ready r bytes → ((walk_refusal r.walk).number ≡ 0 → ⊥)
      → finish_from (suc k) f bytes at ≡ stopped (record { run = judged_next r bytes; entries = f.entries }) at
  unfolding finish_from
  finish_barred k at g n = simp (goes g, ne_eqb _ _ n)

  pub finish_whole : (k at n : ℕ) → n ≡ line_bytes r.walk → Ready r bytes → (walk_refusal r.walk).number ≡ 0 → n ≤ length bytes
      → finish_from (suc k) f bytes at
      ≡ behind (line_adds r.walk (take n bytes)) (finish_from k (finished_next f (take n bytes)) (drop n bytes) (at + n))
  unfolding finish_from
  finish_whole k at n is g e l =
      let m : line_bytes r.walk ≤ length bytes = omega arith in
      rw is (simp (goes g, eq-eqb _ _ e, le-ltb _ _ m))

  -- it goes one of the three ways
  pub by_way : {A : Type 0} → (Rests r bytes → A) → (Ready r bytes → ((walk_refusal r.walk).number ≡ 0 → ⊥) → A)
      → (Ready r bytes → (walk_refusal r.walk).number ≡ 0 → line_bytes r.walk ≤ length bytes → A) → A
  by_way rests barred whole =
      by_ready r bytes
      (λ g w. by_test (eqb (walk_refusal r.walk).number 0)
      (λ a. by_test (ltb (length bytes) (line_bytes r.walk))
      (λ l. rests (λ g. (eqb-true _ _ a, ltb-true _ _ l)))
      (λ l. whole g (eqb-true _ _ a) (ltb-false _ _ l)))
      (λ a. barred g (eqb-false _ _ a)))
      (λ n w. rests (λ g. absurd (n g)))

-- ---- All turns.
-- what following tells of it
abbrev pub followed_by : Turn → Followed
followed_by t = record { run = t.finishing.run; taken = t.taken }

-- Lines are followed as confirming follows them, whatever is put.
pub finish_followed : (k : ℕ) (f : Finishing) (bytes : List ℕ) (at : ℕ)
    → followed_by (finish_from k f bytes at) ≡ follow_from k f.run bytes at
unfolding finish_from follow_from finished_next
finish_followed zero f bytes at = refl
finish_followed (suc k) f bytes at =
    let n = line_bytes f.run.walk in
    by_way f bytes
    (λ h. ap followed_by (finish_rests f bytes (suc k) at h) ∙ sym (follow_rests f.run bytes (suc k) at h))
    (λ g b. ap followed_by (finish_barred f bytes k at g b) ∙ sym (follow_barred f.run bytes k at g b))
    (λ g e l.
    ap followed_by (finish_whole f bytes k at n refl g e l) ∙ finish_followed k (finished_next f (take n bytes)) (drop n bytes) (at + n)
    ∙ sym (follow_whole f.run bytes k at n refl g e l))

pub finish_follows : (k : ℕ) (f : Finishing) (bytes : List ℕ) (at : ℕ)
    → ((finish_from k f bytes at).finishing.run ≡ (follow_from k f.run bytes at).run)
    × ((finish_from k f bytes at).taken ≡ (follow_from k f.run bytes at).taken)
finish_follows k f bytes at =
    let e = finish_followed k f bytes at in
    (ap (λ (d : Followed). d.run) e, ap (λ (d : Followed). d.taken) e)

pub finished_line_bytes : (f : Finishing) (line : List ℕ) → line_bytes (finished_next f line).run.walk ≡ line_bytes f.run.walk
unfolding finished_next
finished_line_bytes f line = next_line_bytes f.run line

-- more than enough turns are the same turns
turns_enough : (n j k : ℕ) (f : Finishing) (bytes : List ℕ) (at : ℕ) → n ≡ line_bytes f.run.walk → length bytes ≤ n * j
    → length bytes ≤ n * k → finish_from j f bytes at ≡ finish_from k f bytes at
turns_enough n zero k f bytes at is a b =
    let rests : Rests f.run bytes = λ g. absurd (omega (arith, g.some)) in
    finish_rests f bytes zero at rests ∙ sym (finish_rests f bytes k at rests)
turns_enough n (suc j) zero f bytes at is a b =
    let rests : Rests f.run bytes = λ g. absurd (omega (arith, g.some)) in
    finish_rests f bytes (suc j) at rests ∙ sym (finish_rests f bytes zero at rests)
turns_enough n (suc j) (suc k) f bytes at is a b =
    let less = length-drop n bytes in
    by_way f bytes
    (λ h. finish_rests f bytes (suc j) at h ∙ sym (finish_rests f bytes (suc k) at h))
    (λ g n. finish_barred f bytes j at g n ∙ sym (finish_barred f bytes k at g n))
    (λ g e l.
    let m : n ≤ length bytes = omega arith in
    finish_whole f bytes j at n is g e m
    ∙ ap (behind (line_adds f.run.walk (take n bytes)))
    (turns_enough n j k (finished_next f (take n bytes)) (drop n bytes) (at + n) (is ∙ sym (finished_line_bytes f (take n bytes))) (omega arith) (omega arith))
    ∙ sym (finish_whole f bytes k at n is g e m))

at_least : (n k : ℕ) → 1 ≤ n → k ≤ n * k
at_least n zero l = omega arith
at_least n (suc k) l = omega (arith, at_least n k l)

-- Where the room is enough for every line of the bytes, also for one that is not whole, more room makes no difference.
pub enough_room : (k : ℕ) (f : Finishing) (bytes : List ℕ) (at : ℕ) → length bytes ≤ line_bytes f.run.walk * k
    → finish_from k f bytes at ≡ finish_from (length bytes) f bytes at
enough_room k f bytes at l =
    turns_enough (line_bytes f.run.walk) k (length bytes) f bytes at refl l (at_least (line_bytes f.run.walk) (length bytes) (line_has_bytes f.run.walk))
