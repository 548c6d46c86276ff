-- Laws of what is made of lines, cut whole: the state stops at its refusal, and it goes line after line, however many bytes follow.
-- Assumes nothing.
use Rattle.std.proofs.Common.{◌≡◌, ℕ, zero, suc, ◌+◌, ◌≤◌, List, [], ◌∷◌, ◌++◌, length, take, drop, sym, refl, ap, ◌∙◌, ap₂, append_assoc, append-nil, arith, length-append, length-drop, drop_of_length-le, take_all, drop-drop, eq-eqb, ne_eqb}
use lib.Seq.{take-append-le, drop-append-le}
use Rattle.intake.specs.Arrival.{pieces}
use Rattle.intake.proofs.Pieces.{pieces_enough}
use Rattle.system.specs.Walk.{walk_refusal, line_bytes}
use Rattle.confirmation.specs.declared.Run.{Run}
use Rattle.confirmation.specs.Run.{judged_next}
use Rattle.confirmation.specs.Follow.{closed_of}
use Rattle.confirmation.proofs.Nexts.{next_refused}
use Rattle.confirmation.proofs.Bodies.{line_has_bytes}
use Rattle.confirmation.proofs.Follows.{Ready, Short, by_ready}
use Rattle.finished.specs.declared.Finishing.{Finishing}
use Rattle.finished.specs.Finish.{line_repairs, line_adds, finished_next, Turn, finish_from, finishing_closed, Making, with_line, make_through, make_body}
use Rattle.finished.proofs.Follows.{adds_none, counts_none, barred_repairs, short_repairs, finish_rests, finish_barred, finish_whole, by_way, finished_line_bytes}

-- the run of what was made
abbrev pub run_in : Making → Run
run_in m = m.finishing.run

-- as it is with another run
abbrev with_run : Making → Run → Making
with_run m r = record { finishing = record { run = r; entries = m.finishing.entries }; index = m.index }

-- ---- Line after line.
through_ended : (m : Making) (lines : List (List ℕ)) → ((run_in m).number ≡ 0 → ⊥) → make_through m lines ≡ m
unfolding make_through
through_ended m [] n = refl
through_ended m (line ∷ rest) n = simp (ne_eqb _ _ n)

module _ (m : Making) (bytes : List ℕ) where
  pub make_ended : ((run_in m).number ≡ 0 → ⊥) → make_body m bytes ≡ m
  unfolding make_body
  make_ended n = through_ended m _ n

  -- a line that has no repairs adds nothing
  pub line_clean : line_repairs (run_in m).walk bytes ≡ 0 → with_line m bytes ≡ with_run m (judged_next (run_in m) bytes)
  unfolding finished_next
  line_clean e =
      ap₂ (λ (k : ℕ) (index : List ℕ). record { finishing = record { run = judged_next (run_in m) bytes; entries = k }; index = index })
      (counts_none m.finishing.entries (run_in m).walk bytes e)
      (ap (λ (adds : List ℕ). m.index ++ adds) (adds_none (run_in m).walk bytes e) ∙ append-nil m.index)

pub make_none : (m : Making) → make_body m [] ≡ m
unfolding make_body make_through pieces
make_none m = refl

pub make_next : (m : Making) (bytes : List ℕ) → (run_in m).number ≡ 0 → 1 ≤ length bytes
    → make_body m bytes ≡ make_body (with_line m (take (line_bytes (run_in m).walk) bytes)) (drop (line_bytes (run_in m).walk) bytes)
unfolding make_body make_through pieces
make_next m [] e l = absurd (omega arith)
make_next m (b ∷ bytes) e l =
    let n = line_bytes (run_in m).walk in
    let some = line_has_bytes (run_in m).walk in
    let rest = drop n (b ∷ bytes) in
    let less = length-drop n (b ∷ bytes) in
    simp (eq-eqb _ _ e)
    (ap (make_through (with_line m (take n (b ∷ bytes))))
    (pieces_enough n (length bytes) (length rest) rest some (omega arith) (omega arith)
    ∙ ap (λ (k : ℕ). pieces (length rest) k rest) (sym (finished_line_bytes m.finishing (take n (b ∷ bytes))))))

module _ (m : Making) (bytes : List ℕ) (goes_on : (run_in m).number ≡ 0) (some : 1 ≤ length bytes) where
  -- a walk that refuses every line ends it at the first byte, whatever follows
  pub make_barred : (part : List ℕ) → ((walk_refusal (run_in m).walk).number ≡ 0 → ⊥) → make_body m bytes ≡ with_run m (judged_next (run_in m) part)
  make_barred part n =
      let line = take (line_bytes (run_in m).walk) bytes in
      let rest = drop (line_bytes (run_in m).walk) bytes in
      make_next m bytes goes_on some
      ∙ ap (λ (x : Making). make_body x rest)
      (line_clean m line (barred_repairs (run_in m).walk line n)
      ∙ ap (with_run m) (next_refused (run_in m) line n ∙ sym (next_refused (run_in m) part n)))
      ∙ make_ended (with_run m (judged_next (run_in m) part)) rest (λ z. n (sym (ap (λ (r : Run). r.number) (next_refused (run_in m) part n)) ∙ z))

  -- the last line, which may be short
  pub make_last : length bytes ≤ line_bytes (run_in m).walk → make_body m bytes ≡ with_line m bytes
  make_last h =
      make_next m bytes goes_on some
      ∙ ap (λ (rest : List ℕ). make_body (with_line m (take (line_bytes (run_in m).walk) bytes)) rest) (drop_of_length-le bytes h)
      ∙ make_none _ ∙ ap (with_line m) (take_all (line_bytes (run_in m).walk) bytes h)

-- ---- As bytes arrive.
-- what one call made, behind what was made before
abbrev pub made_by : Making → Turn → Making
made_by m t = record { finishing = t.finishing; index = m.index ++ t.index }

abbrev continued : Making → List ℕ → List ℕ → Turn → Making
continued m all more t = make_body (made_by m t) (drop t.taken all ++ more)

-- where nothing was put, only the index has to be looked at
idle : (m : Making) (f : Finishing) (rest : List ℕ)
    → make_body (record { finishing = f; index = m.index }) rest ≡ make_body (record { finishing = f; index = m.index ++ [] }) rest
idle m f rest = ap (λ (index : List ℕ). make_body (record { finishing = f; index = index }) rest) (sym (append-nil m.index))

-- what was not taken of the bytes, and more, comes to the whole of them
pub make_continued : (k : ℕ) (m : Making) (bytes : List ℕ) (at : ℕ) (all more : List ℕ) → drop at all ≡ bytes
    → make_body m (bytes ++ more) ≡ continued m all more (finish_from k m.finishing bytes at)
unfolding finish_from
make_continued zero m bytes at all more e =
    ap (λ (held : List ℕ). make_body m (held ++ more)) (sym e) ∙ idle m m.finishing (drop at all ++ more)
make_continued (suc k) m bytes at all more e =
    let n = line_bytes (run_in m).walk in
    let f = m.finishing in
    by_way f bytes
    (λ h.
    ap (λ (held : List ℕ). make_body m (held ++ more)) (sym e) ∙ idle m f (drop at all ++ more)
    ∙ sym (ap (continued m all more) (finish_rests f bytes (suc k) at h)))
    (λ g b.
    let ended : Making = with_run m (judged_next (run_in m) bytes) in
    make_barred m (bytes ++ more) g.goes_on (longer g.some) bytes b
    ∙ sym (make_ended ended (drop at all ++ more) (λ z. b (sym (ap (λ (r : Run). r.number) (next_refused (run_in m) bytes b)) ∙ z)))
    ∙ idle m ended.finishing (drop at all ++ more) ∙ sym (ap (continued m all more) (finish_barred f bytes k at g b)))
    (λ g a l.
    let line = take n bytes in
    let rest = finish_from k (finished_next f line) (drop n bytes) (at + n) in
    make_next m (bytes ++ more) g.goes_on (longer g.some)
    ∙ ap₂ (λ (x y : List ℕ). make_body (with_line m x) y) (take-append-le n bytes more l) (drop-append-le n bytes more l)
    ∙ make_continued k (with_line m line) (drop n bytes) (at + n) all more (sym (drop-drop n at all) ∙ ap (drop n) e)
    ∙ ap (λ (index : List ℕ). make_body (record { finishing = rest.finishing; index = index }) (drop rest.taken all ++ more))
    (append_assoc m.index (line_adds (run_in m).walk line) rest.index)
    ∙ sym (ap (continued m all more) (finish_whole f bytes k at n refl g a l)))
  where
    longer : 1 ≤ length bytes → 1 ≤ length (bytes ++ more)
    longer l = omega (arith, length-append bytes more)

-- at the end of the input, bytes short of a line are all that is left to judge
pub close_made : (m : Making) (bytes : List ℕ) → Short (run_in m) bytes
    → record { finishing = finishing_closed m.finishing bytes; index = m.index } ≡ make_body m bytes
unfolding finishing_closed closed_of
close_made m bytes h =
    by_ready (run_in m) bytes
    (λ g e.
    let l = h g.goes_on in
    simp e (sym (make_last m bytes g.goes_on g.some (omega arith) ∙ line_clean m bytes (short_repairs (run_in m).walk bytes l))))
    (λ n e. simp e (sym (stays bytes n)))
  where
    stays : (bytes : List ℕ) → (Ready (run_in m) bytes → ⊥) → make_body m bytes ≡ m
    stays [] n = make_none m
    stays (b ∷ bytes) n = make_ended m (b ∷ bytes) (λ o. n (record { goes_on = o; some = omega arith }))
