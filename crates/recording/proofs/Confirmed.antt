-- Demand 3 of the confirming program: what went in is confirmed, and nothing else ever is. A run over the bytes of lines goes as reading
-- their words does, so that the theorems on reading line by line carry over. Assumes nothing.
use Prim.Native.Nat.{ℕ, zero, suc, ◌+◌, ◌<◌, ◌≤◌}
use mathlib.Core.Path.{◌≡◌, refl, sym, ap, ◌∙◌}
use mathlib.Core.List.{List, [], ◌∷◌, ◌++◌, map, flatten, append-nil, append_assoc, map-append}
use mathlib.Core.List.Memᴰ
use mathlib.Core.List.{Memᴰ}
use mathlib.Core.Logic.{⊎_elim}
use native.Mathlib.Omega.{arith}
use lib.Dec.{eqb}
use lib.ListN.{length, take, drop, length-append, length-drop, take-append-drop}
use lib.Seq.{take_at, drop_at}
use borrow.Author.Tests.{eqb-true, eqb-false}
use Rattle.refusal.proofs.Cases.{by_test}
use Rattle.system.specs.declared.walk.Walk.{Walk}
use Rattle.system.specs.Figures.{line_length, system_of}
use Rattle.system.specs.Walk.{most_lines, walk_refusal, fresh_walk, fresh_of, line_bytes}
use Rattle.system.proofs.Laws.{Good, good_accepted, fresh_accepted, named_accepted, walk_many_lines}
use Rattle.system.proofs.Falls.{fresh_may}
use Rattle.system.proofs.Tally.{field_few}
use Rattle.line.specs.Samples.{Samples, Content}
use Rattle.line.specs.Fit.{Measured}
use Rattle.system.specs.declared.walk.Judgement.{Judgement}
use Rattle.words.specs.Bytes.{words_of}
use Rattle.bytewise.proofs.Judged.{judged_count, accepted_counted}
use Rattle.reader.specs.Take.{in_turn}
use Rattle.reader.proofs.Taken.{measured_turn}
use Rattle.refusal.proofs.Firsts.{same_number}
use Rattle.bytewise.proofs.Theorems.{bytes_as_words}
use Rattle.confirmation.specs.declared.Run.{Run}
use Rattle.confirmation.specs.Run.{header_length, header_system, header_start, begun_of, judged_next, body_of, confirmed_of}
use Rattle.confirmation.proofs.Nexts.{ended_with, next_line_bytes}
use Rattle.confirmation.proofs.Bodies.{line_has_bytes, body_ended, body_none, body_next, body_last, body_barred}
use Rattle.recording.specs.Recording.{Recording, Line, lines_of, line_after_all, Image, no_line, line_more, TwoInverted}
use Rattle.recording.specs.Promise.{walk_behind}
use Rattle.recording.specs.Play.{Played, stopped_by, play}
use Rattle.recording.specs.Confirmed.{Holds}
use Rattle.recording.proofs.OneLine.{accepted_judgement, buffers_measured}
use Rattle.recording.proofs.Theorems.{fresh, line_after_in, few, as_many, recording_image, blank, blank_measured, image_read, recording_reads_back, two_inverted_refused, read_through_is_image}

-- every line has so many bytes
abbrev Each : ℕ → List (List ℕ) → Type 0
Each n lines = (line : List ℕ) → Memᴰ line lines → length line ≡ n

-- ---- a run over lines goes as playing their words does
module _ (system start : ℕ) where
  -- a run that goes on at a walk
  abbrev going_on : Walk → Run
  going_on w = record { system = system; start = start; walk = w; number = 0; place = 0 }

  -- a run after what was played
  abbrev run_after : Played → Run
  run_after p = record { system = system; start = start; walk = p.walk; number = p.number; place = p.place }

  -- one line: its bytes are judged as the two in turn answer to its words
  module _ (w : Walk) (b : Samples) (m : Measured b) (line : List ℕ) (size : length line ≡ line_bytes w) where
    judged_as_read : judged_next (going_on w) line ≡ run_after (stopped_by (in_turn w (words_of line) b).judgement)
    unfolding judged_next
    judged_as_read =
        ap (λ (j : Judgement). run_after (stopped_by j))
        (bytes_as_words w line (line_length (system_of w.system)) size ∙ sym (measured_turn w (words_of line) b m))

    line_judged : (rest : List ℕ) → body_of (going_on w) (line ++ rest) ≡ body_of (run_after (stopped_by (in_turn w (words_of line) b).judgement)) rest
    line_judged rest =
        body_next (going_on w) (line ++ rest) refl (omega (arith, length-append line rest, line_has_bytes w))
        ∙ rw (take_at line rest (line_bytes w) size, drop_at line rest (line_bytes w) size) (ap (λ (r : Run). body_of r rest) judged_as_read)

    goes_on : (in_turn w (words_of line) b).judgement.number ≡ 0
        → run_after (stopped_by (in_turn w (words_of line) b).judgement) ≡ going_on (in_turn w (words_of line) b).judgement.walk
    goes_on z =
        let e = accepted_judgement w b (words_of line) z in
        ap (λ (j : Judgement). run_after (stopped_by j)) e ∙ sym (ap (λ (j : Judgement). going_on j.walk) e)

    same_bytes : line_bytes (in_turn w (words_of line) b).judgement.walk ≡ line_bytes w
    same_bytes = ap (λ (r : Run). line_bytes r.walk) (sym judged_as_read) ∙ next_line_bytes (going_on w) line

  -- and all lines, whatever follows
  run_plays : (lines : List (List ℕ)) (w : Walk) (b : Samples) → Measured b → Each (line_bytes w) lines → (rest : List ℕ)
      → body_of (going_on w) (flatten lines ++ rest) ≡ body_of (run_after (play w b (map words_of lines))) rest
  unfolding play flatten
  run_plays [] w b m each rest = refl
  run_plays (line ∷ lines) w b m each rest =
      let size = each line (Memᴰ.head refl) in
      let words = words_of line in
      let j = (in_turn w words b).judgement in
      rw append_assoc
      (line_judged w b m line size (flatten lines ++ rest)
      ∙ by_test (eqb j.number 0)
      (λ t.
      let z = eqb-true _ _ t in
      let measured = buffers_measured w b words z m in
      simp t
      (ap (λ (r : Run). body_of r (flatten lines ++ rest)) (goes_on w b m line size z)
      ∙ run_plays lines j.walk (in_turn w words b).buffers measured
      (λ one at. each one (Memᴰ.tail at) ∙ sym (same_bytes w b m line size)) rest))
      (λ f. simp f (body_ended _ _ (eqb-false _ _ f) ∙ sym (body_ended _ _ (eqb-false _ _ f)))))

-- ---- the whole run, behind a header that is accepted
begun : (bytes : List ℕ) {system start : ℕ} → header_system bytes ≡ system → header_start bytes ≡ start → (fresh_of system start).number ≡ 0
    → confirmed_of bytes ≡ body_of (going_on system start (fresh_walk system start)) (drop header_length bytes)
unfolding confirmed_of begun_of
begun bytes {system} {start} system_is start_is hf =
    let f = fresh system start hf in
    rw (system_is, start_is, fresh_accepted system start f.a_system f.a_line)

confirmed_plays : {bytes rest : List ℕ} {system start : ℕ} {lines : List (List ℕ)} → (fresh_of system start).number ≡ 0
    → Holds bytes system start lines rest
    → confirmed_of bytes ≡ body_of (run_after system start (play (fresh_of system start).walk blank (map words_of lines))) rest
confirmed_plays {bytes} {rest} {system} {start} {lines} hf holds =
    begun bytes holds.system_is holds.start_is hf
    ∙ rw (holds.behind, (fresh system start hf).walk)
    (run_plays system start lines (fresh_walk system start) blank blank_measured holds.whole rest)

-- ---- a run that ends well had whole lines, and no more than there is room for
went_on : (r : Run) (bytes : List ℕ) → (body_of r bytes).number ≡ 0 → r.number ≡ 0
went_on r bytes z =
    by_test (eqb r.number 0) (λ t. eqb-true _ _ t)
    (λ f. absurd (eqb-false _ _ f (ap (λ (s : Run). s.number) (sym (body_ended r bytes (eqb-false _ _ f))) ∙ z)))

-- bytes that are whole lines, for which a walk has room
record WholeLines (w : Walk) (bytes : List ℕ) : Type 0 where
  lines : List (List ℕ)
  all : bytes ≡ flatten lines
  each : Each (line_bytes w) lines
  room : w.lines ≤ most_lines → w.lines + length lines ≤ most_lines

no_lines : (w : Walk) → WholeLines w []
unfolding flatten
no_lines w = record { lines = []; all = refl; each = λ line at. absurd (Memᴰ.not-nil at); room = λ h. omega arith }

whole_lines : (k : ℕ) (r : Run) (bytes : List ℕ) → length bytes ≤ k → (body_of r bytes).number ≡ 0 → WholeLines r.walk bytes
unfolding flatten judged_next
whole_lines zero r [] l z = no_lines r.walk
whole_lines zero r (x ∷ bytes) l z = absurd (omega arith)
whole_lines (suc k) r [] l z = no_lines r.walk
whole_lines (suc k) r (x ∷ bytes) l z =
    let n = line_bytes r.walk in
    let line = take n (x ∷ bytes) in
    let rest = drop n (x ∷ bytes) in
    let on = body_next r (x ∷ bytes) (went_on r (x ∷ bytes) z) (omega arith) in
    let ends : (body_of (judged_next r line) rest).number ≡ 0 = ap (λ (s : Run). s.number) (sym on) ∙ z in
    let first = accepted_counted r.walk line (went_on (judged_next r line) rest ends) in
    let others = whole_lines k (judged_next r line) rest (omega (arith, length-drop n (x ∷ bytes), line_has_bytes r.walk)) ends in
    record {
      lines = line ∷ others.lines;
      all = sym (take-append-drop n (x ∷ bytes)) ∙ ap (λ (more : List ℕ). line ++ more) others.all;
      each = λ one at.
          ⊎_elim (λ e. ap length e ∙ first.size) (λ there. others.each one there ∙ next_line_bytes r line) (Memᴰ.cases_cons at);
      room = λ h. omega (arith, first.lines, others.room (omega (arith, first.lines, first.good.lines)));
    }

-- an image tells as many lines as it has
as_many_read : {system line fallen : ℕ} {altered : List ℕ} {ls : List Line} {reads : List (List ℕ)} → Image system line fallen ls reads altered
    → length ls ≡ length reads
as_many_read no_line = refl
as_many_read (line_more room may written dam he hs more) = ap suc (as_many_read more)

-- A, of the confirming program. An image of at most 10,000,000 lines is confirmed, and repairs are exactly the altered codes; so is a recording.
pub image_confirmed : {bytes : List ℕ} {system start : ℕ} {altered : List ℕ} {ls : List Line} {lines : List (List ℕ)}
    → (fresh_of system start).number ≡ 0 → Holds bytes system start lines []
    → Image system start 0 ls (map words_of lines) altered → length ls ≤ most_lines
    → confirmed_of bytes ≡ record { system = system; start = start; walk = walk_behind system start ls altered; number = 0; place = 0 }
image_confirmed {system = system} {start = start} hf holds image hn =
    confirmed_plays hf holds
    ∙ ap (λ (p : Played). body_of (run_after system start p) []) (image_read hf image hn blank blank_measured)
    ∙ body_none _

pub recording_confirmed : {bytes : List ℕ} {system fall start : ℕ} {altered : List ℕ} {cs : List Content} {lines : List (List ℕ)}
    → (fresh_of system start).number ≡ 0 → Holds bytes system start lines []
    → Recording system fall start cs (map words_of lines) altered → length cs ≤ most_lines
    → confirmed_of bytes
    ≡ record { system = system; start = start; walk = walk_behind system start (lines_of system fall start cs) altered; number = 0; place = 0 }
recording_confirmed {system = system} {fall = fall} {start = start} {cs = cs} hf holds rec hn =
    image_confirmed hf holds (recording_image rec (fresh_may (system_of system) start fall)) (omega (arith, as_many system fall start cs))

-- C, of the confirming program. Where a code has exactly two of the seven bits inverted and no earlier code more than one, the run ends
-- with 8 in that code's place, and the walk stands behind the lines before, whatever follows the bad line.
pub two_inverted_not_confirmed : {bytes rest : List ℕ} {system fall start place : ℕ} {altered : List ℕ} {cs : List Content} {c : Content}
    (lines : List (List ℕ)) (bad : List ℕ) → (fresh_of system start).number ≡ 0 → Holds bytes system start (lines ++ (bad ∷ [])) rest
    → Recording system fall start cs (map words_of lines) altered → length cs < most_lines
    → TwoInverted system fall (line_after_all system start (lines_of system fall start cs)) c (words_of bad) place
    → confirmed_of bytes
    ≡ record { system = system; start = start; walk = walk_behind system start (lines_of system fall start cs) altered; number = 8; place = place }
two_inverted_not_confirmed {rest = rest} {system = system} {start = start} lines bad hf holds rec hn two =
    confirmed_plays hf holds
    ∙ ap (λ (p : Played). body_of (run_after system start p) rest)
    (ap (play (fresh_of system start).walk blank) (map-append words_of lines (bad ∷ []))
    ∙ two_inverted_refused hf rec hn two [] blank blank_measured)
    ∙ body_ended _ rest (λ z. omega arith)

-- D, of the confirming program. Nothing else is ever confirmed: of any bytes that are, the header is accepted, all behind it are whole lines,
-- and these are an image of lines each written with a V that was due; the walk is the one behind them.
pub confirmed_is_image : (bytes : List ℕ) → (confirmed_of bytes).number ≡ 0
    → ((fresh_of (header_system bytes) (header_start bytes)).number ≡ 0)
    × (lines : List (List ℕ)) × Holds bytes (header_system bytes) (header_start bytes) lines []
    × (ls : List Line) × (altered : List ℕ) × Image (header_system bytes) (header_start bytes) 0 ls (map words_of lines) altered
    × (length ls ≤ most_lines) × ((confirmed_of bytes).walk ≡ walk_behind (header_system bytes) (header_start bytes) ls altered)
unfolding confirmed_of begun_of
confirmed_is_image bytes z =
    let system = header_system bytes in
    let start = header_start bytes in
    let body = drop header_length bytes in
    let hf : (fresh_of system start).number ≡ 0 = went_on (begun_of bytes) body z in
    let ends = ap (λ (r : Run). r.number) (sym (begun bytes refl refl hf)) ∙ z in
    let cut = whole_lines (length body) (going_on system start (fresh_walk system start)) body (omega arith) ends in
    let lines = cut.lines in
    let behind = cut.all ∙ sym (append-nil (flatten lines)) in
    let holds : Holds bytes system start lines [] = record { system_is = refl; start_is = refl; behind = behind; whole = cut.each } in
    let played = confirmed_plays hf holds ∙ body_none _ in
    let accepted = ap (λ (r : Run). r.number) (sym played) ∙ z in
    let read = read_through_is_image system start hf (map words_of lines) blank blank_measured accepted in
    let stands = ap (λ (r : Run). r.walk) played ∙ ap (λ (p : Played). p.walk) read.4 in
    (hf, lines, holds, read.0, read.1, read.2, read.3, stands)

-- ---- bytes behind a recording
module _ {bytes rest : List ℕ} {system fall start : ℕ} {altered : List ℕ} {cs : List Content} {lines : List (List ℕ)} (hf : (fresh_of system start).number ≡ 0)
    (holds : Holds bytes system start lines rest) (rec : Recording system fall start cs (map words_of lines) altered) where
  -- the walk behind it
  abbrev reached : Walk
  reached = walk_behind system start (lines_of system fall start cs) altered

  many : length (lines_of system fall start cs) ≡ length cs
  many = as_many system fall start cs

  -- the run goes on there with the bytes that are left
  left : length cs ≤ most_lines → confirmed_of bytes ≡ body_of (going_on system start reached) rest
  left hn =
      confirmed_plays hf holds
      ∙ ap (λ (p : Played). body_of (run_after system start p) rest) (recording_reads_back hf rec hn blank blank_measured)

  pub trailing_refused : length cs < most_lines → 0 < length rest → length rest < line_bytes reached
      → confirmed_of bytes ≡ record { system = system; start = start; walk = reached; number = 3; place = 0 }
  unfolding judged_next
  trailing_refused hn some short =
      let f = fresh system start hf in
      let good : Good reached = record { system = f.a_system; line = line_after_in system start (lines_of system fall start cs) f.a_line; lines = omega (arith, many); repairs = few (recording_image rec (fresh_may (system_of system) start fall)); tally = field_few (system_of system) start altered } in
      let stands : (walk_refusal reached).number ≡ 0 = same_number (good_accepted reached good) in
      left (omega arith)
      ∙ body_last (going_on system start reached) rest refl (omega arith) (omega arith)
      ∙ ap (λ (j : Judgement). run_after system start (stopped_by j)) (judged_count reached rest stands (λ e. omega arith))

  pub past_limit_refused : length cs ≡ most_lines → 0 < length rest
      → confirmed_of bytes ≡ record { system = system; start = start; walk = reached; number = 4; place = 0 }
  past_limit_refused hn some =
      let f = fresh system start hf in
      let four = walk_many_lines reached (same_number (named_accepted system reached.line f.a_system (line_after_in system start (lines_of system fall start cs) f.a_line))) (omega (arith, many)) in
      let barred : (walk_refusal reached).number ≡ 0 → ⊥ = λ z. omega (arith, same_number four) in
      left (omega arith)
      ∙ body_barred (going_on system start reached) rest refl (omega arith) barred
      ∙ ap (ended_with (going_on system start reached)) four
