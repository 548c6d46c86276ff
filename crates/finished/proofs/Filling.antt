-- Where the loop over the bytes that lie ready stands: the entries that were put, with what it still has to do behind them, come to the
-- whole, and the room behind them is as it was. Each turn is one of the definition's, and keeps that. Assumes nothing.
use Rattle.std.proofs.Common.{◌≡◌, ℕ, suc, ◌+◌, ◌-◌, ◌*◌, ◌/◌, ◌<◌, ◌≤◌, List, ◌++◌, length, take, drop, sym, refl, ap, ◌∙◌, ap₂, append_assoc, append-nil, arith, length-append, length-drop, take-append-drop, length-take-le, drop-drop, take_at, drop_at}
use Rattle.refusal.specs.declared.Refusal.{Refusal}
use Rattle.refusal.proofs.Firsts.{same_number}
use Rattle.system.specs.Walk.{walk_refusal, line_bytes}
use Rattle.confirmation.specs.declared.Run.{Run}
use Rattle.confirmation.specs.Run.{judged_next}
use Rattle.confirmation.proofs.Nexts.{next_refused}
use Rattle.confirmation.proofs.Follows.{Ready}
use Rattle.index.specs.Entries.{entry_length}
use Rattle.finished.specs.declared.Finishing.{Finishing}
use Rattle.finished.specs.declared.Made.{Made}
use Rattle.finished.specs.Finish.{line_adds, finished_next, Turn, stopped, behind, finish_from, made_of, room_after}
use Rattle.finished.proofs.Follows.{adds_most, finish_rests, finish_barred, finish_whole, finished_line_bytes}

pub record Filling (bytes before : List ℕ) (size : ℕ) (first : Finishing) (room : List ℕ) (f : Finishing) (at put turns : ℕ) : Type 0 where
  pub within : at ≤ length bytes
  pub line : size ≡ line_bytes f.run.walk
  pub long : length room ≡ length before
  pub fits : put + entry_length * turns ≤ length room
  pub same : made_of (length before / entry_length) first bytes ≡ behind (take put room) (finish_from turns f (drop at bytes) at)
  pub rest : drop put room ≡ drop put before

pub filling_start : (bytes room : List ℕ) (size : ℕ) (first : Finishing) → size ≡ line_bytes first.run.walk
    → Filling bytes room size first room first 0 0 (length room / entry_length)
filling_start bytes room size first e =
    record { within = omega arith; line = e; long = refl; fits = omega arith; same = refl; rest = refl }

behind_twice : (a b : List ℕ) (t : Turn) → behind a (behind b t) ≡ behind (a ++ b) t
behind_twice a b t =
    ap (λ (index : List ℕ). record { finishing = t.finishing; taken = t.taken; index = index }) (sym (append_assoc a b t.index))

-- what a call answers
abbrev pub Answers : List ℕ → List ℕ → Finishing → List ℕ → Made → Type 0
Answers bytes before first room r =
    (r.finishing ≡ (made_of (length before / entry_length) first bytes).finishing)
    × ((r.taken ≡ (made_of (length before / entry_length) first bytes).taken)
    × ((r.put ≡ length (made_of (length before / entry_length) first bytes).index)
    × (room ≡ room_after (made_of (length before / entry_length) first bytes).index before)))

module _ {bytes before : List ℕ} {size : ℕ} {first : Finishing} {room : List ℕ} {f : Finishing} {at put turns : ℕ}
    (h : Filling bytes before size first room f at put turns) where
  -- the loop is over
  answers : {g : Finishing} {r : Made} → finish_from turns f (drop at bytes) at ≡ stopped g at
      → (r.finishing ≡ g) × ((r.taken ≡ at) × (r.put ≡ put)) → Answers bytes before first room r
  unfolding room_after
  answers {g} {r} stops told =
      let all : made_of (length before / entry_length) first bytes ≡ behind (take put room) (stopped g at) =
      h.same ∙ ap (behind (take put room)) stops in
      let index : (made_of (length before / entry_length) first bytes).index ≡ take put room = ap (λ (t : Turn). t.index) all ∙ append-nil (take put room) in
      let size : length (made_of (length before / entry_length) first bytes).index ≡ put =
      ap (λ (l : List ℕ). length l) index ∙ length-take-le put room (omega (arith, h.fits)) in (
        told.0 ∙ sym (ap (λ (t : Turn). t.finishing) all),
        (
          told.1.0 ∙ sym (ap (λ (t : Turn). t.taken) all),
          (
            told.1.1 ∙ sym size,
            sym (take-append-drop put room) ∙ ap₂ ◌++◌ (sym index) (h.rest ∙ ap (λ (k : ℕ). drop k before) (sym size)),
          ),
        ),
      )

  -- where no turn is left, or no byte, or the run has ended
  pub filling_full : {r : Made} → turns ≡ 0 → (r.finishing ≡ f) × ((r.taken ≡ at) × (r.put ≡ put)) → Answers bytes before first room r
  unfolding finish_from
  filling_full e told = answers (ap (λ (k : ℕ). finish_from k f (drop at bytes) at) e) told

  pub filling_over : {r : Made} → (f.run.number ≡ 0 → length bytes ≤ at) → (r.finishing ≡ f) × ((r.taken ≡ at) × (r.put ≡ put))
      → Answers bytes before first room r
  filling_over q told =
      answers (finish_rests f (drop at bytes) turns at (λ g. absurd (omega (arith, q g.goes_on, g.some, length-drop at bytes)))) told

  -- a turn of it, where this was told of the walk
  module _ (left : 0 < turns) (some : at < length bytes) (goes_on : f.run.number ≡ 0) {told : Refusal} (is : told ≡ walk_refusal f.run.walk) where
    ready : Ready f.run (drop at bytes)
    ready = record { goes_on = goes_on; some = omega (arith, length-drop at bytes) }

    accepts : told.number ≡ 0 → (walk_refusal f.run.walk).number ≡ 0
    accepts e = same_number (sym is) ∙ e

    spend : finish_from turns f (drop at bytes) at ≡ finish_from (suc (turns - 1)) f (drop at bytes) at
    spend = ap (λ (k : ℕ). finish_from k f (drop at bytes) at) (omega arith)

    pub filling_short : {r : Made} → told.number ≡ 0 → length bytes - at < size
        → (r.finishing ≡ f) × ((r.taken ≡ at) × (r.put ≡ put)) → Answers bytes before first room r
    filling_short e l made =
        answers (finish_rests f (drop at bytes) turns at (λ g. (accepts e, omega (arith, h.line, length-drop at bytes)))) made

    -- any bytes will do for a walk that refuses every line
    pub filling_barred : {r : Made} {next : Run} (part : List ℕ) → (told.number ≡ 0 → ⊥) → next ≡ judged_next f.run part
        → (r.finishing ≡ record { run = next; entries = f.entries }) × ((r.taken ≡ at) × (r.put ≡ put)) → Answers bytes before first room r
    filling_barred part n j made =
        let b : (walk_refusal f.run.walk).number ≡ 0 → ⊥ = λ e. n (same_number is ∙ e) in
        answers
        (spend ∙ finish_barred f (drop at bytes) (turns - 1) at ready b
        ∙ ap (λ (r : Run). stopped (record { run = r; entries = f.entries }) at) (next_refused f.run (drop at bytes) b ∙ sym (j ∙ next_refused f.run part b)))
        made

    pub filling_next : {g : Finishing} {room' : List ℕ} {put' : ℕ} → told.number ≡ 0 → size ≤ length bytes - at
        → g ≡ finished_next f (take (at + size - at) (drop at bytes))
        → put' ≡ put + length (line_adds f.run.walk (take (at + size - at) (drop at bytes)))
        → room' ≡ take put room ++ room_after (line_adds f.run.walk (take (at + size - at) (drop at bytes))) (drop put room)
        → Filling bytes before size first room' g (at + size) put' (turns - 1)
    unfolding room_after
    filling_next {g} {room'} {put'} e l state grows filled =
        let n = at + size - at in
        let exact : n ≡ size = omega arith in
        let end : at + n ≡ at + size = omega arith in
        let adds = line_adds f.run.walk (take n (drop at bytes)) in
        let front = take put room ++ adds in
        let back = drop (length adds) (drop put room) in
        let most : length adds ≤ entry_length = adds_most f.run.walk (take n (drop at bytes)) in
        let fits = h.fits in
        let parts : room' ≡ front ++ back = filled ∙ sym (append_assoc (take put room) adds back) in
        let first_part : length (take put room) ≡ put = length-take-le put room (omega arith) in
        let seam : length front ≡ put' = length-append (take put room) adds ∙ omega arith in
        let size' : length room' ≡ length front + length back = ap (λ (l : List ℕ). length l) parts ∙ length-append front back in
        let behind' : length back ≡ length room - put - length adds =
        length-drop (length adds) (drop put room) ∙ ap (λ (k : ℕ). k - length adds) (length-drop put room) in
        record {
          within = omega (arith, h.within);
          line = h.line ∙ sym (ap (λ (x : Finishing). line_bytes x.run.walk) state ∙ finished_line_bytes f _);
          long = omega (arith, h.long);
          fits = omega arith;
          same =
              h.same ∙ ap (behind (take put room)) (spend ∙ finish_whole f (drop at bytes) (turns - 1) at n (exact ∙ h.line) ready (accepts e) (omega (arith, length-drop at bytes)))
              ∙ behind_twice (take put room) adds (finish_from (turns - 1) (finished_next f (take n (drop at bytes))) (drop n (drop at bytes)) (at + n))
              ∙ ap₂ behind (sym (ap (λ (l : List ℕ). take put' l) parts ∙ take_at front back put' seam))
              (ap (λ (l : List ℕ). finish_from (turns - 1) (finished_next f (take n (drop at bytes))) l (at + n)) (drop-drop n at bytes)
              ∙ ap (λ (k : ℕ). finish_from (turns - 1) (finished_next f (take n (drop at bytes))) (drop k bytes) k) end
              ∙ ap (λ (x : Finishing). finish_from (turns - 1) x (drop (at + size) bytes) (at + size)) (sym state));
          rest =
              ap (λ (l : List ℕ). drop put' l) parts ∙ drop_at front back put' seam ∙ ap (drop (length adds)) h.rest
              ∙ drop-drop (length adds) put before ∙ ap (λ (k : ℕ). drop k before) (sym grows);
        }
