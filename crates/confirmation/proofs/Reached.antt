-- Where a loop over the bytes that lie ready stands: what it still has to do comes to the whole. Each turn of the loop is one of the
-- definition's, and keeps that. Assumes nothing.
use Rattle.std.proofs.Common.{◌≡◌, ℕ, zero, suc, ◌+◌, ◌-◌, ◌<◌, ◌≤◌, false, true≢false, List, length, take, drop, sym, refl, ap, ◌∙◌, arith, length-drop, drop-drop}
use Rattle.std.specs.Prelude.{Result, Ok, Err}
use Rattle.std.specs.Result.{is_err}
use Rattle.refusal.specs.declared.Refusal.{Refusal}
use Rattle.refusal.specs.declared.Refused.{Refused}
use Rattle.refusal.specs.Reasons.{answered}
use Rattle.refusal.proofs.Firsts.{same_number}
use Rattle.system.specs.Walk.{walk_refusal, line_bytes}
use Rattle.confirmation.specs.declared.Run.{Run}
use Rattle.confirmation.specs.Run.{judged_next}
use Rattle.confirmation.specs.Follow.{follow_from, followed_of}
use Rattle.confirmation.proofs.Nexts.{next_refused, next_line_bytes}
use Rattle.confirmation.proofs.Bodies.{line_has_bytes}
use Rattle.confirmation.proofs.Follows.{Ready, follow_rests, follow_barred, follow_whole}

-- a result that does not refuse
pub ok_accepts : {A : Type 0} (r : Result A Refused) → is_err r ≡ false → (answered r).number ≡ 0
ok_accepts (Ok x) e = refl
ok_accepts (Err refused) e = absurd (true≢false e)

-- the loop stands at this offset with this run: the same is left to do, and the turns suffice for it
pub record Reached (bytes : List ℕ) (size : ℕ) (first run : Run) (at : ℕ) : Type 0 where
  pub within : at ≤ length bytes
  pub line : size ≡ line_bytes run.walk
  pub turns : ℕ
  pub enough : length bytes ≤ at + turns
  pub same : followed_of first bytes ≡ follow_from turns run (drop at bytes) at

pub reached_start : (bytes : List ℕ) (size : ℕ) (first : Run) → size ≡ line_bytes first.walk → Reached bytes size first first 0
unfolding followed_of
reached_start bytes size first e =
    record { within = omega arith; line = e; turns = length bytes; enough = omega arith; same = refl }

module _ {bytes : List ℕ} {size : ℕ} {first run : Run} {at : ℕ} (h : Reached bytes size first run at) where
  -- the loop is over: no byte is left where the run goes on
  pub reached_end : (run.number ≡ 0 → length bytes ≤ at) → followed_of first bytes ≡ record { run = run; taken = at }
  reached_end q =
      h.same
      ∙ follow_rests run (drop at bytes) h.turns at
      (λ g. absurd (omega (arith, q g.goes_on, g.some, length-drop at bytes)))

  -- a turn of the loop, where this was told of the walk: the same three ways
  module _ (goes_on : run.number ≡ 0) (some : at < length bytes) {told : Refusal} (is : told ≡ walk_refusal run.walk) where
    ready : Ready run (drop at bytes)
    ready = record { goes_on = goes_on; some = omega (arith, length-drop at bytes) }

    accepts : told.number ≡ 0 → (walk_refusal run.walk).number ≡ 0
    accepts e = same_number (sym is) ∙ e

    -- there is a turn left for it
    spend : {A : Type 0}
        → ((k : ℕ) → length bytes ≤ at + suc k → followed_of first bytes ≡ follow_from (suc k) run (drop at bytes) at → A) → A
    spend {A} then = go h.turns h.enough h.same
      where
        go : (k : ℕ) → length bytes ≤ at + k → followed_of first bytes ≡ follow_from k run (drop at bytes) at → A
        go zero l e = absurd (omega arith)
        go (suc k) l e = then k l e

    pub reached_short : told.number ≡ 0 → length bytes - at < size → followed_of first bytes ≡ record { run = run; taken = at }
    reached_short e l =
        h.same
        ∙ follow_rests run (drop at bytes) h.turns at (λ g. (accepts e, omega (arith, h.line, length-drop at bytes)))

    -- any bytes will do for a walk that refuses every line
    pub reached_barred : {next : Run} (part : List ℕ) → (told.number ≡ 0 → ⊥) → next ≡ judged_next run part
        → followed_of first bytes ≡ record { run = next; taken = at }
    reached_barred part n j =
        let b : (walk_refusal run.walk).number ≡ 0 → ⊥ = λ e. n (same_number is ∙ e) in
        spend
        (λ k l e.
        e ∙ follow_barred run (drop at bytes) k at ready b
        ∙ ap (λ (r : Run). record { run = r; taken = at }) (next_refused run (drop at bytes) b ∙ sym (j ∙ next_refused run part b)))

    pub reached_next : {next : Run} → told.number ≡ 0 → size ≤ length bytes - at
        → next ≡ judged_next run (take (at + size - at) (drop at bytes)) → Reached bytes size first next (at + size)
    reached_next {next} a l j =
        let exact : at + size - at ≡ size = omega arith in
        let m = line_has_bytes run.walk in
        spend
        (λ k n e.
        record {
          within = omega (arith, h.within);
          line = h.line ∙ sym (ap (λ (r : Run). line_bytes r.walk) j ∙ next_line_bytes run _);
          turns = k;
          enough = omega (arith, h.line);
          same =
              e ∙ follow_whole run (drop at bytes) k at size h.line ready (accepts a) (omega (arith, length-drop at bytes))
              ∙ ap (λ (rest : List ℕ). follow_from k (judged_next run (take size (drop at bytes))) rest (at + size)) (drop-drop size at bytes)
              ∙ ap (λ (r : Run). follow_from k r (drop (at + size) bytes) (at + size))
              (sym (j ∙ ap (λ (i : ℕ). judged_next run (take i (drop at bytes))) exact));
        })
