-- What the loops over lines keep: so far the tape comes to what the whole row, or the frame's end, comes to. Assumes nothing.
use Rattle.std.proofs.Common.{◌≡◌, ℕ, zero, suc, Bool, true, false, eqb, List, [], sym, refl, ap, ◌∙◌, subst, true≢false, eq-eqb, eqb-true, Result, Ok, Err}
use Rattle.std.specs.Prelude.{is_ok}
use Rattle.refusal.proofs.Cases.{by_test}
use Rattle.line.specs.Samples.{Packets}
use Rattle.programme.specs.declared.tape.Tape.{Tape}
use Rattle.programme.specs.Record.{takes_row}
use Rattle.programme.specs.Tape.{turns_at, taped_of, bare_taped, ends_at, at_line, nothing_more, onto, end_of, most_turns}
use Rattle.station.specs.declared.entries.Entries.{Entries}
use Rattle.station.specs.declared.taping.Output.{Output}
use Rattle.station.specs.declared.taping.Taping.{Taping}
use Rattle.station.specs.declared.turning.Ended.{Ended}
use Rattle.console.specs.declared.Status.{Status}
use Rattle.station.specs.Entries.{next_line}
use Rattle.station.specs.Turns.{taped_turn, Onto, no_line_left, row_taken, row_passed, FrameEnd, no_line_more, frame_goes_on}

-- ---- a line without packets that goes on has taken its step
taping_or : Taping → Result Taping (Ended Taping Status) → Taping
taping_or other (Ok at) = at
taping_or other (Err e) = other

-- what such a turn leaves
pub record Bare (t : Tape) (e : Entries) (r : Taping) : Type 0 where
  pub tape : r.tape ≡ t
  pub number : t.number ≡ 0
  pub next : r.entries.next ≡ e.next

module _ (t : Tape) (output : Output) (e : Entries) (r : Taping) where
  step_of : (written : Bool) → Ok r ≡ taped_turn t output e written → (r ≡ record { tape = t; output = output; entries = e }) × (t.number ≡ 0)
  unfolding taping_or
  step_of true is =
      by_test (eqb t.number 0) (λ z. (ap (taping_or r) (simp z at is), eqb-true _ _ z)) (λ n. absurd (true≢false (ap is_ok (simp n at is))))
  step_of false is =
      by_test (eqb t.number 0) (λ z. absurd (true≢false (ap is_ok (simp z at is)))) (λ n. absurd (true≢false (ap is_ok (simp n at is))))

pub bare_line : (t : Tape) (output : Output) (e : Entries) (r : Taping) → ((written : Bool) × (Ok r ≡ taped_turn t output (next_line e) written))
    → Bare t e r
bare_line t output e r turn =
    let step = step_of t output (next_line e) r turn.0 turn.1 in
    record { tape = ap (λ (x : Taping). x.tape) step.0; number = step.1; next = ap (λ (x : Taping). x.entries.next) step.0 }

-- ---- the tape after a row, line by line
module _ (room : ℕ) (row : List ℕ) where
  pub onto_left : {n : ℕ} {t : Tape} → n ≡ 0 → Onto room row n t t
  onto_left {n} {t} z = subst (λ (k : ℕ). Onto room row k t t) (sym z) no_line_left

  module _ (t u : Tape) (at r : Taping) (size n k : ℕ) (left : n ≡ suc k) (there : at.tape ≡ at_line t) (same : size ≡ room)
      (line : (p : Packets) × (r.tape ≡ taped_of at.tape row p size)) where
    is : r.tape ≡ taped_of (at_line t) row line.0 room
    is = line.1 ∙ ap (λ (x : Tape). taped_of x row line.0 size) there ∙ ap (taped_of (at_line t) row line.0) same

    takes : (b : Bool) → takes_row at.tape.fall at.tape.walk ≡ b → takes_row (at_line t).fall (at_line t).walk ≡ b
    takes b e = ap (λ (x : Tape). takes_row x.fall x.walk) (sym there) ∙ e

    pub onto_taken : takes_row at.tape.fall at.tape.walk ≡ true → Onto room row n t r.tape
    onto_taken e = subst (λ (m : ℕ). Onto room row m t r.tape) (sym left) (row_taken line.0 (takes true e) is)

    pub onto_passed : takes_row at.tape.fall at.tape.walk ≡ false → Onto room row k r.tape u → Onto room row n t u
    onto_passed e rest = subst (λ (m : ℕ). Onto room row m t u) (sym left) (row_passed line.0 (takes false e) is rest)

-- the same without packets
module _ (room : ℕ) (row : List ℕ) (t : Tape) (n k : ℕ) (left : n ≡ suc k) (on : (bare_taped (at_line t) row room).number ≡ 0) where
  taken : takes_row (at_line t).fall (at_line t).walk ≡ true → (onto room n t row nothing_more).tape ≡ bare_taped (at_line t) row room
  unfolding onto
  taken takes = rw left (by_test (turns_at t) (λ a. simp (a, eq-eqb _ _ (simp a at on), simp a at takes)) (λ a. simp (a, eq-eqb _ _ (simp a at on), simp a at takes)))

  still_due : takes_row (at_line t).fall (at_line t).walk ≡ false → (onto room n t row nothing_more).tape ≡ (onto room k (bare_taped (at_line t) row room) row nothing_more).tape
  unfolding onto
  still_due takes = rw left (by_test (turns_at t) (λ a. simp (a, eq-eqb _ _ (simp a at on), simp a at takes)) (λ a. simp (a, eq-eqb _ _ (simp a at on), simp a at takes)))

module _ (room size : ℕ) (same : size ≡ room) (row : List ℕ) (first here : Tape) (at r : Taping) (n k : ℕ) (left : n ≡ suc k)
    (so_far : (onto room most_turns first row nothing_more).tape ≡ (onto room n here row nothing_more).tape) (there : at.tape ≡ at_line here)
    (bare : Bare (bare_taped at.tape row size) at.entries r) where
  step : bare_taped at.tape row size ≡ bare_taped (at_line here) row room
  step = ap (λ (t : Tape). bare_taped t row size) there ∙ ap (bare_taped (at_line here) row) same

  on : (bare_taped (at_line here) row room).number ≡ 0
  on = ap (λ (t : Tape). t.number) (sym step) ∙ bare.number

  due : (b : Bool) → takes_row at.tape.fall at.tape.walk ≡ b → takes_row (at_line here).fall (at_line here).walk ≡ b
  due b e = ap (λ (t : Tape). takes_row t.fall t.walk) (sym there) ∙ e

  pub row_done : takes_row at.tape.fall at.tape.walk ≡ true → r.tape ≡ (onto room most_turns first row nothing_more).tape
  row_done e = bare.tape ∙ step ∙ sym (so_far ∙ taken room row here n k left on (due true e))

  pub row_goes_on : takes_row at.tape.fall at.tape.walk ≡ false → (onto room most_turns first row nothing_more).tape ≡ (onto room k r.tape row nothing_more).tape
  row_goes_on e =
      so_far ∙ still_due room row here n k left on (due false e)
      ∙ ap (λ (t : Tape). (onto room k t row nothing_more).tape) (sym (bare.tape ∙ step))

-- and where no line is left
pub row_left : (room n : ℕ) (row : List ℕ) (t : Tape) → n ≡ 0 → (onto room n t row nothing_more).tape ≡ t
unfolding onto
row_left room n row t z = rw z refl

-- ---- the end of a frame, line by line
module _ (room : ℕ) where
  pub frame_left : {n : ℕ} {t : Tape} → n ≡ 0 → FrameEnd room n t t
  frame_left {n} {t} z = subst (λ (k : ℕ). FrameEnd room k t t) (sym z) no_line_more

  pub frame_line : (t v : Tape) (r : Taping) (size n k : ℕ) → n ≡ suc k → size ≡ room → ends_at t ≡ true
      → ((p : Packets) × (r.tape ≡ taped_of t [] p size)) → FrameEnd room k r.tape v → FrameEnd room n t v
  frame_line t v r size n k left same ends line rest =
      subst (λ (m : ℕ). FrameEnd room m t v) (sym left)
      (frame_goes_on line.0 ends (line.1 ∙ ap (taped_of t [] line.0) same) rest)

-- the same without packets
module _ (room : ℕ) (t : Tape) where
  pub end_over : (k : ℕ) → ends_at t ≡ false → (end_of room k t).tape ≡ t
  unfolding end_of
  end_over zero e = refl
  end_over (suc k) e = simp e

  pub end_left : (n : ℕ) → n ≡ 0 → (end_of room n t).tape ≡ t
  unfolding end_of
  end_left n z = rw z refl

  pub end_line : (r : Taping) (size n k : ℕ) → n ≡ suc k → size ≡ room → ends_at t ≡ true → r.tape ≡ bare_taped t [] size
      → (end_of room n t).tape ≡ (end_of room k r.tape).tape
  unfolding end_of
  end_line r size n k left same ends is =
      (rw left (simp ends)) ∙ ap (λ (x : Tape). (end_of room k x).tape) (sym (is ∙ ap (bare_taped t []) same))
