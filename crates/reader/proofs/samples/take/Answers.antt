-- `reader::samples::take` meets its contract: nothing is stored before the line is judged and the buffers measured. Assumes nothing.
use Rattle.std.proofs.Common.{rules, ℕ, ◌+◌, ◌<◌, ◌≤◌, ◌≡◌, sym, ap, ◌∙◌, Bool, true, false, List, length, get_or, Result}
use Rattle.std.specs.Prelude.{IsErr}
use native.Mathlib.Omega.{arith}
use Rattle.refusal.specs.declared.Refused.{Refused}
use Rattle.refusal.specs.Answer.{none}
use Rattle.refusal.specs.Reasons.{answered}
use Rattle.refusal.proofs.Cases.{not_true, not_false}
use Rattle.refusal.proofs.Firsts.{same_number}
use Rattle.refusal.proofs.Results.{err_refuses, err_first, ok_first}
use Rattle.system.specs.declared.due.Due.{Due}
use Rattle.system.specs.declared.walk.Walk.{Walk}
use Rattle.system.specs.Figures.{active_offset, system_of}
use Rattle.system.specs.Walk.{due_in}
use Rattle.system.proofs.Laws.{due_system}
use Rattle.line.specs.Lengths.{buffer_refusal}
use Rattle.line.specs.Samples.{Samples, active_length, samples_from, samples_of}
use Rattle.line.specs.Fit.{Measured}
use Rattle.reader.specs.Judge.{judge_refusal}
use Rattle.reader.specs.Take.{take_refusal, taken_of}
use Rattle.reader.proofs.Judged.{active_fits}
use Rattle.reader.proofs.Taken.{into_refused, into_blank, into_picture, take_well, take_measured}
use Rattle.reader.proofs.samples.take.Goals as goal

-- what refuses taking leaves the buffers
kept : (w : Walk) (words : List ℕ) (b : Samples) (r : Result Unit Refused) → IsErr r → answered r ≡ take_refusal w words b → b ≡ taken_of w words b
kept w words b r i e = sym (into_refused (take_refusal w words b) (due_in w words) words b (λ z. err_refuses r i (same_number e ∙ z)))

-- and where nothing does
module _ (w : Walk) (words : List ℕ) (b : Samples) (judged : none ≡ judge_refusal w words)
    (fit : none ≡ buffer_refusal (length b.y) (length b.cb) (length b.cr)) where
  accepted : none ≡ take_refusal w words b
  accepted = fit ∙ sym (ok_first _ _ judged)

  none_refuses : (take_refusal w words b).number ≡ 0
  none_refuses = sym (same_number accepted)

  measured : Measured b
  measured = take_measured w words b none_refuses

  part_fits : active_offset (system_of w.system) + active_length ≤ length words
  part_fits = active_fits w words (take_well w words b none_refuses)

  long : 3 < length words
  long = omega (arith, part_fits)

  -- what is due in it, and where its active part starts
  module _ (d : Due) (is_due : d ≡ due_in w words) where
    v_due : (t : Bool) → d.v ≡ t → (due_in w words).v ≡ t
    v_due t e = ap (λ (x : Due). x.v) (sym is_due) ∙ e

    blank : d.v ≡ true → b ≡ taken_of w words b
    blank v = sym (into_blank (take_refusal w words b) (due_in w words) words b (v_due true v))

    module _ (start : ℕ) (start_is : start ≡ active_offset d.system) where
      fits : start + active_length ≤ length words
      fits =
          let system = ap (λ (x : Due). x.system) is_due ∙ due_system w (get_or words 3 0) in
          rw (start_is ∙ ap active_offset system) part_fits

      picture : d.v ≡ false → samples_from start words ≡ taken_of w words b
      unfolding samples_of
      picture v =
          ap (λ (k : ℕ). samples_from k words) start_is ∙ ap (λ (x : Due). samples_of x words) is_due
          ∙ sym (into_picture (take_refusal w words b) (due_in w words) words b none_refuses (v_due false v))

pub returns-in_err-accepted : goal.returns-in_err-accepted
returns-in_err-accepted c =
    let a = c.args in
    let b : Samples = record { y = a.y.now; cb = a.cb.now; cr = a.cr.now } in
    let e : answered c.from_residual.result ≡ judge_refusal a.walk a.words.now = search rules in
    let first = err_first c.from_residual.result _ _ c.from_residual.ensures.0 e in
    let same = kept a.walk a.words.now b _ c.from_residual.ensures.0 first in
    record { answer = first; ys = ap (λ (s : Samples). s.y) same; cbs = ap (λ (s : Samples). s.cb) same; crs = ap (λ (s : Samples). s.cr) same }

pub returns-in_err-buffer_refusal : goal.returns-in_err-buffer_refusal
returns-in_err-buffer_refusal c =
    let a = c.args in
    let b : Samples = record { y = a.y.now; cb = a.cb.now; cr = a.cr.now } in
    let r = c.from_residual-in_err-buffer_refusal.result in
    let e : answered r ≡ buffer_refusal (length a.y.now) (length a.cb.now) (length a.cr.now) = search rules in
    let second = e ∙ sym (ok_first _ _ c.in_ok-accepted.ensures.answer) in
    let same = kept a.walk a.words.now b r c.from_residual-in_err-buffer_refusal.ensures.0 second in
    record { answer = second; ys = ap (λ (s : Samples). s.y) same; cbs = ap (λ (s : Samples). s.cb) same; crs = ap (λ (s : Samples). s.cr) same }

pub bounds-words-3 : goal.bounds-words-3
bounds-words-3 c =
    let a = c.args in
    long a.walk a.words.now (record { y = a.y.now; cb = a.cb.now; cr = a.cr.now }) c.in_ok-accepted.ensures.answer c.in_ok-buffer_refusal.ensures

pub copy_samples-requires : goal.copy_samples-requires
copy_samples-requires c =
    let a = c.args in
    let b : Samples = record { y = a.y.now; cb = a.cb.now; cr = a.cr.now } in
    let m = measured a.walk a.words.now b c.in_ok-accepted.ensures.answer c.in_ok-buffer_refusal.ensures in
    (fits a.walk a.words.now b c.in_ok-accepted.ensures.answer c.in_ok-buffer_refusal.ensures _ c.due-due.ensures _ c.active_offset.ensures, m.y, m.cb, m.cr)

pub returns-then-not-due : goal.returns-then-not-due
returns-then-not-due c =
    let a = c.args in
    let b : Samples = record { y = a.y.now; cb = a.cb.now; cr = a.cr.now } in
    let judged = c.in_ok-accepted.ensures.answer in
    let fit = c.in_ok-buffer_refusal.ensures in
    let got = c.copy_samples.ensures in
    let holds = picture a.walk a.words.now b judged fit _ c.due-due.ensures _ c.active_offset.ensures (not_true c.due-due.result.v c.if-not-due.true) in
    record {
      answer = accepted a.walk a.words.now b judged fit;
      ys = got.ys ∙ ap (λ (s : Samples). s.y) holds;
      cbs = got.cbs ∙ ap (λ (s : Samples). s.cb) holds;
      crs = got.crs ∙ ap (λ (s : Samples). s.cr) holds;
    }

pub returns-else-not-due : goal.returns-else-not-due
returns-else-not-due c =
    let a = c.args in
    let b : Samples = record { y = a.y.now; cb = a.cb.now; cr = a.cr.now } in
    let judged = c.in_ok-accepted.ensures.answer in
    let fit = c.in_ok-buffer_refusal.ensures in
    let same = blank a.walk a.words.now b judged fit _ c.due-due.ensures (not_false c.due-due.result.v c.if-not-due.false) in
    record {
      answer = accepted a.walk a.words.now b judged fit;
      ys = ap (λ (s : Samples). s.y) same;
      cbs = ap (λ (s : Samples). s.cb) same;
      crs = ap (λ (s : Samples). s.cr) same;
    }
