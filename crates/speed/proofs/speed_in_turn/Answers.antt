-- `speed::speed_in_turn` meets its contract: where the judge refuses, its answer is that of both, and else taking's is. Assumes nothing.
use Prim.Native.Nat.{ℕ}
use mathlib.Core.Path.{◌≡◌, sym, ap, ◌∙◌}
use mathlib.Core.List.{List}
use lib.ListN.{length}
use Rattle.refusal.specs.declared.Refusal.{Refusal}
use Rattle.refusal.proofs.Firsts.{same_number}
use Rattle.system.specs.declared.walk.Walk.{Walk}
use Rattle.system.specs.declared.walk.Judgement.{Judgement}
use Rattle.system.specs.Walk.{fresh_walk, line_words}
use Rattle.line.specs.Samples.{Samples}
use Rattle.reader.specs.Judge.{judged_of}
use Rattle.reader.specs.Take.{take_refusal, Turn, in_turn}
use Rattle.reader.proofs.Judged.{number_judged}
use Rattle.reader.proofs.Taken.{refused_turn}
use Rattle.reader.proofs.Theorems.{turn_number}
use Rattle.speed.proofs.speed_in_turn.Goals as goal

module _ (w : Walk) (words : List ℕ) (b : Samples) where
  refused : (j : Judgement) → j ≡ judged_of w words → (j.number ≡ 0 → ⊥) → in_turn w words b ≡ record { judgement = j; buffers = b }
  refused j is n =
      refused_turn w words b (λ z. n (ap (λ (i : Judgement). i.number) is ∙ number_judged (length words) (line_words w) w words ∙ z))
      ∙ ap (λ (i : Judgement). record { judgement = i; buffers = b }) (sym is)

  taken : (r : Refusal) → r ≡ take_refusal w words b → r.number ≡ (in_turn w words b).judgement.number
  taken r is = same_number (is ∙ sym (turn_number w words b))

pub returns-then-judgement-ne0 : goal.returns-then-judgement-ne0
returns-then-judgement-ne0 c =
    let a = c.args in
    let b : Samples = record { y = a.y.now; cb = a.cb.now; cr = a.cr.now } in
    let whole = sym (refused (fresh_walk a.system a.line) a.words.now b _ (rw c.of-walk.ensures at c.judge-judgement.ensures) c.if-judgement-ne0.true) in
    record { answer = ap (λ (t : Turn). t.judgement.number) whole; ys = ap (λ (t : Turn). t.buffers.y) whole; cbs = ap (λ (t : Turn). t.buffers.cb) whole; crs = ap (λ (t : Turn). t.buffers.cr) whole }

pub returns : goal.returns
returns c =
    let a = c.args in
    let b : Samples = record { y = a.y.now; cb = a.cb.now; cr = a.cr.now } in
    let walk = c.of-walk.ensures in
    record { answer = taken (fresh_walk a.system a.line) a.words.now b _ (c.of.ensures ∙ (rw walk at c.take.ensures.answer)); ys = rw walk at c.take.ensures.ys; cbs = rw walk at c.take.ensures.cbs; crs = rw walk at c.take.ensures.crs }
