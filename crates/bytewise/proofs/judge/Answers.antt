-- `bytewise::judge` meets its contract: refused before its words are looked at, found well by the fast pass, or judged word by word. Assumes nothing.
use Rattle.std.proofs.Common.{◌≡◌, ℕ, List, length, sym, refl, ap, ◌∙◌, arith}
use Rattle.refusal.specs.declared.Refusal.{Refusal}
use Rattle.refusal.proofs.Firsts.{same_number}
use Rattle.refusal.proofs.Results.{reason_counts}
use Rattle.system.specs.declared.walk.Walk.{Walk}
use Rattle.system.specs.Figures.{system_of}
use Rattle.system.specs.Walk.{standing_refusal, line_bytes}
use Rattle.system.specs.Judgement.{refused_at}
use Rattle.system.proofs.Laws.{longest}
use Rattle.bytewise.specs.Bytes.{judged_bytes}
use Rattle.bytewise.proofs.Judged.{judged_standing, whole, fourth_bytes, line_bytes_are, judged_well}
use Rattle.bytewise.proofs.Theorems.{bytes_as_words}
use Rattle.bytewise.proofs.judge.Goals as goal

-- what the walk answered of so many bytes that are due
module _ (w : Walk) (bytes : List ℕ) {size : ℕ} (is : size ≡ line_bytes w) {r : Refusal} (told : r ≡ standing_refusal w (length bytes) size) where
  standing_is : r ≡ standing_refusal w (length bytes) (line_bytes w)
  standing_is = told ∙ ap (standing_refusal w (length bytes)) is

  refuses : (r.number ≡ 0 → ⊥) → judged_bytes w bytes ≡ refused_at w r
  refuses n = judged_standing w bytes (λ z. n (same_number standing_is ∙ z)) ∙ ap (refused_at w) (sym standing_is)

  stands : r.number ≡ 0 → (standing_refusal w (length bytes) (line_bytes w)).number ≡ 0
  stands z = sym (same_number standing_is) ∙ z

pub returns-in-Err : goal.returns-in-Err
returns-in-Err c =
    let a = c.args in
    c.refused.ensures ∙ ap (refused_at a.walk) c.from.ensures
    ∙ sym (refuses a.walk a.bytes.now c.line_bytes.ensures.bytes c.in-Err.ensures (reason_counts c.in-Err.refused.reason))

pub word_at-requires : goal.word_at-requires
word_at-requires c =
    let a = c.args in
    omega (arith, fourth_bytes a.walk a.bytes.now (stands a.walk a.bytes.now c.line_bytes.ensures.bytes c.in_default.ensures refl))

pub of-line-requires : goal.of-line-requires
of-line-requires c =
    let a = c.args in
    line_bytes_are a.walk a.bytes.now (stands a.walk a.bytes.now c.line_bytes.ensures.bytes c.in_default.ensures refl) _ _ c.word_at.ensures c.due.ensures

pub returns-in-Some : goal.returns-in-Some
returns-in-Some c =
    let a = c.args in
    let line = c.of-line.result in
    let is = c.of-line.ensures in
    c.accepted.ensures
    ∙ sym (judged_well a.walk a.bytes.now (stands a.walk a.bytes.now c.line_bytes.ensures.bytes c.in_default.ensures refl)
    _ _ c.word_at.ensures (is.due ∙ c.due.ensures) line.codes _ _ c.report.ensures (rw is.bytes at line.corrected) (rw is.bytes at c.in-Some.ensures))

pub judge_words-requires : goal.judge_words-requires
judge_words-requires c =
    let a = c.args in
    let size = whole a.walk a.bytes.now (stands a.walk a.bytes.now c.line_bytes.ensures.bytes c.in_default.ensures refl) in
    (omega (arith, size, c.line_words.ensures), omega (arith, c.line_words.ensures, longest (system_of a.walk.system)))

pub returns-in-None : goal.returns-in-None
returns-in-None c =
    let a = c.args in
    let size = whole a.walk a.bytes.now (stands a.walk a.bytes.now c.line_bytes.ensures.bytes c.in_default.ensures refl) in
    c.judge_words.ensures ∙ sym (bytes_as_words a.walk a.bytes.now _ size)
