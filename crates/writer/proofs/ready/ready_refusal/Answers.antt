-- `writer::ready::ready_refusal` meets its contract: ready words are a space of just their length, whose offsets are moved to those of the line.
-- Assumes nothing.
use Prim.Native.Nat.{ℕ, ◌+◌, ◌<◌}
use mathlib.Core.Path.{◌≡◌, refl, sym, ap, ◌∙◌}
use mathlib.Core.List.{List}
use mathlib.Core.Logic.{inl, inr}
use native.Mathlib.Omega.{arith}
use lib.Dec.{leb}
use lib.ListN.{length}
use Rattle.refusal.specs.declared.Refusal.{Refusal}
use Rattle.refusal.specs.declared.Refused.{Refused}
use Rattle.refusal.specs.Reasons.{number_of, numbered}
use Rattle.refusal.specs.Table.{Keeps}
use Rattle.refusal.proofs.Cases.{by_cond}
use Rattle.refusal.proofs.Firsts.{same_number}
use Rattle.refusal.proofs.Results.{reason_counts}
use Rattle.packets.specs.Fault.{Space, word_at, space_to, space_of, no_word, ready_refusal}
use Rattle.packets.specs.Refusals.{ready_refusals}
use Rattle.packets.proofs.Ready.{ready_space, ready_none, ready_at, ready_number}
use Rattle.packets.proofs.Exact.{ready_exact}
use Rattle.writer.proofs.ready.ready_refusal.Goals as goal

-- the space that was judged ends where the words do
as_ready : (ready : List ℕ) (s : Space) → s ≡ space_of ready 0 (length ready) no_word no_word → s ≡ ready_space ready
as_ready ready s e =
    e ∙ ap (λ (stop : ℕ). space_to (word_at ready) 0 stop no_word no_word)
    (by_cond (λ n. n ≡ length ready) (leb (length ready) (length ready)) (length ready) (length ready) (λ t. refl) (λ t. refl))

-- a fault lies within the words, and refuses them at the line's offset
module _ (start : ℕ) (ready : List ℕ) (r : Refused)
    (e : record { number = number_of r.reason; place = r.place; packets = 0 } ≡ space_of ready 0 (length ready) no_word no_word)
  where
    judged : record { number = number_of r.reason; place = r.place; packets = 0 } ≡ ready_space ready
    judged = as_ready ready _ e

    at : r.place ≡ (ready_space ready).place
    at = ap (λ (s : Space). s.place) judged

    bad : (ready_space ready).number ≡ 0 → ⊥
    bad z = reason_counts r.reason (ap (λ (s : Space). s.number) judged ∙ z)

    within : start + r.place < start + length ready
    within = told (ready_exact start ready)
      where
        told : Keeps (ready_refusals start ready) (ready_refusal start ready) → start + r.place < start + length ready
        told (inl (asked, refuses)) = omega (arith, asked.within, ap (λ (n : Refusal). n.place) (ready_at start ready bad), at)
        told (inr (silent, accepted)) = absurd (bad (sym (ready_number start ready) ∙ same_number accepted))

    moved : record { number = number_of r.reason; place = start + r.place } ≡ ready_refusal start ready
    moved = ap (λ (s : Space). record { number = s.number; place = start + s.place }) judged ∙ sym (ready_at start ready bad)

pub returns-in-Ok : goal.returns-in-Ok
returns-in-Ok c =
    let a = c.args in
    sym (ready_none a.start a.ready.now (sym (ap (λ (s : Space). s.number) (as_ready a.ready.now _ c.in-Ok.ensures))))

pub overflow_add-start : goal.overflow_add-start
overflow_add-start c = omega (arith, within c.args.start c.args.ready.now c.in-Err.refused c.in-Err.ensures, c.requires)

pub returns-in-Err : goal.returns-in-Err
returns-in-Err c = ap numbered c.at.ensures ∙ moved c.args.start c.args.ready.now c.in-Err.refused c.in-Err.ensures
