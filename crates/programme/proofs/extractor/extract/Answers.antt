-- `programme::extractor::extract` meets its contract: judged, then the row is measured, and packed where the line gives one. Assumes nothing.
use Prim.Native.Nat.{ℕ}
use mathlib.Core.Path.{◌≡◌, sym, ap, ◌∙◌}
use mathlib.Core.List.{List}
use native.Mathlib.Omega.{arith}
use lib.ListN.{length}
use Rattle.refusal.specs.Reasons.{numbered}
use Rattle.words.specs.Bytes.{words_of}
use Rattle.system.specs.declared.walk.Walk.{Walk}
use Rattle.system.specs.declared.walk.Judgement.{Judgement}
use Rattle.system.specs.Figures.{system_of}
use Rattle.system.specs.Walk.{line_bytes}
use Rattle.system.specs.Judgement.{refused_at}
use Rattle.system.proofs.Laws.{line_is_parts}
use Rattle.reader.proofs.Judged.{accepted, answered}
use Rattle.bytewise.specs.Bytes.{bytes_refusal, judged_bytes}
use Rattle.programme.proofs.Extracts.{room_result, judge_refused_result, blank_result, given_result, sliced_row, sliced_small}
use Rattle.programme.proofs.extractor.extract.Goals as goal

-- a line that judges well has its bytes
module _ (w : Walk) (bytes : List ℕ) (j : Judgement) (is-judged : j ≡ judged_bytes w bytes) (z : j.number ≡ 0) where
  well : (bytes_refusal w bytes).number ≡ 0
  well = sym (answered (length bytes) (line_bytes w) w (words_of bytes) j is-judged) ∙ z

  size : length bytes ≡ line_bytes w
  size = (accepted (length bytes) (line_bytes w) w (words_of bytes) well).size

pub returns-then-judgement-ne0 : goal.returns-then-judgement-ne0
returns-then-judgement-ne0 c =
    let a = c.args in
    let both = judge_refused_result a.walk a.bytes.now a.row.now _ c.judge-judgement.ensures c.if-judgement-ne0.true in
    record { answer = both.0; row = both.1 }

pub returns-then-row-ne-ROW_LENGTH : goal.returns-then-row-ne-ROW_LENGTH
returns-then-row-ne-ROW_LENGTH c =
    let a = c.args in
    let both = room_result a.walk a.bytes.now a.row.now _ (well a.walk a.bytes.now _ c.judge-judgement.ensures c.if-judgement-ne0.false)
    c.if-row-ne-ROW_LENGTH.true (c.refused.ensures ∙ ap (refused_at a.walk) (c.from.ensures ∙ ap numbered c.at.ensures)) in
    record { answer = both.0; row = both.1 }

pub gives_row-requires : goal.gives_row-requires
gives_row-requires c =
    let a = c.args in
    omega (arith, size a.walk a.bytes.now _ c.judge-judgement.ensures c.if-judgement-ne0.false, line_is_parts (system_of a.walk.system))

pub slice_bounds-pack_active-end : goal.slice_bounds-pack_active-end
slice_bounds-pack_active-end c =
    let a = c.args in
    omega (arith, size a.walk a.bytes.now _ c.judge-judgement.ensures c.if-judgement-ne0.false, c.line_bytes-size.ensures.bytes)

pub pack_active-requires-clause-by_index : goal.pack_active-requires-clause-by_index
pack_active-requires-clause-by_index c =
    let a = c.args in
    let z = c.if-judgement-ne0.false in
    let judged = c.judge-judgement.ensures in
    sliced_small a.walk a.bytes.now (size a.walk a.bytes.now _ judged z) _ c.line_bytes-size.ensures.bytes (sym c.gives_row.ensures ∙ c.if-gives_row.true)
    (well a.walk a.bytes.now _ judged z)

pub returns-then-gives_row : goal.returns-then-gives_row
returns-then-gives_row c =
    let a = c.args in
    let z = c.if-judgement-ne0.false in
    let judged = c.judge-judgement.ensures in
    let row = c.pack_active.ensures ∙ sliced_row a.walk a.bytes.now (size a.walk a.bytes.now _ judged z) _ c.line_bytes-size.ensures.bytes in
    let both = given_result a.walk a.bytes.now a.row.now c.if-row-ne-ROW_LENGTH.false _ judged z (sym c.gives_row.ensures ∙ c.if-gives_row.true) _ row in
    record { answer = both.0; row = both.1 }

pub returns-else-gives_row : goal.returns-else-gives_row
returns-else-gives_row c =
    let a = c.args in
    let both = blank_result a.walk a.bytes.now a.row.now c.if-row-ne-ROW_LENGTH.false _ c.judge-judgement.ensures (sym c.gives_row.ensures ∙ c.if-gives_row.false) in
    record { answer = both.0; row = both.1 }
