-- `retention::sink::Index::meet_some` meets its contract: whether there are entries. Assumes nothing.
use Rattle.std.proofs.Common.{true, length, eq-eqb, ne_eqb, ◌∙◌, ◌≡◌, rules}
use Rattle.retention.specs.Turn.{met_some}
use Rattle.retention.proofs.Turns.{wrote_as}
use Rattle.retention.proofs.sink.Index.meet_some.Goals as goal

pub returns-then-is_empty : goal.returns-then-is_empty
unfolding met_some
returns-then-is_empty c =
    let none : length c.args.entries.now ≡ 0 = search rules in (wrote_as true, simp (eq-eqb _ 0 none))

pub returns : goal.returns
unfolding met_some
returns c =
    let some : length c.args.entries.now ≡ 0 → ⊥ = search rules in
    (c.meet.ensures.0, c.meet.ensures.1 ∙ (simp (ne_eqb _ 0 some)))
