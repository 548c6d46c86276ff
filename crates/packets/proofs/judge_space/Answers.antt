-- `packets::judge_space` meets its contract: the words behind the space do not matter. Assumes nothing.
use Rattle.std.proofs.Common.{sym, ◌∙◌}
use Rattle.packets.proofs.Local.{space_taken}
use Rattle.packets.proofs.judge_space.Goals as goal

pub returns-in-Some : goal.returns-in-Some
returns-in-Some c =
    let a = c.args in
    sym c.in-Some.ensures ∙ space_taken a.words.now a.start c.min.result a.end a.fill.even a.fill.odd c.min.ensures

pub returns-in-None : goal.returns-in-None
returns-in-None c =
    let a = c.args in
    c.scan.ensures ∙ space_taken a.words.now a.start c.min.result a.end a.fill.even a.fill.odd c.min.ensures
