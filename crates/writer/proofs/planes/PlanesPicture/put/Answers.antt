-- `writer::planes::put` meets its contract, group by group. Assumes nothing.
use Prim.Native.Nat.{◌+◌, ◌-◌, ◌*◌}
use mathlib.Core.Path.{refl}
use native.Mathlib.Omega.{arith}
use lib.ListN.{get_or, set}
use Rattle.line.specs.Samples.{Samples}
use Rattle.writer.specs.Passes.{active_word}
use Rattle.writer.proofs.Places.{cb_at, cr_at, y_at}
use Rattle.writer.proofs.Puts.{put_store}
use Rattle.writer.proofs.planes.PlanesPicture.put.Goals as goal

pub loop-group-preserved : goal.loop-group-preserved
loop-group-preserved c =
    let a = c.args in
    let p : Samples = record { y = a.self.now.y.now; cb = a.self.now.cb.now; cr = a.self.now.cr.now } in
    let k = c.loop-group.group in
    let i = a.at + 4 * k in
    let word = active_word p a.at in
    let l0 = a.words.now in
    let l1 = set c.loop-group.words i (get_or p.cb k 0) in
    let l2 = set l1 (i + 1) (get_or p.y (2 * k) 0) in
    let l3 = set l2 (i + 2) (get_or p.cr k 0) in
    let p1 = put_store word a.at l0 i (i + 1) _ c.loop-group.words c.loop-group.invariant refl (omega arith) (omega arith) (cb_at p k (i - a.at) (omega arith)) in
    let p2 = put_store word a.at l0 (i + 1) (i + 2) _ l1 p1 (omega arith) (omega arith) (omega arith) (y_at p (2 * k) (i + 1 - a.at) (omega arith)) in
    let p3 = put_store word a.at l0 (i + 2) (i + 3) _ l2 p2 (omega arith) (omega arith) (omega arith) (cr_at p k (i + 2 - a.at) (omega arith)) in
    put_store word a.at l0 (i + 3) (a.at + 4 * (k + 1)) _ l3 p3 (omega arith) (omega arith) (omega arith) (y_at p (2 * k + 1) (i + 3 - a.at) (omega arith))
