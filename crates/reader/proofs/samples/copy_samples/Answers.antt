-- `reader::samples::copy_samples` meets its contract. The loop's invariant: each group passed has its samples in their places. Assumes nothing.
use Prim.Native.Nat.{ℕ, ◌+◌, ◌*◌}
use mathlib.Core.Path.{refl, ap}
use native.Mathlib.Omega.{arith}
use lib.ListN.{get_or, set, length-set}
use Rattle.line.specs.Samples.{y_length, c_length}
use Rattle.words.proofs.Tabs.{is_tab}
use Rattle.words.proofs.Stores.{store_more}
use Rattle.reader.proofs.samples.copy_samples.Goals as goal

pub loop-k-init : goal.loop-k-init
loop-k-init c =
    record {
      within = omega arith;
      y_length_is = omega arith;
      cb_length_is = omega arith;
      cr_length_is = omega arith;
      ys = λ j l. absurd (omega arith);
      cbs = λ j l. absurd (omega arith);
      crs = λ j l. absurd (omega arith);
    }

pub overflow_mul-group : goal.overflow_mul-group
overflow_mul-group c = omega arith

pub overflow_add-group : goal.overflow_add-group
overflow_add-group c = omega arith

pub offset_bounds-words-group : goal.offset_bounds-words-group
offset_bounds-words-group c = omega arith

pub bounds-words-group : goal.bounds-words-group
bounds-words-group c = omega arith

pub offset_bounds-cb-k : goal.offset_bounds-cb-k
offset_bounds-cb-k c = omega arith

pub bounds-cb-k : goal.bounds-cb-k
bounds-cb-k c = omega arith

pub overflow_add-y : goal.overflow_add-y
overflow_add-y c = omega arith

pub offset_bounds-words-group-in-loop-k : goal.offset_bounds-words-group-in-loop-k
offset_bounds-words-group-in-loop-k c = omega arith

pub bounds-words-group-in-loop-k : goal.bounds-words-group-in-loop-k
bounds-words-group-in-loop-k c = omega arith

pub overflow_mul-y : goal.overflow_mul-y
overflow_mul-y c = omega arith

pub offset_bounds-y-k : goal.offset_bounds-y-k
offset_bounds-y-k c = omega arith

pub bounds-y-k : goal.bounds-y-k
bounds-y-k c = omega arith

pub overflow_add-cr : goal.overflow_add-cr
overflow_add-cr c = omega arith

pub offset_bounds-words-group-in-loop-k-2 : goal.offset_bounds-words-group-in-loop-k-2
offset_bounds-words-group-in-loop-k-2 c = omega arith

pub bounds-words-group-in-loop-k-2 : goal.bounds-words-group-in-loop-k-2
bounds-words-group-in-loop-k-2 c = omega arith

pub offset_bounds-cr-k : goal.offset_bounds-cr-k
offset_bounds-cr-k c = omega arith

pub bounds-cr-k : goal.bounds-cr-k
bounds-cr-k c = omega arith

pub overflow_add-y-in-loop-k : goal.overflow_add-y-in-loop-k
overflow_add-y-in-loop-k c = omega arith

pub offset_bounds-words-group-in-loop-k-3 : goal.offset_bounds-words-group-in-loop-k-3
offset_bounds-words-group-in-loop-k-3 c = omega arith

pub bounds-words-group-in-loop-k-3 : goal.bounds-words-group-in-loop-k-3
bounds-words-group-in-loop-k-3 c = omega arith

pub overflow_mul-y-in-loop-k : goal.overflow_mul-y-in-loop-k
overflow_mul-y-in-loop-k c = omega arith

pub overflow_add-y-in-loop-k-2 : goal.overflow_add-y-in-loop-k-2
overflow_add-y-in-loop-k-2 c = omega arith

pub offset_bounds-y-k-in-loop-k : goal.offset_bounds-y-k-in-loop-k
offset_bounds-y-k-in-loop-k c = omega arith

pub bounds-y-k-in-loop-k : goal.bounds-y-k-in-loop-k
bounds-y-k-in-loop-k c = simp length-set (omega arith)

pub overflow_step-k : goal.overflow_step-k
overflow_step-k c = omega arith

pub loop-k-smaller : goal.loop-k-smaller
loop-k-smaller c = omega arith

pub loop-k-preserved : goal.loop-k-preserved
loop-k-preserved c =
    let words = c.args.words.now in
    let active : ℕ = c.args.active in
    let k : ℕ = c.loop-k.k in
    let t = c.loop-k.invariant in
    let ys : ℕ → ℕ = λ j. get_or words (active + (2 * j + 1)) 0 in
    record {
      within = omega arith;
      y_length_is = simp length-set (omega arith);
      cb_length_is = simp length-set (omega arith);
      cr_length_is = simp length-set (omega arith);
      ys = λ j l.
          store_more ys (set c.loop-k.y (2 * k) (get_or words (active + 4 * k + 1) 0)) (2 * k + 1) _ (simp length-set (omega arith))
          (store_more ys c.loop-k.y (2 * k) _ (omega arith) t.ys (ap (λ (n : ℕ). get_or words n 0) (omega arith)))
          (ap (λ (n : ℕ). get_or words n 0) (omega arith)) j (omega arith);
      cbs = store_more (λ j. get_or words (active + 4 * j) 0) c.loop-k.cb k _ (omega arith) t.cbs refl;
      crs = store_more (λ j. get_or words (active + (4 * j + 2)) 0) c.loop-k.cr k _ (omega arith) t.crs (ap (λ (n : ℕ). get_or words n 0) (omega arith));
    }

pub shape_of-y : goal.shape_of-y
shape_of-y c = omega arith

pub shape_of-cb : goal.shape_of-cb
shape_of-cb c = omega arith

pub shape_of-cr : goal.shape_of-cr
shape_of-cr c = omega arith

pub returns : goal.returns
returns c =
    let l = c.loop-k in record { ys = is_tab _ y_length l.y l.invariant.y_length_is (λ j h. l.invariant.ys j (omega arith)); cbs = is_tab _ c_length l.cb l.invariant.cb_length_is (λ j h. l.invariant.cbs j (omega arith)); crs = is_tab _ c_length l.cr l.invariant.cr_length_is (λ j h. l.invariant.crs j (omega arith)) }
