-- `retention::carrying::Carried::reach` meets its contract: the sink is handed the entries that the call put, of what lies ready no more is taken
-- than there is, and no more is put than the room holds. Assumes nothing.
use Rattle.std.proofs.Common.{◌≡◌, ℕ, ◌+◌, ◌-◌, ◌/◌, ◌≤◌, List, length, take, drop, ap, arith, length-drop, length-take-le}
use Rattle.index.specs.Entries.{entry_length}
use Rattle.finished.specs.declared.Made.{Made}
use Rattle.finished.specs.Finish.{made_of}
use Rattle.finished.proofs.Theorems.{finish_fits}
use Rattle.retention.specs.declared.carrying.Carried.{Carried}
use Rattle.retention.specs.Turn.{Turned}
use Rattle.retention.proofs.Turns.{put_entries, reached_end, reached_part}
use Rattle.retention.proofs.carrying.Carried.reach.Goals as goal

module _ (first : Carried) (count : ℕ) (made : Made) (buffer : List ℕ) (room : ℕ) (low : first.at ≤ first.have)
    (high : first.have + count ≤ length buffer)
    (taken : made.taken ≡ (made_of (room / entry_length) first.finishing (take (first.have + count - first.at) (drop first.at buffer))).taken)
    (put : made.put ≡ length (made_of (room / entry_length) first.finishing (take (first.have + count - first.at) (drop first.at buffer))).index) where
  taken_before : first.at + made.taken ≤ first.have + count
  taken_before =
      let bytes = take (first.have + count - first.at) (drop first.at buffer) in
      let fits = finish_fits (room / entry_length) first.finishing bytes 0 (length bytes) (omega arith) in
      omega (arith, taken, fits.taken, length-take-le (first.have + count - first.at) (drop first.at buffer) (omega (arith, length-drop first.at buffer)))

  put_within : made.put ≤ room
  put_within =
      let bytes = take (first.have + count - first.at) (drop first.at buffer) in
      let fits = finish_fits (room / entry_length) first.finishing bytes 0 (length bytes) (omega arith) in
      omega (arith, put, fits.index.long, fits.most)

pub overflow_add-end : goal.overflow_add-end
overflow_add-end c =
    let a = c.args in
    let made = c.follow-made.ensures in
    omega (arith, c.ranges.count, c.requires.1, taken_before a.self.now a.count c.follow-made.result a.buffer.now (length a.room.now) c.requires.0 c.requires.1 made.taken made.put)

pub slice_bounds-take-end : goal.slice_bounds-take-end
slice_bounds-take-end c =
    let a = c.args in
    let made = c.follow-made.ensures in
    omega (arith, c.requires.1, taken_before a.self.now a.count c.follow-made.result a.buffer.now (length a.room.now) c.requires.0 c.requires.1 made.taken made.put)

pub slice_bounds-take-end-2 : goal.slice_bounds-take-end-2
slice_bounds-take-end-2 c =
    let a = c.args in
    let made = c.follow-made.ensures in
    omega (arith, put_within a.self.now a.count c.follow-made.result a.buffer.now (length a.room.now) c.requires.0 c.requires.1 made.taken made.put)

pub slice_bounds-take-end-3 : goal.slice_bounds-take-end-3
slice_bounds-take-end-3 c =
    let a = c.args in
    let made = c.follow-made.ensures in
    let within : c.follow-made.result.put ≤ length c.follow-made.new.room = slice_bounds-take-end-2 c in
    omega (arith, length-take-le c.follow-made.result.put c.follow-made.new.room within, put_within a.self.now a.count c.follow-made.result a.buffer.now (length a.room.now) c.requires.0 c.requires.1 made.taken made.put)

pub returns-then-end-buffer-clause-turn : goal.returns-then-end-buffer-clause-turn
returns-then-end-buffer-clause-turn c =
    let t = c.take-taken.ensures in
    let a = c.args in
    let made = c.follow-made.ensures in
    let put = put_entries _ a.room.now _ _ made.put made.room in
    reached_end a.self.now a.count (length a.room.now) a.buffer.now _ _ _ made.state made.taken put _ t.0 t.1 _ c.if-end-buffer.true c.moved.ensures

pub returns-clause-turn : goal.returns-clause-turn
returns-clause-turn c =
    let t = c.take-taken.ensures in
    let a = c.args in
    let made = c.follow-made.ensures in
    let put = put_entries _ a.room.now _ _ made.put made.room in
    reached_part a.self.now a.count (length a.room.now) a.buffer.now _ _ _ made.state made.taken put _ t.0 t.1 _ c.if-end-buffer.false c.moved-2.ensures

pub returns-clause-ready : goal.returns-clause-ready
returns-clause-ready c =
    let a = c.args in
    let made = c.follow-made.ensures in
    let moved = c.moved-2.ensures in
    let taken = taken_before a.self.now a.count c.follow-made.result a.buffer.now (length a.room.now) c.requires.0 c.requires.1 made.taken made.put in
    let at = ap (λ (x : Turned). x.carried.at) moved in
    let have = ap (λ (x : Turned). x.carried.have) moved in (omega (arith, at, have, taken), omega (arith, have, c.requires.1))
