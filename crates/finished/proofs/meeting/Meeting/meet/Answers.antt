-- `finished::meeting::Meeting::meet` meets its contract: a difference stays, and of the same bytes there is none. Assumes nothing.
use Rattle.std.proofs.Common.{sym}
use Rattle.std.proofs.lemmas.Slice.Eq.{slice_eq-Decides}
use Rattle.std.proofs.lemmas.Bool.Decides.{Decides-eqb}
use Rattle.index.specs.Entries.{entries_of}
use Rattle.finished.specs.Check.{met_of}
use Rattle.finished.proofs.Entries.{differ_never}
use Rattle.finished.proofs.meeting.Meeting.meet.Goals as goal

pub returns-then-eq : goal.returns-then-eq
unfolding met_of
returns-then-eq c =
    let a = c.args in
    let same = (slice_eq-Decides Decides-eqb a.ours.now a.theirs.now _ c.eq.ensures).0 c.if-eq.true in
    simp c.if-self.false (rw same (sym (differ_never (entries_of a.theirs.now))))
